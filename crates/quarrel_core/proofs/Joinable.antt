-- Made proofs join to the made proof.
use Rattle.std.proofs.Common.{◌≡◌, ℕ, zero, suc, ◌+◌, ◌-◌, ◌<◌, ◌≤◌, ◌⊎◌, ⊎_elim, inl, inr, Bool}
use Rattle.std.proofs.Common.{true, false, List, [], ◌∷◌, ◌++◌, length, take, drop, Some, sym, ◌∙◌}
use Rattle.std.proofs.Common.{ap, refl, arith}
use Rattle.std.specs.Prelude.{Option, map, reverse}
use Rattle.std.proofs.lemmas.Bool.{cases_lt, cond-true, false≢true}
use Rattle.std.proofs.lemmas.List.{drop-map, drop-take, length-drop, length-map, length-take}
use Rattle.std.proofs.lemmas.List.{length-take-le, reverse-append, reverse-reverse, take-map}
use Rattle.std.proofs.lemmas.List.{take-take, take_all}
use Rattle.byte_formats.specs.Types.{Hash, HashFunction}
use Rattle.tree_core.proofs.Powers.{split_bounds}
use Rattle.tree_core.proofs.Roots.{part_sizes}
use Rattle.tree_core.specs.Path.{part_of}
use Rattle.tree_core.specs.Split.{split_of}
use Rattle.tree_core.specs.Tree.{leaf_hash, root_of, tree_hash}
use Rattle.tree_proofs.proofs.Aligned.{IsAligned, IsAligned-first, IsAligned-from_words}
use Rattle.tree_proofs.proofs.Checked.{aligned_right, proof_opens}
use Rattle.tree_proofs.proofs.Made.{cases_place, proof_of-left, proof_of-over, proof_of-right}
use Rattle.tree_proofs.proofs.Parts.{part_of-drop, part_of-take, part_of-zero}
use Rattle.tree_proofs.specs.declared.outcome.Opened.{Opened}
use Rattle.tree_proofs.specs.Open.{open_from_root, opened_at}
use Rattle.tree_proofs.specs.Proof.{consistency_proof, proof_of}
use Rattle.collide.specs.Inputs.{pair_input}
use Rattle.quarrel_core.proofs.JoiningSteps.{joined-left, joined-over, joined-same, joined-whole}
use Rattle.quarrel_core.proofs.JoiningSteps.{joined_there, over-left, over-over, over-right}
use Rattle.quarrel_core.proofs.Levels.{parts_same}
use Rattle.quarrel_core.proofs.Parted.{prefix_split}
use Rattle.quarrel_core.specs.Joining.{joined_right, joined_from_root, joined_left, joined_of}
use Rattle.quarrel_core.specs.Joining.{joined_turned, joined_with, same_pair}
use Rattle.quarrel_core.specs.Laws.{MadeProofsJoin}
use Rattle.quarrel_core.specs.declared.joined.Joined.{Joined}
use Rattle.quarrel_core.specs.declared.joined.Joined.TheVariants.{Pair, Proof}

-- A made proof from the root down, and how it opens.

made : HashFunction → ℕ → ℕ → Bool → List Hash → List Hash
made h s e known leaves = reverse (proof_of h s e known leaves)

pushed : (h : HashFunction) (s e : ℕ) (known : Bool) (leaves rest : List Hash) (z : Hash)
    → proof_of h s e known leaves ≡ rest ++ z ∷ [] → made h s e known leaves ≡ z ∷ reverse rest
unfolding made
pushed h s e known leaves rest z is = ap reverse is ∙ reverse-append rest (z ∷ [])

made-left : (h : HashFunction) (s e k : ℕ) (known : Bool) (leaves : List Hash)
    → 1 < length leaves → split_of (length leaves) ≡ k → s < e → e ≤ k
    → made h s e known leaves ≡ root_of h (drop k leaves) ∷ made h s e known (take k leaves)
unfolding made
made-left h s e k known leaves more is order left =
    pushed h s e known leaves (proof_of h s e known (take k leaves)) (root_of h (drop k leaves))
    (proof_of-left h s e k known leaves more is order left)

made-right : (h : HashFunction) (s e k : ℕ) (known : Bool) (leaves : List Hash)
    → split_of (length leaves) ≡ k → s < e → e ≤ length leaves → k ≤ s
    → made h s e known leaves
    ≡ root_of h (take k leaves) ∷ made h (s - k) (e - k) known (drop k leaves)
unfolding made
made-right h s e k known leaves is order within right =
    pushed h s e known leaves (proof_of h (s - k) (e - k) known (drop k leaves))
    (root_of h (take k leaves)) (proof_of-right h s e k known leaves is order within right)

made-over : (h : HashFunction) (s e k : ℕ) (known : Bool) (leaves : List Hash)
    → split_of (length leaves) ≡ k → e ≤ length leaves → (0 < s) ⊎ (e < length leaves)
    → s < k → k < e
    → made h s e known leaves
    ≡ root_of h (take k leaves) ∷ made h 0 (e - k) false (drop k leaves)
unfolding made
made-over h s e k known leaves is within inner before past =
    pushed h s e known leaves (proof_of h 0 (e - k) false (drop k leaves))
    (root_of h (take k leaves)) (proof_of-over h s e k known leaves is within inner before past)

made_opens : (h : HashFunction) (s e n : ℕ) (known : Bool) (node : Hash) (leaves : List Hash)
    → IsAligned s e → e ≤ n → length leaves ≡ n
    → (known ≡ true → node ≡ root_of h (part_of leaves s e))
    → open_from_root h s e n known node (made h s e known leaves)
    ≡ Some (opened_at (root_of h (part_of leaves s e)) (root_of h leaves))
unfolding made
made_opens h s e n known node leaves aligned within size is =
    ap (λ (i : ℕ). open_from_root h s e i known node (reverse (proof_of h s e known leaves)))
    (sym size)
    ∙ proof_opens (length leaves) h s e known node leaves (omega arith) aligned (omega arith) is

-- what both give is the same
left_same : (y z : Hash) (p : List Hash) (part beside : Opened) → part.root ≡ z
    → y ≡ beside.subtree
    → joined_left y z p (Some part) (Some beside) ≡ Proof (beside.root ∷ p)
left_same y z p part beside first second =
    cond-true (same_pair part.root y z beside.subtree) (Proof (beside.root ∷ p))
    (Pair (pair_input part.root y) (pair_input z beside.subtree))
    (parts_same part.root y z beside.subtree first second)

after_same : (y z : Hash) (rest : Joined) (part beside : Opened) → y ≡ z
    → part.root ≡ beside.subtree
    → joined_right y z rest (Some part) (Some beside) ≡ joined_with z rest
after_same y z rest part beside first second =
    cond-true (same_pair y part.root z beside.subtree) (joined_with z rest)
    (Pair (pair_input y part.root) (pair_input z beside.subtree))
    (parts_same y part.root z beside.subtree first second)

-- What is joined is made, in a list of leaves: the first n of them, all, and a subtree of the n.
abbrev IsMade : HashFunction → ℕ → ℕ → ℕ → Bool → Bool → Hash → Hash → List Hash → Type 0
IsMade h s e n known still node prefix leaves =
    joined_from_root h s e n (length leaves) known node prefix (made h s e known (take n leaves))
    (made h 0 n still leaves)
    ≡ Proof (made h s e known leaves)

same_made : (h : HashFunction) (s e n : ℕ) (known still : Bool) (node prefix : Hash)
    (leaves : List Hash) → n ≡ length leaves → IsMade h s e n known still node prefix leaves
same_made h s e n known still node prefix leaves same =
    joined-same h s e n (length leaves) known node prefix (made h s e known (take n leaves))
    (made h 0 n still leaves) same
    ∙ ap (λ (all : List Hash). Proof (made h s e known all)) (take_all n leaves (omega arith))

left_made : (h : HashFunction) (s e n : ℕ) (known still : Bool) (node prefix : Hash)
    (leaves : List Hash) → s < e → e ≤ n → n < length leaves → n ≤ split_of (length leaves)
    → IsMade h s e n known still node prefix (take (split_of (length leaves)) leaves)
    → IsMade h s e n known still node prefix leaves
left_made h s e n known still node prefix leaves order within less left rest =
    let k = split_of (length leaves) in
    let bounds = split_bounds (length leaves) in
    let more : 1 < length leaves = omega arith in
    let some : 0 < n = omega arith in
    let inside : e ≤ split_of (length leaves) = omega arith in
    let sizes = part_sizes leaves in
    let size : length (take (split_of (length leaves)) leaves) ≡ split_of (length leaves) =
    omega arith in
    let z = root_of h (drop k leaves) in
    let p = made h s e known (take n leaves) in
    let q = made h 0 n still (take k leaves) in
    let prefix_is : take n (take (split_of (length leaves)) leaves) ≡ take n leaves =
    take-take n (split_of (length leaves)) leaves left in
    ap (joined_from_root h s e n (length leaves) known node prefix p)
    (made-left h 0 n k still leaves more refl some left)
    ∙ joined-left h s e n (length leaves) known node prefix z p q less left
    ∙ ap (joined_with z)
    (ap (λ (i : ℕ). joined_from_root h s e n i known node prefix p q) (sym size)
    ∙ ap (λ (all : List Hash). joined_from_root h s e n (length (take k leaves)) known node prefix
    (made h s e known all) q) (sym prefix_is)
    ∙ rest)
    ∙ ap (λ (r : List Hash). Proof r) (sym (made-left h s e k known leaves more refl order inside))

-- the first n entries go beyond the split
over_made : (h : HashFunction) (s e n : ℕ) (known still : Bool) (node prefix : Hash)
    (leaves : List Hash) → IsAligned s e → e ≤ n → n < length leaves
    → split_of (length leaves) < n
    → (known ≡ true → node ≡ root_of h (part_of leaves s e))
    → ((from to : ℕ) (yet : Bool) → IsAligned from to → to ≤ n - split_of (length leaves)
    → (yet ≡ true → node ≡ root_of h (part_of (drop (split_of (length leaves)) leaves) from to))
    → IsMade h from to (n - split_of (length leaves)) yet false node prefix
    (drop (split_of (length leaves)) leaves))
    → IsMade h s e n known still node prefix leaves
over_made h s e n known still node prefix leaves aligned within less above is recurse =
    let k = split_of (length leaves) in
    let m = length leaves in
    let order = aligned.inhabited in
    let bounds = split_bounds (length leaves) in
    let positive = bounds.positive in
    let begin : 0 < split_of (length leaves) = omega arith in
    let split = prefix_split n (length leaves) (omega arith) above in
    let taken : length (take n leaves) ≡ n = length-take-le n leaves (omega arith) in
    let dropped : length (drop (split_of (length leaves)) leaves)
    ≡ length leaves - split_of (length leaves) = length-drop (split_of (length leaves)) leaves in
    let prefix_split_is : split_of (length (take n leaves)) ≡ split_of (length leaves) =
    ap split_of taken ∙ split in
    let z = root_of h (take k leaves) in
    let q = made h 0 (n - k) false (drop k leaves) in
    let p_all = made h s e known (take n leaves) in
    let own_left : take (split_of (length leaves)) (take n leaves)
    ≡ take (split_of (length leaves)) leaves =
    take-take (split_of (length leaves)) n leaves (omega arith) in
    let n_is : n ≡ split_of (length leaves) + (n - split_of (length leaves)) = omega arith in
    let own_right : drop (split_of (length leaves)) (take n leaves)
    ≡ take (n - split_of (length leaves)) (drop (split_of (length leaves)) leaves) =
    ap (λ (i : ℕ). drop (split_of (length leaves)) (take i leaves)) n_is
    ∙ drop-take (split_of (length leaves)) (n - split_of (length leaves)) leaves in
    let beside_opens : open_from_root h 0 (n - split_of (length leaves))
    (length leaves - split_of (length leaves)) false prefix
    (made h 0 (n - split_of (length leaves)) false (drop (split_of (length leaves)) leaves))
    ≡ Some (opened_at (root_of h (part_of (drop (split_of (length leaves)) leaves) 0
    (n - split_of (length leaves)))) (root_of h (drop (split_of (length leaves)) leaves))) =
    made_opens h 0 (n - split_of (length leaves)) (length leaves - split_of (length leaves)) false
    prefix (drop (split_of (length leaves)) leaves)
    (IsAligned-first (n - split_of (length leaves)) (omega arith)) (omega arith) dropped
    (λ known. absurd (false≢true known)) in
    let beside = opened_at (root_of h (part_of (drop k leaves) 0 (n - k)))
    (root_of h (drop k leaves)) in
    let share : root_of h (drop k (take n leaves)) ≡ root_of h (part_of (drop k leaves) 0 (n - k)) =
    ap (root_of h) (own_right
    ∙ sym (part_of-zero (drop (split_of (length leaves)) leaves)
    (n - split_of (length leaves)))) in
    let turned = made-over h 0 n k still leaves refl (omega arith) (inr less) begin above in
    ap (joined_from_root h s e n m known node prefix p_all) turned
    ∙ cases_place s e n order within
    (λ first last.
    let all : e ≤ length leaves = omega arith in
    let inner : (0 < s) ⊎ (e < length leaves) = inr (omega arith) in
    let early : s < split_of (length leaves) = omega arith in
    let late : split_of (length leaves) < e = omega arith in
    joined-whole h s e n m known node prefix z p_all q less above first last
    ∙ ap (λ (i : ℕ). Proof (z ∷ made h 0 (i - k) false (drop k leaves))) (sym last)
    ∙ ap (λ (r : List Hash). Proof r) (sym (made-over h s e k known leaves refl all inner early
    late)))
    (λ more left.
    let inside : e ≤ split_of (length leaves) = omega arith in
    let inner : (0 < s) ⊎ (e < n) = inr (omega arith) in
    let long : 1 < length leaves = omega arith in
    let long_prefix : 1 < length (take n leaves) = omega arith in
    let y = root_of h (drop k (take n leaves)) in
    let p = made h s e known (take k leaves) in
    let size : length (take (split_of (length leaves)) leaves) ≡ split_of (length leaves) =
    length-take-le (split_of (length leaves)) leaves (omega arith) in
    let own_is : made h s e known (take n leaves) ≡ y ∷ p =
    made-left h s e k known (take n leaves) long_prefix prefix_split_is order inside
    ∙ ap (λ (all : List Hash). y ∷ made h s e known all) own_left in
    let part = opened_at (root_of h (part_of (take k leaves) s e)) z in
    let opens = made_opens h s e k known node (take k leaves) aligned inside size
    (λ yes. is yes ∙ ap (root_of h) (sym (part_of-take leaves s e (split_of (length leaves))
    (omega arith) inside))) in
    ap (λ (r : List Hash). joined_from_root h s e n m known node prefix r (z ∷ q)) own_is
    ∙ joined-over h s e n m known node prefix z (y ∷ p) q less above inner
    ∙ over-left h s e n k known node z y (open_from_root h 0 (n - k) (m - k) false prefix q)
    (joined_there h n m node prefix q) p inside
    ∙ ap (λ (o : Option Opened). joined_left y z p o
    (open_from_root h 0 (n - k) (m - k) false prefix q)) opens
    ∙ ap (joined_left y z p (Some part)) beside_opens
    ∙ left_same y z p part beside refl share
    ∙ ap (λ (r : List Hash). Proof r) (sym (made-left h s e k known leaves long refl order inside)))
    (λ more right.
    let there : split_of (length leaves) ≤ s = omega arith in
    let past : split_of (length leaves) < e = omega arith in
    let inner : (0 < s) ⊎ (e < n) = inl (omega arith) in
    let y = root_of h (take k (take n leaves)) in
    let p = made h (s - k) (e - k) known (drop k (take n leaves)) in
    let inside : e ≤ length (take n leaves) = omega arith in
    let own_is : made h s e known (take n leaves) ≡ y ∷ p =
    made-right h s e k known (take n leaves) prefix_split_is order inside there in
    let short : length (drop (split_of (length leaves)) (take n leaves))
    ≡ n - split_of (length leaves) =
    length-drop (split_of (length leaves)) (take n leaves)
    ∙ ap (λ (i : ℕ). i - split_of (length leaves)) taken in
    let lies = aligned_right s e (length leaves) aligned (omega arith) there in
    let fits : e - split_of (length leaves) ≤ n - split_of (length leaves) = omega arith in
    let part = opened_at (root_of h (part_of (drop k (take n leaves)) (s - k) (e - k)))
    (root_of h (drop k (take n leaves))) in
    let opens = made_opens h (s - k) (e - k) (n - k) known node (drop k (take n leaves)) lies fits
    short
    (λ yes. is yes
    ∙ ap (root_of h) (sym (part_of-take leaves s e n (omega arith) within)
    ∙ sym (part_of-drop (take n leaves) s e (split_of (length leaves)) there))) in
    ap (λ (r : List Hash). joined_from_root h s e n m known node prefix r (z ∷ q)) own_is
    ∙ joined-over h s e n m known node prefix z (y ∷ p) q less above inner
    ∙ over-right h s e n k known node z y (open_from_root h 0 (n - k) (m - k) false prefix q)
    (joined_there h n m node prefix q) p past there
    ∙ ap (λ (o : Option Opened). joined_right y z
    (joined_there h n m node prefix q (s - k) (e - k) known p) o
    (open_from_root h 0 (n - k) (m - k) false prefix q)) opens
    ∙ ap (joined_right y z (joined_there h n m node prefix q (s - k) (e - k) known p)
    (Some part))
    beside_opens
    ∙ after_same y z (joined_there h n m node prefix q (s - k) (e - k) known p) part beside
    (ap (root_of h) own_left) share
    ∙ ap (joined_with z)
    (there_made h n node prefix leaves (s - k) (e - k) known own_right
    (recurse (s - k) (e - k) known lies fits
    (λ yes. is yes ∙ ap (root_of h) (sym (part_of-drop leaves s e (split_of (length leaves))
    there)))))
    ∙ ap (λ (r : List Hash). Proof r)
    (sym (made-right h s e k known leaves refl order (omega arith) there)))
    (λ more inner before following.
    let early : s < split_of (length leaves) = omega arith in
    let past : split_of (length leaves) < e = omega arith in
    let y = root_of h (take k (take n leaves)) in
    let p = made h 0 (e - k) false (drop k (take n leaves)) in
    let inside : e ≤ length (take n leaves) = omega arith in
    let inner_prefix : (0 < s) ⊎ (e < length (take n leaves)) =
    ⊎_elim (λ (later : 0 < s). inl later) (λ (part : e < n). inr (omega arith)) inner in
    let own_is : made h s e known (take n leaves) ≡ y ∷ p =
    made-over h s e k known (take n leaves) prefix_split_is inside inner_prefix early past in
    let short : length (drop (split_of (length leaves)) (take n leaves))
    ≡ n - split_of (length leaves) =
    length-drop (split_of (length leaves)) (take n leaves)
    ∙ ap (λ (i : ℕ). i - split_of (length leaves)) taken in
    let lies = IsAligned-first (e - split_of (length leaves)) (omega arith) in
    let fits : e - split_of (length leaves) ≤ n - split_of (length leaves) = omega arith in
    let part = opened_at (root_of h (part_of (drop k (take n leaves)) 0 (e - k)))
    (root_of h (drop k (take n leaves))) in
    let opens = made_opens h 0 (e - k) (n - k) false node (drop k (take n leaves)) lies fits short
    (λ yes. absurd (false≢true yes)) in
    ap (λ (r : List Hash). joined_from_root h s e n m known node prefix r (z ∷ q)) own_is
    ∙ joined-over h s e n m known node prefix z (y ∷ p) q less above inner
    ∙ over-over h s e n k known node z y (open_from_root h 0 (n - k) (m - k) false prefix q)
    (joined_there h n m node prefix q) p past early
    ∙ ap (λ (o : Option Opened). joined_right y z
    (joined_there h n m node prefix q 0 (e - k) false p) o
    (open_from_root h 0 (n - k) (m - k) false prefix q)) opens
    ∙ ap (joined_right y z (joined_there h n m node prefix q 0 (e - k) false p) (Some part))
    beside_opens
    ∙ after_same y z (joined_there h n m node prefix q 0 (e - k) false p) part beside
    (ap (root_of h) own_left) share
    ∙ ap (joined_with z)
    (there_made h n node prefix leaves 0 (e - k) false own_right
    (recurse 0 (e - k) false lies fits (λ yes. absurd (false≢true yes))))
    ∙ ap (λ (r : List Hash). Proof r)
    (sym (made-over h s e k known leaves refl (omega arith) (inr (omega arith)) early past)))
  where
    there_made : (h : HashFunction) (n : ℕ) (node prefix : Hash) (leaves : List Hash)
        (from to : ℕ) (yet : Bool)
        → drop (split_of (length leaves)) (take n leaves)
        ≡ take (n - split_of (length leaves)) (drop (split_of (length leaves)) leaves)
        → IsMade h from to (n - split_of (length leaves)) yet false node prefix
        (drop (split_of (length leaves)) leaves)
        → joined_there h n (length leaves) node prefix
        (made h 0 (n - split_of (length leaves)) false (drop (split_of (length leaves)) leaves))
        from to yet (made h from to yet (drop (split_of (length leaves)) (take n leaves)))
        ≡ Proof (made h from to yet (drop (split_of (length leaves)) leaves))
    there_made h n node prefix leaves from to yet own rest =
        let k = split_of (length leaves) in
        let q = made h 0 (n - k) false (drop k leaves) in
        ap (λ (all : List Hash). joined_from_root h from to (n - k) (length leaves - k) yet node
        prefix (made h from to yet all) q) own
        ∙ ap (λ (i : ℕ). joined_from_root h from to (n - k) i yet node prefix
        (made h from to yet (take (n - k) (drop k leaves))) q)
        (sym (length-drop (split_of (length leaves)) leaves))
        ∙ rest

all_made : (depth : ℕ) (h : HashFunction) (s e n : ℕ) (known still : Bool) (node prefix : Hash)
    (leaves : List Hash) → length leaves ≤ depth → IsAligned s e → e ≤ n → n ≤ length leaves
    → (known ≡ true → node ≡ root_of h (part_of leaves s e))
    → IsMade h s e n known still node prefix leaves
all_made zero h s e n known still node prefix leaves bound aligned within grows is =
    let some = aligned.inhabited in
    let none : ⊥ = omega arith in absurd none
all_made (suc depth) h s e n known still node prefix leaves bound aligned within grows is =
    let order = aligned.inhabited in
    let sizes = part_sizes leaves in
    let bounds = split_bounds (length leaves) in
    let positive = bounds.positive in
    let taken = length-take (split_of (length leaves)) leaves in
    let dropped = length-drop (split_of (length leaves)) leaves in
    ⊎_elim
    (λ (less : n < length leaves).
    ⊎_elim
    (λ (above : split_of (length leaves) < n).
    over_made h s e n known still node prefix leaves aligned within less above is
    (λ from to yet lies fits knows.
    all_made depth h from to (n - split_of (length leaves)) yet false node prefix
    (drop (split_of (length leaves)) leaves) (omega arith) lies fits (omega arith) knows))
    (λ (left : n ≤ split_of (length leaves)).
    left_made h s e n known still node prefix leaves order within less left
    (all_made depth h s e n known still node prefix (take (split_of (length leaves)) leaves)
    (omega arith) aligned within (omega arith)
    (λ yes. is yes ∙ ap (root_of h) (sym (part_of-take leaves s e (split_of (length leaves))
    (omega arith) (omega arith))))))
    (cases_lt (split_of (length leaves)) n))
    (λ (le : length leaves ≤ n). same_made h s e n known still node prefix leaves (omega arith))
    (cases_lt n (length leaves))

pub MadeProofsJoin_always : (h : HashFunction) → MadeProofsJoin h
unfolding joined_of made
MadeProofsJoin_always h entries start end n valid within grows =
    let aligned = IsAligned-from_words start end valid in
    let order = aligned.inhabited in
    let leaves = map (leaf_hash h) entries in
    let size = length-map entries (leaf_hash h) in
    let node = tree_hash h (part_of entries start end) in
    let prefix = tree_hash h (take n entries) in
    let part : part_of (map (leaf_hash h) entries) start end
    ≡ map (leaf_hash h) (part_of entries start end) =
    ap (take (end - start)) (drop-map (leaf_hash h) start entries)
    ∙ take-map (leaf_hash h) (end - start) (drop start entries) in
    ap joined_turned
    (ap (λ (i : ℕ). joined_from_root h start end n i true node prefix
    (reverse (consistency_proof h start end true (take n entries)))
    (reverse (consistency_proof h 0 n true entries))) (sym size)
    ∙ ap (λ (all : List Hash). joined_from_root h start end n (length (map (leaf_hash h) entries))
    true node prefix (reverse (proof_of h start end true all))
    (reverse (consistency_proof h 0 n true entries))) (sym (take-map (leaf_hash h) n entries))
    ∙ all_made (length (map (leaf_hash h) entries)) h start end n true true node prefix
    (map (leaf_hash h) entries) (omega arith) aligned within (omega arith)
    (λ yes. ap (root_of h) (sym part)))
    ∙ ap (λ (r : List Hash). Proof r)
    (reverse-reverse (consistency_proof h start end true entries))
