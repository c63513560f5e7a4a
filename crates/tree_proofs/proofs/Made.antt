-- The cases of the definition of a consistency proof, at any depth that is not below the number of
-- leaves, and in a part of a list.
use Rattle.std.proofs.Common.{◌≡◌, ℕ, zero, suc, ◌+◌, ◌-◌, ◌<◌, ◌≤◌, ◌⊎◌, ⊎_elim, inl, inr, Bool}
use Rattle.std.proofs.Common.{true, false, ◌&&◌, cond, eqb, List, [], ◌∷◌, ◌++◌, length, take, drop}
use Rattle.std.proofs.Common.{sym, ◌∙◌, ap, refl, arith}
use Rattle.std.proofs.lemmas.Bool.{and_from, and_left, and_right, cond-false, cond-true, eq-eqb}
use Rattle.std.proofs.lemmas.Bool.{ne_eqb, le-leb, lt-leb, cases_lt}
use Rattle.std.specs.Prelude.{map}
use Rattle.std.proofs.lemmas.List.{drop-map, length-drop, length-map, length-take, take-map}
use Rattle.std.proofs.lemmas.Nat.{pow_pos}
use Rattle.tree_core.proofs.Paths.{split_of-entries}
use Rattle.tree_core.proofs.Powers.{split_bounds}
use Rattle.tree_core.proofs.Roots.{part_sizes}
use Rattle.tree_core.specs.Laws.{IsLargestPowerBelow}
use Rattle.tree_core.specs.Path.{part_of}
use Rattle.tree_core.specs.Split.{split_of}
use Rattle.tree_core.specs.Tree.{leaf_hash, root_of, tree_hash}
use Rattle.tree_proofs.proofs.Parts.{part-drop, part-length, part-take}
use Rattle.tree_proofs.specs.Proof.{consistency_proof, proof_of, proof_within}
use Rattle.tree_proofs.specs.ProofLaws.{IsConsistencyProof, IsRfcProof}

-- an interval that is not the whole of n entries
pub other-whole : (start end n : ℕ) → (0 < start) ⊎ (end < n) → (eqb start 0 && eqb end n) ≡ false
other-whole start end n other =
    ⊎_elim
    (λ (later : 0 < start). and_left (eqb start 0) (eqb end n)
    (ne_eqb start 0 (λ first. omega arith)))
    (λ (before : end < n). and_right (eqb start 0) (eqb end n) (ne_eqb end n (λ last. omega arith)))
    other

-- One step.

proof_within-whole : (depth : ℕ) (h : List ℕ
    → List ℕ) (s e : ℕ) (known : Bool) (leaves : List (List ℕ))
    → s ≡ 0 → e ≡ length leaves
    → proof_within (suc depth) h s e known leaves ≡ cond known [] (root_of h leaves ∷ [])
unfolding proof_within
proof_within-whole depth h s e known leaves first last =
    cond-true _ _ _ (and_from (eqb s 0) (eqb e (length leaves)) (eq-eqb s 0 first)
    (eq-eqb e (length leaves) last))

proof_within-left : (depth : ℕ) (h : List ℕ
    → List ℕ) (s e : ℕ) (known : Bool) (leaves : List (List ℕ))
    → 1 < length leaves → e ≤ split_of (length leaves)
    → proof_within (suc depth) h s e known leaves
    ≡ proof_within depth h s e known (take (split_of (length leaves)) leaves)
    ++ root_of h (drop (split_of (length leaves)) leaves) ∷ []
unfolding proof_within
proof_within-left depth h s e known leaves more left =
    let bounds = split_bounds (length leaves) in
    cond-false _ _ _ (other-whole s e (length leaves) (inr (omega arith)))
    ∙ cond-true _ _ _ (le-leb e (split_of (length leaves)) left)

proof_within-right : (depth : ℕ) (h : List ℕ
    → List ℕ) (s e : ℕ) (known : Bool) (leaves : List (List ℕ))
    → s < e → split_of (length leaves) ≤ s
    → proof_within (suc depth) h s e known leaves
    ≡ proof_within depth h (s - split_of (length leaves)) (e - split_of (length leaves)) known
    (drop (split_of (length leaves)) leaves)
    ++ root_of h (take (split_of (length leaves)) leaves) ∷ []
unfolding proof_within
proof_within-right depth h s e known leaves some right =
    let bounds = split_bounds (length leaves) in
    cond-false _ _ _ (other-whole s e (length leaves) (inl (omega arith)))
    ∙ cond-false _ _ _ (lt-leb e (split_of (length leaves)) (omega arith))
    ∙ cond-true _ _ _ (le-leb (split_of (length leaves)) s right)

proof_within-over : (depth : ℕ) (h : List ℕ
    → List ℕ) (s e : ℕ) (known : Bool) (leaves : List (List ℕ))
    → (0 < s) ⊎ (e < length leaves) → s < split_of (length leaves) → split_of (length leaves) < e
    → proof_within (suc depth) h s e known leaves
    ≡ proof_within depth h 0 (e - split_of (length leaves)) false
    (drop (split_of (length leaves)) leaves)
    ++ root_of h (take (split_of (length leaves)) leaves) ∷ []
unfolding proof_within
proof_within-over depth h s e known leaves part before following =
    cond-false _ _ _ (other-whole s e (length leaves) part)
    ∙ cond-false _ _ _ (lt-leb e (split_of (length leaves)) following)
    ∙ cond-false _ _ _ (lt-leb (split_of (length leaves)) s before)

-- where an interval lies: it is the whole, or on one side of the split, or on both
pub cases_place : {P : Type 0} (s e n : ℕ) → s < e → e ≤ n
    → (s ≡ 0 → e ≡ n → P)
    → (1 < n → e ≤ split_of n → P)
    → (1 < n → split_of n ≤ s → P)
    → (1 < n → (0 < s) ⊎ (e < n) → s < split_of n → split_of n < e → P)
    → P
cases_place {P = P} s e n some within whole left right over =
    ⊎_elim
    (λ (later : 0 < s). part (inl later) (omega arith))
    (λ (first : s ≤ 0).
    ⊎_elim
    (λ (before : e < n). part (inr before) (omega arith))
    (λ (last : n ≤ e). whole (omega arith) (omega arith))
    (cases_lt e n))
    (cases_lt 0 s)
  where
    part : (0 < s) ⊎ (e < n) → 1 < n → P
    part inner more =
        ⊎_elim
        (λ (following : split_of n < e).
        ⊎_elim
        (λ (before : s < split_of n). over more inner before following)
        (λ (le : split_of n ≤ s). right more le)
        (cases_lt s (split_of n)))
        (λ (le : e ≤ split_of n). left more le)
        (cases_lt (split_of n) e)

-- a bound on the depth that is not below the number of leaves changes nothing
proof_within_more : (d f : ℕ) (h : List ℕ
    → List ℕ) (s e : ℕ) (known : Bool) (leaves : List (List ℕ))
    → length leaves ≤ d → length leaves ≤ f → s < e → e ≤ length leaves
    → proof_within d h s e known leaves ≡ proof_within f h s e known leaves
proof_within_more zero f h s e known leaves small same some within = let none : ⊥ =
    omega arith in absurd none
proof_within_more (suc d) zero h s e known leaves small same some within = let none : ⊥ =
    omega arith in absurd none
proof_within_more (suc d) (suc f) h s e known leaves small same some within =
    let k = split_of (length leaves) in
    let sizes = part_sizes leaves in
    cases_place s e (length leaves) some within
    (λ first last.
    proof_within-whole d h s e known leaves first last
    ∙ sym (proof_within-whole f h s e known leaves first last))
    (λ more le.
    proof_within-left d h s e known leaves more le
    ∙ ap (λ p. p ++ root_of h (drop k leaves) ∷ [])
    (proof_within_more d f h s e known (take (split_of (length leaves)) leaves)
    (omega arith) (omega arith) some (omega arith))
    ∙ sym (proof_within-left f h s e known leaves more le))
    (λ more le.
    proof_within-right d h s e known leaves some le
    ∙ ap (λ p. p ++ root_of h (take k leaves) ∷ [])
    (proof_within_more d f h (s - split_of (length leaves)) (e - split_of (length leaves)) known
    (drop (split_of (length leaves)) leaves)
    (omega arith) (omega arith) (omega arith) (omega arith))
    ∙ sym (proof_within-right f h s e known leaves some le))
    (λ more part before following.
    proof_within-over d h s e known leaves part before following
    ∙ ap (λ p. p ++ root_of h (take k leaves) ∷ [])
    (proof_within_more d f h 0 (e - split_of (length leaves)) false
    (drop (split_of (length leaves)) leaves)
    (omega arith) (omega arith) (omega arith) (omega arith))
    ∙ sym (proof_within-over f h s e known leaves part before following))

-- The whole definition, which has no bound on the depth.

pub proof_of-whole : (h : List ℕ → List ℕ) (s e : ℕ) (known : Bool) (leaves : List (List ℕ))
    → s ≡ 0 → e ≡ length leaves → 0 < length leaves
    → proof_of h s e known leaves ≡ cond known [] (root_of h leaves ∷ [])
unfolding proof_of
proof_of-whole h s e known [] first last some = let none : ⊥ = omega arith in absurd none
proof_of-whole h s e known (x ∷ rest) first last some =
    proof_within-whole (length rest) h s e known (x ∷ rest) first last

pub proof_of-left : (h : List ℕ → List ℕ) (s e k : ℕ) (known : Bool) (leaves : List (List ℕ))
    → 1 < length leaves → split_of (length leaves) ≡ k → s < e → e ≤ k
    → proof_of h s e known leaves ≡ proof_of h s e known (take k leaves)
    ++ root_of h (drop k leaves) ∷ []
unfolding proof_of
proof_of-left h s e k known [] more is some left = let none : ⊥ = omega arith in absurd none
proof_of-left h s e k known (x ∷ rest) more is some left =
    let leaves : List (List ℕ) = x ∷ rest in
    let bounds = split_bounds (length (x ∷ rest)) in
    let size = length-take (split_of (length (x ∷ rest))) (x ∷ rest) in
    proof_within-left (length rest) h s e known (x ∷ rest) more (omega arith)
    ∙ ap (λ p. p ++ root_of h (drop (split_of (length leaves)) leaves) ∷ [])
    (proof_within_more (length rest) (length (take (split_of (length leaves)) leaves)) h s e known
    (take (split_of (length leaves)) leaves) (omega arith) (omega arith) some (omega arith))
    ∙ ap (λ k. proof_of h s e known (take k leaves) ++ root_of h (drop k leaves) ∷ []) is

pub proof_of-right : (h : List ℕ → List ℕ) (s e k : ℕ) (known : Bool) (leaves : List (List ℕ))
    → split_of (length leaves) ≡ k → s < e → e ≤ length leaves → k ≤ s
    → proof_of h s e known leaves
    ≡ proof_of h (s - k) (e - k) known (drop k leaves) ++ root_of h (take k leaves) ∷ []
unfolding proof_of
proof_of-right h s e k known [] is some within right = let none : ⊥ = omega arith in absurd none
proof_of-right h s e k known (x ∷ rest) is some within right =
    let leaves : List (List ℕ) = x ∷ rest in
    let bounds = split_bounds (length (x ∷ rest)) in
    let size = length-drop (split_of (length (x ∷ rest))) (x ∷ rest) in
    proof_within-right (length rest) h s e known (x ∷ rest) some (omega arith)
    ∙ ap (λ p. p ++ root_of h (take (split_of (length leaves)) leaves) ∷ [])
    (proof_within_more (length rest) (length (drop (split_of (length leaves)) leaves)) h
    (s - split_of (length leaves)) (e - split_of (length leaves)) known
    (drop (split_of (length leaves)) leaves) (omega arith) (omega arith) (omega arith)
    (omega arith))
    ∙ ap (λ k. proof_of h (s - k) (e - k) known (drop k leaves)
    ++ root_of h (take k leaves) ∷ []) is

pub proof_of-over : (h : List ℕ → List ℕ) (s e k : ℕ) (known : Bool) (leaves : List (List ℕ))
    → split_of (length leaves) ≡ k → e ≤ length leaves → (0 < s) ⊎ (e < length leaves)
    → s < k → k < e
    → proof_of h s e known leaves
    ≡ proof_of h 0 (e - k) false (drop k leaves) ++ root_of h (take k leaves) ∷ []
unfolding proof_of
proof_of-over h s e k known [] is within part before following = let none : ⊥ =
    omega arith in absurd none
proof_of-over h s e k known (x ∷ rest) is within part before following =
    let leaves : List (List ℕ) = x ∷ rest in
    let bounds = split_bounds (length (x ∷ rest)) in
    let size = length-drop (split_of (length (x ∷ rest))) (x ∷ rest) in
    proof_within-over (length rest) h s e known (x ∷ rest) part (omega arith) (omega arith)
    ∙ ap (λ p. p ++ root_of h (take (split_of (length leaves)) leaves) ∷ [])
    (proof_within_more (length rest) (length (drop (split_of (length leaves)) leaves)) h
    0 (e - split_of (length leaves)) false
    (drop (split_of (length leaves)) leaves) (omega arith) (omega arith) (omega arith)
    (omega arith))
    ∙ ap (λ k. proof_of h 0 (e - k) false (drop k leaves) ++ root_of h (take k leaves) ∷ []) is

-- Over entries, with the split in the standard's words.
pub IsConsistencyProof_always : (h : List ℕ → List ℕ) → IsConsistencyProof h
IsConsistencyProof_always h = record {
  known = λ entries some. whole entries true some;
  whole = λ entries some. whole entries false some;
  left = λ entries start end k known is some within.
      let split = split_of-entries h entries k is in
      proof_of-left h start end k known (map (leaf_hash h) entries) split.0 split.1 some within
      ∙ ap (λ l. proof_of h start end known l
      ++ root_of h (drop k (map (leaf_hash h) entries)) ∷ []) (take-map (leaf_hash h) k entries)
      ∙ ap (λ r. consistency_proof h start end known (take k entries) ++ root_of h r ∷ [])
      (drop-map (leaf_hash h) k entries);
  right = λ entries start end k known is some within following.
      let split = split_of-entries h entries k is in
      let size = length-map entries (leaf_hash h) in
      proof_of-right h start end k known (map (leaf_hash h) entries) split.1 some
      (omega arith) following
      ∙ ap (λ l. proof_of h (start - k) (end - k) known l
      ++ root_of h (take k (map (leaf_hash h) entries)) ∷ []) (drop-map (leaf_hash h) k entries)
      ∙ ap (λ r. consistency_proof h (start - k) (end - k) known (drop k entries)
      ++ root_of h r ∷ []) (take-map (leaf_hash h) k entries);
  over = λ entries end k known is following part.
      let split = split_of-entries h entries k is in
      let size = length-map entries (leaf_hash h) in
      proof_of-over h 0 end k known (map (leaf_hash h) entries) split.1 (omega arith)
      (inr (omega arith)) (let below = is.below in positive k is) following
      ∙ ap (λ l. proof_of h 0 (end - k) false l
      ++ root_of h (take k (map (leaf_hash h) entries)) ∷ []) (drop-map (leaf_hash h) k entries)
      ∙ ap (λ r. consistency_proof h 0 (end - k) false (drop k entries) ++ root_of h r ∷ [])
      (take-map (leaf_hash h) k entries);
}
  where
    whole : (entries : List (List ℕ)) (known : Bool) → 0 < length entries
        → consistency_proof h 0 (length entries) known entries
        ≡ cond known [] (tree_hash h entries ∷ [])
    whole entries known some =
        let size = length-map entries (leaf_hash h) in
        proof_of-whole h 0 (length entries) known (map (leaf_hash h) entries) refl (sym size)
        (omega arith)

    positive : {n : ℕ} (k : ℕ) → IsLargestPowerBelow n k → 0 < k
    positive k is = let some = pow_pos is.power.0 in let power = is.power.1 in omega arith

-- The same of the first entries of a list.
pub IsRfcProof_always : (h : List ℕ → List ℕ) → IsRfcProof h
IsRfcProof_always h =
    let is = IsConsistencyProof_always h in
    record {
      known = is.known;
      whole = is.whole;
      left = λ entries m k known largest some within.
          is.left entries 0 m k known largest some within;
      right = λ entries m k known largest following part.
          is.over entries m k known largest following part;
    }

-- The proof in a part of a list, by the halves of its interval.

-- the right half, with other words for where the interval lies in it, and the root of the left half
in_halves : (h : List ℕ → List ℕ) (xs : List (List ℕ)) (low middle high s e first end : ℕ)
    (known : Bool)
    → low ≤ middle → middle ≤ high → s ≡ first → e ≡ end
    → proof_of h s e known (drop (middle - low) (part_of xs low high))
    ++ root_of h (take (middle - low) (part_of xs low high)) ∷ []
    ≡ proof_of h first end known (part_of xs middle high) ++ root_of h (part_of xs low middle) ∷ []
in_halves h xs low middle high s e first end known from to begin stop =
    ap (λ i. proof_of h i e known (drop (middle - low) (part_of xs low high))
    ++ root_of h (take (middle - low) (part_of xs low high)) ∷ []) begin
    ∙ ap (λ i. proof_of h first i known (drop (middle - low) (part_of xs low high))
    ++ root_of h (take (middle - low) (part_of xs low high)) ∷ []) stop
    ∙ ap (λ l. proof_of h first end known (drop (middle - low) (part_of xs low high))
    ++ root_of h l ∷ [])
    (part-take xs low middle high from to)
    ∙ ap (λ r. proof_of h first end known r ++ root_of h (part_of xs low middle) ∷ [])
    (part-drop xs low middle high from to)

pub part_proof-left : (h : List ℕ → List ℕ) (xs : List (List ℕ)) (first end low middle high : ℕ)
    (known : Bool)
    → high ≤ length xs → low + 1 < high → middle ≡ low + split_of (high - low)
    → low ≤ first → first < end → end ≤ middle
    → proof_of h (first - low) (end - low) known (part_of xs low high)
    ≡ proof_of h (first - low) (end - low) known (part_of xs low middle)
    ++ root_of h (part_of xs middle high) ∷ []
part_proof-left h xs first end low middle high known within more is from some left =
    let bounds = split_bounds (high - low) in
    let size = part-length xs low high within in
    proof_of-left h (first - low) (end - low) (middle - low) known (part_of xs low high)
    (omega arith) (ap split_of size ∙ omega arith) (omega arith) (omega arith)
    ∙ ap (λ l. proof_of h (first - low) (end - low) known l
    ++ root_of h (drop (middle - low) (part_of xs low high)) ∷ [])
    (part-take xs low middle high (omega arith) (omega arith))
    ∙ ap (λ r. proof_of h (first - low) (end - low) known (part_of xs low middle)
    ++ root_of h r ∷ [])
    (part-drop xs low middle high (omega arith) (omega arith))

pub part_proof-right : (h : List ℕ → List ℕ) (xs : List (List ℕ)) (first end low middle high : ℕ)
    (known : Bool)
    → high ≤ length xs → low + 1 < high → middle ≡ low + split_of (high - low)
    → middle ≤ first → first < end → end ≤ high
    → proof_of h (first - low) (end - low) known (part_of xs low high)
    ≡ proof_of h (first - middle) (end - middle) known (part_of xs middle high)
    ++ root_of h (part_of xs low middle) ∷ []
part_proof-right h xs first end low middle high known within more is right some inside =
    let bounds = split_bounds (high - low) in
    let size = part-length xs low high within in
    let begin : (first - low) - (middle - low) ≡ first - middle = omega arith in
    let stop : (end - low) - (middle - low) ≡ end - middle = omega arith in
    proof_of-right h (first - low) (end - low) (middle - low) known (part_of xs low high)
    (ap split_of size ∙ omega arith) (omega arith) (omega arith) (omega arith)
    ∙ in_halves h xs low middle high _ _ (first - middle) (end - middle) known (omega arith)
    (omega arith) begin stop

pub part_proof-over : (h : List ℕ → List ℕ) (xs : List (List ℕ)) (first end low middle high : ℕ)
    (known : Bool)
    → high ≤ length xs → low + 1 < high → middle ≡ low + split_of (high - low)
    → low ≤ first → (low < first) ⊎ (end < high) → first < middle → middle < end → end ≤ high
    → proof_of h (first - low) (end - low) known (part_of xs low high)
    ≡ proof_of h (middle - middle) (end - middle) false (part_of xs middle high)
    ++ root_of h (part_of xs low middle) ∷ []
part_proof-over h xs first end low middle high known within more is from part before following
    inside =
    let bounds = split_bounds (high - low) in
    let size = part-length xs low high within in
    let begin : 0 ≡ middle - middle = omega arith in
    let stop : (end - low) - (middle - low) ≡ end - middle = omega arith in
    let inner : (0 < first - low) ⊎ (end - low < length (part_of xs low high)) =
    ⊎_elim
    (λ (later : low < first). inl (omega arith))
    (λ (before : end < high). inr (omega arith))
    part in
    proof_of-over h (first - low) (end - low) (middle - low) known (part_of xs low high)
    (ap split_of size ∙ omega arith) (omega arith) inner (omega arith) (omega arith)
    ∙ in_halves h xs low middle high _ _ (middle - middle) (end - middle) false (omega arith)
    (omega arith) begin stop

pub part_proof-whole : (h : List ℕ → List ℕ) (xs : List (List ℕ)) (first end low high : ℕ)
    (known : Bool)
    → high ≤ length xs → first ≡ low → end ≡ high → low < high
    → proof_of h (first - low) (end - low) known (part_of xs low high)
    ≡ cond known [] (root_of h (part_of xs low high) ∷ [])
part_proof-whole h xs first end low high known within first_is end_is some =
    let size = part-length xs low high within in
    proof_of-whole h (first - low) (end - low) known (part_of xs low high) (omega arith)
    (omega arith) (omega arith)
