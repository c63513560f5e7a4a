-- Made consistency proofs check, and only proofs of their length have a value.
use Rattle.std.proofs.Common.{◌≡◌, ℕ, zero, suc, ◌+◌, ◌-◌, ◌^◌, ◌<◌, ◌≤◌, ⊎_elim, inl, inr, Bool}
use Rattle.std.proofs.Common.{true, false, cond, eqb, leb, List, [], ◌∷◌, ◌++◌, length, take, drop}
use Rattle.std.proofs.Common.{Some, None, Ok, Err, sym, ◌∙◌, ap, refl, subst, arith}
use Rattle.std.specs.Prelude.{Option, Result, is_some, map, not, option_map, reverse, bytes_eq}
use Rattle.std.proofs.lemmas.Bool.{cases_eq, eq-eqb, eqb-true, ne_eqb, cond-false, cond-true}
use Rattle.std.proofs.lemmas.Bool.{false≢true, le-leb, leb-true, lt-leb, not_from_false}
use Rattle.std.proofs.lemmas.Bool.{not_from_true}
use Rattle.std.proofs.lemmas.List.{drop-map, length-map, length-reverse, length_push}
use Rattle.std.proofs.lemmas.List.{reverse-append, take-map}
use Rattle.std.proofs.lemmas.Slice.Eq.{bytes_eq-Decides}
use Rattle.tree_core.proofs.Powers.{split_bounds, split_power, split_unique}
use Rattle.tree_core.proofs.Roots.{part_sizes, root_of-split}
use Rattle.tree_core.proofs.Subtrees.{is_subtree-from}
use Rattle.tree_core.specs.Path.{part_of}
use Rattle.tree_core.specs.Split.{split_of}
use Rattle.tree_core.specs.Subtree.{is_subtree}
use Rattle.tree_core.specs.Tree.{leaf_hash, pair_hash, root_of, tree_hash}
use Rattle.tree_proofs.proofs.Aligned.{IsAligned, IsAligned-first, IsAligned-from_words}
use Rattle.tree_proofs.proofs.Aligned.{IsAligned-over, IsAligned-right}
use Rattle.tree_proofs.proofs.Made.{cases_place, proof_of-left, proof_of-over, proof_of-right}
use Rattle.tree_proofs.proofs.Made.{proof_of-whole}
use Rattle.tree_proofs.proofs.Opens.{is_some-map, open-left, open-over, open-right, open-short}
use Rattle.tree_proofs.proofs.Opens.{open-whole}
use Rattle.tree_proofs.proofs.Parts.{part-root, part-whole, part_of-drop, part_of-take}
use Rattle.tree_proofs.proofs.Parts.{part_of-zero}
use Rattle.tree_proofs.specs.Consistency.{compared, consistency}
use Rattle.tree_proofs.specs.declared.error.ConsistError.{ConsistError}
use Rattle.tree_proofs.specs.declared.error.ConsistError.TheVariants.{BadSubtree, Beyond}
use Rattle.tree_proofs.specs.declared.error.ConsistError.TheVariants.{WrongLength, WrongNode}
use Rattle.tree_proofs.specs.declared.error.ConsistError.TheVariants.{WrongRoot}
use Rattle.tree_proofs.specs.declared.outcome.Opened.{Opened}
use Rattle.tree_proofs.specs.Open.{both_right_of, open_from_root, open_of, open_whole, opened_at}
use Rattle.tree_proofs.specs.Open.{root_left_of, root_right_of}
use Rattle.tree_proofs.specs.Proof.{proof_of}
use Rattle.tree_proofs.specs.ProofLaws.{PassesWhereChecks, ProofsCheck, WrongLengthByProof}

-- A made proof opens.

pub aligned_right : (s e n : ℕ) → IsAligned s e → e ≤ n → split_of n ≤ s
    → IsAligned (s - split_of n) (e - split_of n)
aligned_right s e n aligned within following =
    let power = split_power n in
    let is : split_of n ≡ 2 ^ power.0 = power.1 in
    let bounds = split_bounds n in
    subst (λ k. IsAligned (s - k) (e - k)) (sym is)
    (IsAligned-right s e n power.0 aligned within (omega arith) (omega arith))

pub aligned_over : (s e n : ℕ) → IsAligned s e → e ≤ n → s < split_of n → split_of n < e → s ≡ 0
aligned_over s e n aligned within before following =
    let power = split_power n in
    let is : split_of n ≡ 2 ^ power.0 = power.1 in
    let bounds = split_bounds n in
    IsAligned-over s e n power.0 aligned within (omega arith) (omega arith) (omega arith)

-- an interval that goes beyond a split is split there too
split_same : (e n : ℕ) → e ≤ n → split_of n < e → split_of e ≡ split_of n
split_same e n within following =
    let power = split_power n in
    let is : split_of n ≡ 2 ^ power.0 = power.1 in
    let bounds = split_bounds n in
    split_unique e power.0 (omega arith) (omega arith) ∙ sym is

whole_opens : (known : Bool) (node root : List ℕ) → (known ≡ true → node ≡ root)
    → open_whole known node (reverse (cond known [] (root ∷ []))) ≡ Some (opened_at root root)
whole_opens true node root is = ap (λ x. Some (opened_at x x)) (is refl)
whole_opens false node root is = refl

pub proof_opens : (depth : ℕ) (h : List ℕ → List ℕ) (s e : ℕ) (known : Bool) (node : List ℕ)
    (leaves : List (List ℕ))
    → length leaves ≤ depth → IsAligned s e → e ≤ length leaves
    → (known ≡ true → node ≡ root_of h (part_of leaves s e))
    → open_from_root h s e (length leaves) known node (reverse (proof_of h s e known leaves))
    ≡ Some (opened_at (root_of h (part_of leaves s e)) (root_of h leaves))
proof_opens zero h s e known node leaves bound aligned within is =
    let some = aligned.inhabited in
    let none : ⊥ = omega arith in absurd none
proof_opens (suc depth) h s e known node leaves bound aligned within is =
    let n = length leaves in
    let k = split_of (length leaves) in
    let some = aligned.inhabited in
    let sizes = part_sizes leaves in
    cases_place s e (length leaves) some within
    (λ first last.
    let all : root_of h (part_of leaves s e) ≡ root_of h leaves =
    ap (λ i. root_of h (part_of leaves i e)) first
    ∙ ap (λ i. root_of h (part_of leaves 0 i)) last
    ∙ ap (root_of h) (part-whole leaves) in
    open-whole h s e n known node (reverse (proof_of h s e known leaves)) first last
    ∙ ap (λ p. open_whole known node (reverse p)) (proof_of-whole h s e known leaves first last
    (omega arith))
    ∙ whole_opens known node (root_of h leaves) (λ yes_known. is yes_known ∙ all)
    ∙ ap (λ x. Some (opened_at x (root_of h leaves))) (sym all))
    (λ more le.
    let p = proof_of h s e known (take k leaves) in
    let z = root_of h (drop k leaves) in
    let size : length (take (split_of (length leaves)) leaves) ≡ split_of (length leaves) =
    omega arith in
    let part = part_of-take leaves s e (split_of (length leaves)) (omega arith) le in
    let rest = proof_opens depth h s e known node (take (split_of (length leaves)) leaves)
    (omega arith) aligned
    (omega arith) (λ yes_known. is yes_known ∙ ap (root_of h) (sym part)) in
    ap (λ q. open_from_root h s e n known node (reverse q))
    (proof_of-left h s e k known leaves more refl some le)
    ∙ ap (open_from_root h s e n known node) (reverse-append p (z ∷ []))
    ∙ open-left h s e n k known node z (reverse p) more refl le
    ∙ ap (λ i. option_map (root_left_of h z) (open_from_root h s e i known node (reverse p)))
    (sym size)
    ∙ ap (option_map (root_left_of h z)) rest
    ∙ ap (λ u. Some (opened_at u (pair_hash h (root_of h (take k leaves)) z))) (ap (root_of h) part)
    ∙ ap (λ r. Some (opened_at (root_of h (part_of leaves s e)) r))
    (sym (root_of-split h leaves more)))
    (λ more le.
    let p = proof_of h (s - k) (e - k) known (drop k leaves) in
    let z = root_of h (take k leaves) in
    let part = part_of-drop leaves s e (split_of (length leaves)) le in
    let rest = proof_opens depth h (s - split_of (length leaves))
    (e - split_of (length leaves)) known node
    (drop (split_of (length leaves)) leaves) (omega arith)
    (aligned_right s e (length leaves) aligned within le)
    (omega arith) (λ yes_known. is yes_known ∙ ap (root_of h) (sym part)) in
    ap (λ q. open_from_root h s e n known node (reverse q))
    (proof_of-right h s e k known leaves refl some within le)
    ∙ ap (open_from_root h s e n known node) (reverse-append p (z ∷ []))
    ∙ open-right h s e n k (s - k) (e - k) (n - k) known node z (reverse p) more refl
    (omega arith) (omega arith) (omega arith) (omega arith)
    ∙ ap (λ i. option_map (root_right_of h z) (open_from_root h (s - k) (e - k) i known node
    (reverse p))) (sym sizes.back)
    ∙ ap (option_map (root_right_of h z)) rest
    ∙ ap (λ u. Some (opened_at u (pair_hash h z (root_of h (drop k leaves))))) (ap (root_of h) part)
    ∙ ap (λ r. Some (opened_at (root_of h (part_of leaves s e)) r))
    (sym (root_of-split h leaves more)))
    (λ more inner before following.
    let p = proof_of h 0 (e - k) false (drop k leaves) in
    let z = root_of h (take k leaves) in
    let zeroth = aligned_over s e (length leaves) aligned within before following in
    let part_is : e < length leaves =
    ⊎_elim
    (λ (later : 0 < s). let none : ⊥ = omega arith in absurd none)
    (λ (less : e < length leaves). less)
    inner in
    let same = split_same e (length leaves) within following in
    let last : e - 0 ≡ e = omega arith in
    let split_is : split_of (length leaves) ≡ split_of (e - 0) = sym (ap split_of last ∙ same) in
    let split : split_of (length leaves) ≡ 0 + split_of (e - 0) = omega arith in
    let rest = proof_opens depth h 0 (e - split_of (length leaves)) false node
    (drop (split_of (length leaves)) leaves) (omega arith)
    (IsAligned-first (e - split_of (length leaves)) (omega arith))
    (omega arith) (λ known. absurd (false≢true known)) in
    let joined : pair_hash h z (root_of h (part_of (drop k leaves) 0 (e - k)))
    ≡ root_of h (part_of leaves s e) =
    ap (λ x. pair_hash h z (root_of h x)) (part_of-zero (drop k leaves) (e - k))
    ∙ ap (λ x. pair_hash h (root_of h x) (root_of h (part_of leaves k e)))
    (sym (part_of-zero leaves k))
    ∙ sym (part-root h leaves 0 k e within (omega arith) split)
    ∙ ap (λ i. root_of h (part_of leaves i e)) (sym zeroth) in
    ap (λ q. open_from_root h s e n known node (reverse q))
    (proof_of-over h s e k known leaves refl within inner before following)
    ∙ ap (open_from_root h s e n known node) (reverse-append p (z ∷ []))
    ∙ open-over h s e n k (e - k) (n - k) known node z (reverse p) more refl zeroth
    (omega arith) (omega arith) (omega arith) part_is
    ∙ ap (λ i. option_map (both_right_of h z) (open_from_root h 0 (e - k) i false node (reverse p)))
    (sym sizes.back)
    ∙ ap (option_map (both_right_of h z)) rest
    ∙ ap (λ u. Some (opened_at u (pair_hash h z (root_of h (drop k leaves))))) joined
    ∙ ap (λ r. Some (opened_at (root_of h (part_of leaves s e)) r))
    (sym (root_of-split h leaves more)))

pub ProofsCheck_always : (h : List ℕ → List ℕ) → ProofsCheck h
unfolding open_of
ProofsCheck_always h entries start end is within =
    let leaves = map (leaf_hash h) entries in
    let size : length (map (leaf_hash h) entries) ≡ length entries =
    length-map entries (leaf_hash h) in
    let part : part_of (map (leaf_hash h) entries) start end
    ≡ map (leaf_hash h) (part_of entries start end) =
    ap (take (end - start)) (drop-map (leaf_hash h) start entries)
    ∙ take-map (leaf_hash h) (end - start) (drop start entries) in
    record {
      valid = is_subtree-from start end is;
      within = within;
      opens =
          opens leaves start end (length entries) (IsAligned-from_words start end is)
          (omega arith) size
          (tree_hash h (part_of entries start end)) (ap (root_of h) (sym part));
    }
  where
    opens : (leaves : List (List ℕ)) (start end size : ℕ) → IsAligned start end
        → end ≤ length leaves
        → length leaves ≡ size → (node : List ℕ) → node ≡ root_of h (part_of leaves start end)
        → open_of h start end size true node (proof_of h start end true leaves)
        ≡ Some (opened_at node (root_of h leaves))
    opens leaves start end size aligned within size_is node node_is =
        ap (λ n. open_from_root h start end n true node
        (reverse (proof_of h start end true leaves))) (sym size_is)
        ∙ proof_opens (length leaves) h start end true node leaves (omega arith) aligned within
        (λ known. node_is)
        ∙ ap (λ u. Some (opened_at u (root_of h leaves))) (sym node_is)

-- The whole answer.

pub consistency-no_subtree : (h : List ℕ → List ℕ) (start end size : ℕ) (node root : List ℕ)
    (proof : List (List ℕ)) → is_subtree start end ≡ false
    → consistency h start end size node root proof ≡ Err BadSubtree
unfolding consistency
consistency-no_subtree h start end size node root proof bad = cond-true _ _ _ (not_from_false _ bad)

pub consistency-beyond : (h : List ℕ → List ℕ) (start end size : ℕ) (node root : List ℕ)
    (proof : List (List ℕ)) → is_subtree start end ≡ true → size < end
    → consistency h start end size node root proof ≡ Err Beyond
unfolding consistency
consistency-beyond h start end size node root proof ok beyond =
    cond-false _ _ _ (not_from_true _ ok)
    ∙ cond-true _ _ _ (not_from_false _ (lt-leb end size beyond))

pub consistency-opened : (h : List ℕ → List ℕ) (start end size : ℕ) (node root : List ℕ)
    (proof : List (List ℕ)) → is_subtree start end ≡ true → end ≤ size
    → consistency h start end size node root proof
    ≡ compared node root (open_of h start end size true node proof)
unfolding consistency
consistency-opened h start end size node root proof ok within =
    cond-false _ _ _ (not_from_true _ ok)
    ∙ cond-false _ _ _ (not_from_true _ (le-leb end size within))

-- A proof passes where it checks.

-- the last two tests
abbrev verdict : Bool → Bool → Result (Unit {0}) ConsistError
verdict node root = cond (not node) (Err WrongNode) (cond (not root) (Err WrongRoot) (Ok tt))

both_true : (a b : Bool) → verdict a b ≡ Ok tt → (a ≡ true) × (b ≡ true)
both_true true true passes = (refl, refl)
both_true true false passes = cc
both_true false b passes = cc

compared_passes : (node root : List ℕ) (o : Option Opened) → compared node root o ≡ Ok tt
    → o ≡ Some (opened_at node root)
compared_passes node root None passes = cc
compared_passes node root (Some o) passes =
    let both = both_true (bytes_eq o.subtree node) (bytes_eq o.root root) passes in
    let subtree = bytes_eq-Decides o.subtree node in
    let top = bytes_eq-Decides o.root root in
    ap (λ s. Some (opened_at s o.root)) (subtree.0 both.0)
    ∙ ap (λ r. Some (opened_at node r)) (top.0 both.1)

tests_pass : (node root : List ℕ) (valid within : Bool) (o : Option Opened)
    → cond (not valid) (Err BadSubtree) (cond (not within) (Err Beyond) (compared node root o))
    ≡ Ok tt
    → (valid ≡ true) × ((within ≡ true) × (o ≡ Some (opened_at node root)))
tests_pass node root true true o passes = (refl, (refl, compared_passes node root o passes))
tests_pass node root true false o passes = cc
tests_pass node root false within o passes = cc

pub PassesWhereChecks_always : (h : List ℕ → List ℕ) → PassesWhereChecks h
unfolding consistency
PassesWhereChecks_always h start end size node root proof = (
  λ passes.
      let tests = tests_pass node root (is_subtree start end) (leb end size)
      (open_of h start end size true node proof) passes in
      record {
        valid = tests.0;
        within = leb-true end size tests.1.0;
        opens = tests.1.1;
      },
  λ checks.
      let subtree = bytes_eq-Decides node node in
      let top = bytes_eq-Decides root root in
      consistency-opened h start end size node root proof checks.valid checks.within
      ∙ ap (compared node root) checks.opens
      ∙ cond-false _ _ _ (not_from_true _ (subtree.1 refl))
      ∙ cond-false _ _ _ (not_from_true _ (top.1 refl)),
)

-- A proof has a value exactly if it is as long as the made one.

whole_has : (known : Bool) (node root : List ℕ) (w : List (List ℕ))
    → is_some (open_whole known node w) ≡ eqb (length w) (length (cond known [] (root ∷ [])))
whole_has true node root [] = refl
whole_has true node root (x ∷ w) = sym (ne_eqb (length (x ∷ w)) 0 (λ none. omega arith))
whole_has false node root [] = refl
whole_has false node root (x ∷ []) = refl
whole_has false node root (x ∷ y ∷ w) = sym (ne_eqb (length (x ∷ y ∷ w)) 1 (λ one. omega arith))

eqb_suc : (a b : ℕ) → eqb a b ≡ eqb (suc a) (suc b)
eqb_suc a b =
    ⊎_elim
    (λ (same : a ≡ b). eq-eqb a b same ∙ sym (eq-eqb (suc a) (suc b) (ap suc same)))
    (λ (other : a ≡ b → ⊥). ne_eqb a b other
    ∙ sym (ne_eqb (suc a) (suc b) (λ same. other (omega arith))))
    (cases_eq a b)

-- with one more hash at the end of the made ones, a proof of no hash is too short, and one more is
-- as long where the rest is
one_more : (made rest : List (List ℕ)) (z : List ℕ) (o : Option Opened) → made ≡ rest ++ z ∷ []
    → (q : List (List ℕ)) → is_some o ≡ eqb (length q) (length rest)
    → is_some o ≡ eqb (suc (length q)) (length made)
one_more made rest z o is q has =
    let size : length made ≡ suc (length rest) = ap length is ∙ length_push rest z ∙ omega arith in
    has ∙ eqb_suc (length q) (length rest) ∙ ap (eqb (suc (length q))) (sym size)

none_more : (made rest : List (List ℕ)) (z : List ℕ) → made ≡ rest ++ z ∷ []
    → false ≡ eqb 0 (length made)
none_more made rest z is =
    let size : length made ≡ suc (length rest) = ap length is ∙ length_push rest z ∙ omega arith in
    sym (ne_eqb 0 (length made) (λ none. omega arith))

has_value : (depth : ℕ) (h : List ℕ → List ℕ) (s e : ℕ) (known : Bool) (node : List ℕ)
    (leaves w : List (List ℕ)) → length leaves ≤ depth → IsAligned s e → e ≤ length leaves
    → is_some (open_from_root h s e (length leaves) known node w)
    ≡ eqb (length w) (length (proof_of h s e known leaves))
has_value zero h s e known node leaves w bound aligned within =
    let some = aligned.inhabited in
    let none : ⊥ = omega arith in absurd none
has_value (suc depth) h s e known node leaves [] bound aligned within =
    let some = aligned.inhabited in
    cases_place s e (length leaves) some within
    (λ first last.
    ap is_some (open-whole h s e (length leaves) known node [] first last)
    ∙ whole_has known node (root_of h leaves) []
    ∙ ap (λ p. eqb 0 (length p)) (sym (proof_of-whole h s e known leaves first last (omega arith))))
    (λ more le.
    let bounds = split_bounds (length leaves) in
    ap is_some (open-short h s e (length leaves) known node (inr (omega arith)))
    ∙ none_more _ _ _ (proof_of-left h s e (split_of (length leaves)) known leaves more
    refl some le))
    (λ more le.
    let bounds = split_bounds (length leaves) in
    ap is_some (open-short h s e (length leaves) known node (inl (omega arith)))
    ∙ none_more _ _ _ (proof_of-right h s e (split_of (length leaves)) known leaves refl some
    within le))
    (λ more inner before following.
    ap is_some (open-short h s e (length leaves) known node inner)
    ∙ none_more _ _ _ (proof_of-over h s e (split_of (length leaves)) known leaves refl within inner
    before following))
has_value (suc depth) h s e known node leaves (z ∷ q) bound aligned within =
    let n = length leaves in
    let k = split_of (length leaves) in
    let some = aligned.inhabited in
    let sizes = part_sizes leaves in
    cases_place s e (length leaves) some within
    (λ first last.
    ap is_some (open-whole h s e n known node (z ∷ q) first last)
    ∙ whole_has known node (root_of h leaves) (z ∷ q)
    ∙ ap (λ p. eqb (suc (length q)) (length p))
    (sym (proof_of-whole h s e known leaves first last (omega arith))))
    (λ more le.
    let size : length (take (split_of (length leaves)) leaves) ≡ split_of (length leaves) =
    omega arith in
    let rest = has_value depth h s e known node (take (split_of (length leaves)) leaves) q
    (omega arith) aligned (omega arith) in
    ap is_some (open-left h s e n k known node z q more refl le)
    ∙ is_some-map (root_left_of h z) (open_from_root h s e k known node q)
    ∙ one_more _ _ _ (open_from_root h s e k known node q)
    (proof_of-left h s e k known leaves more refl some le) q
    (ap (λ i. is_some (open_from_root h s e i known node q)) (sym size) ∙ rest))
    (λ more le.
    let rest = has_value depth h (s - k) (e - k) known node (drop (split_of (length leaves)) leaves)
    q (omega arith)
    (aligned_right s e (length leaves) aligned within le) (omega arith) in
    ap is_some (open-right h s e n k (s - k) (e - k) (n - k) known node z q more refl
    (omega arith) (omega arith) (omega arith) (omega arith))
    ∙ is_some-map (root_right_of h z) (open_from_root h (s - k) (e - k) (n - k) known node q)
    ∙ one_more _ _ _ (open_from_root h (s - k) (e - k) (n - k) known node q)
    (proof_of-right h s e k known leaves refl some within le) q
    (ap (λ i. is_some (open_from_root h (s - k) (e - k) i known node q)) (sym sizes.back) ∙ rest))
    (λ more inner before following.
    let zeroth = aligned_over s e (length leaves) aligned within before following in
    let part : e < length leaves =
    ⊎_elim
    (λ (later : 0 < s). let none : ⊥ = omega arith in absurd none)
    (λ (less : e < length leaves). less)
    inner in
    let rest = has_value depth h 0 (e - k) false node (drop (split_of (length leaves)) leaves) q
    (omega arith)
    (IsAligned-first (e - split_of (length leaves)) (omega arith)) (omega arith) in
    ap is_some (open-over h s e n k (e - k) (n - k) known node z q more refl zeroth
    (omega arith) (omega arith) (omega arith) part)
    ∙ is_some-map (both_right_of h z) (open_from_root h 0 (e - k) (n - k) false node q)
    ∙ one_more _ _ _ (open_from_root h 0 (e - k) (n - k) false node q)
    (proof_of-over h s e k known leaves refl within inner before following) q
    (ap (λ i. is_some (open_from_root h 0 (e - k) i false node q)) (sym sizes.back) ∙ rest))

-- the answer of a value or none
not_length : (node root : List ℕ) (o : Opened) → compared node root (Some o) ≡ Err WrongLength → ⊥
not_length node root o wrong = tests (bytes_eq o.subtree node) (bytes_eq o.root root) wrong
  where
    tests : (a b : Bool) → verdict a b ≡ Err WrongLength → ⊥
    tests true true wrong = cc
    tests true false wrong = cc
    tests false b wrong = cc

wrong_length-none : (node root : List ℕ) (o : Option Opened)
    → compared node root o ≡ Err WrongLength
    → is_some o ≡ true → ⊥
wrong_length-none node root None wrong some = false≢true some
wrong_length-none node root (Some x) wrong some = not_length node root x wrong

none-wrong_length : (node root : List ℕ) (o : Option Opened) → (is_some o ≡ true → ⊥)
    → compared node root o ≡ Err WrongLength
none-wrong_length node root None none = refl
none-wrong_length node root (Some x) none = absurd (none refl)

pub WrongLengthByProof_always : (h : List ℕ → List ℕ) → WrongLengthByProof h
unfolding open_of
WrongLengthByProof_always h leaves proof start end node root is within =
    let made = proof_of h start end true leaves in
    let size = length-reverse proof in
    let answer = consistency-opened h start end (length leaves) node root proof
    (is_subtree-from start end is) within in
    let o = open_from_root h start end (length leaves) true node (reverse proof) in
    let has : is_some o ≡ eqb (length proof) (length made) =
    has_value (length leaves) h start end true node leaves (reverse proof) (omega arith)
    (IsAligned-from_words start end is) within ∙ ap (λ l. eqb l (length made)) size in (
      λ wrong same. wrong_length-none node root o (sym answer ∙ wrong) (has
          ∙ eq-eqb (length proof) (length made) same),
      λ other.
          answer ∙ none-wrong_length node root o
          (λ some. other (eqb-true (length proof) (length made) (sym has ∙ some))),
    )
