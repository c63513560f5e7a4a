-- The inclusion path evaluates to the root, and only paths of its length have a value.
use Rattle.std.proofs.Common.{◌≡◌, ℕ, zero, suc, ◌+◌, ◌-◌, ◌^◌, ◌<◌, ◌≤◌, ⊎_elim, Bool, true, false}
use Rattle.std.proofs.Common.{◌&&◌, cond, eqb, List, [], ◌∷◌, ◌++◌, length, take, drop, get_or}
use Rattle.std.proofs.Common.{Some, None, Err, sym, ◌∙◌, ap, refl, arith}
use Rattle.std.specs.Prelude.{Option, is_some, map, option_map, reverse}
use Rattle.std.specs.Option.{ok_or}
use Rattle.std.proofs.lemmas.Bool.{and_parts, eqb-true, false≢true, cases_lt, cond-false, cond-true}
use Rattle.std.proofs.lemmas.Bool.{le-leb, le-ltb, lt-leb, lt-ltb}
use Rattle.std.proofs.lemmas.List.{drop-map, get_or-drop, get_or-map, get_or-take, length-drop}
use Rattle.std.proofs.lemmas.List.{length-map, length-reverse, length-take, reverse-append}
use Rattle.std.proofs.lemmas.List.{take-map}
use Rattle.std.proofs.lemmas.Nat.{pow_pos}
use Rattle.tree_core.proofs.Evaluates.{eval-leaf, eval-left, eval-long, eval-right}
use Rattle.tree_core.proofs.Evaluates.{evaluation-value}
use Rattle.tree_core.proofs.Powers.{half_within, largest_unique, split_bounds}
use Rattle.tree_core.proofs.Roots.{part_sizes, root_of-one, root_of-split}
use Rattle.tree_core.proofs.Subtrees.{is_subtree-from}
use Rattle.tree_core.specs.declared.error.EvalError.TheVariants.{WrongLength}
use Rattle.tree_core.specs.Evaluation.{eval_from_root, eval_of}
use Rattle.tree_core.specs.Path.{inclusion_path, part_of, path_of, path_within}
use Rattle.tree_core.specs.Laws.{IsLargestPowerBelow}
use Rattle.tree_core.specs.PathLaws.{IsInclusionPath, PathsByLength, PathsEvaluate}
use Rattle.tree_core.specs.PathLaws.{SubtreePathsEvaluate, WrongLengthByPath}
use Rattle.tree_core.specs.Split.{split_of}
use Rattle.tree_core.specs.Tree.{leaf_hash, pair_hash, root_of}

-- The cases of the definition of a path.

path_within-one : (depth : ℕ) (h : List ℕ → List ℕ) (m : ℕ) (leaves : List (List ℕ))
    → length leaves ≤ 1
    → path_within (suc depth) h m leaves ≡ []
unfolding path_within
path_within-one depth h m leaves one = cond-true _ _ _ (le-leb (length leaves) 1 one)

path_within-left : (depth : ℕ) (h : List ℕ → List ℕ) (m : ℕ) (leaves : List (List ℕ))
    → 1 < length leaves → m < split_of (length leaves)
    → path_within (suc depth) h m leaves
    ≡ path_within depth h m (take (split_of (length leaves)) leaves) ++ root_of h
    (drop (split_of (length leaves)) leaves) ∷ []
unfolding path_within
path_within-left depth h m leaves more left =
    cond-false _ _ _ (lt-leb (length leaves) 1 more)
    ∙ cond-true _ _ _ (lt-ltb m (split_of (length leaves)) left)

path_within-right : (depth : ℕ) (h : List ℕ → List ℕ) (m : ℕ) (leaves : List (List ℕ))
    → 1 < length leaves → split_of (length leaves) ≤ m
    → path_within (suc depth) h m leaves
    ≡ path_within depth h (m - split_of (length leaves)) (drop (split_of (length leaves)) leaves)
    ++ root_of h
    (take (split_of (length leaves)) leaves) ∷ []
unfolding path_within
path_within-right depth h m leaves more right =
    cond-false _ _ _ (lt-leb (length leaves) 1 more)
    ∙ cond-false _ _ _ (le-ltb m (split_of (length leaves)) right)

-- a bound on the depth that is not below the number of leaves changes nothing
path_within_more : (d e : ℕ) (h : List ℕ → List ℕ) (m : ℕ) (leaves : List (List ℕ))
    → length leaves ≤ d → length leaves ≤ e → path_within d h m leaves ≡ path_within e h m leaves
unfolding path_within
path_within_more zero zero h m leaves small same = refl
path_within_more zero (suc e) h m leaves small same =
    sym (path_within-one e h m leaves (omega arith))
path_within_more (suc d) zero h m leaves small same = path_within-one d h m leaves (omega arith)
path_within_more (suc d) (suc e) h m leaves small same =
    let k = split_of (length leaves) in
    let sizes = part_sizes leaves in
    ⊎_elim
    (λ (more : 1 < length leaves).
    ⊎_elim
    (λ (left : m < split_of (length leaves)).
    path_within-left d h m leaves more left
    ∙ ap (λ p. p ++ root_of h (drop k leaves) ∷ [])
    (path_within_more d e h m (take (split_of (length leaves)) leaves) (omega arith) (omega arith))
    ∙ sym (path_within-left e h m leaves more left))
    (λ (right : split_of (length leaves) ≤ m).
    path_within-right d h m leaves more right
    ∙ ap (λ p. p ++ root_of h (take k leaves) ∷ [])
    (path_within_more d e h (m - k) (drop (split_of (length leaves)) leaves) (omega arith)
    (omega arith))
    ∙ sym (path_within-right e h m leaves more right))
    (cases_lt m (split_of (length leaves))))
    (λ (one : length leaves ≤ 1).
    path_within-one d h m leaves one ∙ sym (path_within-one e h m leaves one))
    (cases_lt 1 (length leaves))

-- The cases of the whole definition, which has no bound on the depth.

pub path_of-one : (h : List ℕ → List ℕ) (m : ℕ) (leaves : List (List ℕ)) → length leaves ≤ 1
    → path_of h m leaves ≡ []
unfolding path_of path_within
path_of-one h m [] one = refl
path_of-one h m (x ∷ rest) one = path_within-one (length rest) h m (x ∷ rest) one

pub path_of-left : (h : List ℕ → List ℕ) (m k : ℕ) (leaves : List (List ℕ)) → 1 < length leaves
    → split_of (length leaves) ≡ k → m < k
    → path_of h m leaves ≡ path_of h m (take k leaves) ++ root_of h (drop k leaves) ∷ []
unfolding path_of
path_of-left h m k [] more is left = let none : ⊥ = omega arith in absurd none
path_of-left h m k (x ∷ rest) more is left =
    let leaves : List (List ℕ) = x ∷ rest in
    let bounds = split_bounds (length (x ∷ rest)) in
    let prefix = length-take (split_of (length (x ∷ rest))) (x ∷ rest) in
    path_within-left (length rest) h m (x ∷ rest) more (omega arith)
    ∙ ap (λ p. p ++ root_of h (drop (split_of (length leaves)) leaves) ∷ [])
    (path_within_more (length rest) (length (take (split_of (length leaves)) leaves)) h m
    (take (split_of (length leaves)) leaves) (omega arith) (omega arith))
    ∙ ap (λ k. path_of h m (take k leaves) ++ root_of h (drop k leaves) ∷ []) is

pub path_of-right : (h : List ℕ → List ℕ) (m k : ℕ) (leaves : List (List ℕ)) → 1 < length leaves
    → split_of (length leaves) ≡ k → k ≤ m
    → path_of h m leaves ≡ path_of h (m - k) (drop k leaves) ++ root_of h (take k leaves) ∷ []
unfolding path_of
path_of-right h m k [] more is right = let none : ⊥ = omega arith in absurd none
path_of-right h m k (x ∷ rest) more is right =
    let leaves : List (List ℕ) = x ∷ rest in
    let bounds = split_bounds (length (x ∷ rest)) in
    let back = length-drop (split_of (length (x ∷ rest))) (x ∷ rest) in
    path_within-right (length rest) h m (x ∷ rest) more (omega arith)
    ∙ ap (λ p. p ++ root_of h (take (split_of (length leaves)) leaves) ∷ [])
    (path_within_more (length rest) (length (drop (split_of (length leaves)) leaves)) h
    (m - split_of (length leaves)) (drop (split_of (length leaves)) leaves) (omega arith)
    (omega arith))
    ∙ ap (λ k. path_of h (m - k) (drop k leaves) ++ root_of h (take k leaves) ∷ []) is

-- the leaves of entries are split where the standard splits the entries
pub split_of-entries : (h : List ℕ → List ℕ) (entries : List (List ℕ)) (k : ℕ)
    → IsLargestPowerBelow (length entries) k
    → (1 < length (map (leaf_hash h) entries)) × (split_of (length (map (leaf_hash h) entries)) ≡ k)
split_of-entries h entries k is =
    let size = length-map entries (leaf_hash h) in
    let positive = pow_pos is.power.0 in
    let power = is.power.1 in
    let below = is.below in
    (omega arith, ap split_of size ∙ sym (largest_unique (length entries) k is))

-- the same over entries, with the split in the standard's words
pub IsInclusionPath_always : (h : List ℕ → List ℕ) → IsInclusionPath h
IsInclusionPath_always h = record {
  one = λ entry. path_of-one h 0 (map (leaf_hash h) (entry ∷ [])) (omega arith);
  left = λ entries m k is left.
      let split = split_of-entries h entries k is in
      path_of-left h m k (map (leaf_hash h) entries) split.0 split.1 left
      ∙ ap (λ l. path_of h m l ++ root_of h (drop k (map (leaf_hash h) entries)) ∷ [])
      (take-map (leaf_hash h) k entries)
      ∙ ap (λ r. inclusion_path h m (take k entries) ++ root_of h r ∷ [])
      (drop-map (leaf_hash h) k entries);
  right = λ entries m k is right within.
      let split = split_of-entries h entries k is in
      path_of-right h m k (map (leaf_hash h) entries) split.0 split.1 right
      ∙ ap (λ l. path_of h (m - k) l ++ root_of h (take k (map (leaf_hash h) entries)) ∷ [])
      (drop-map (leaf_hash h) k entries)
      ∙ ap (λ r. inclusion_path h (m - k) (drop k entries) ++ root_of h r ∷ [])
      (take-map (leaf_hash h) k entries);
}

-- the path of one leaf
path_evaluates-one : (h : List ℕ → List ℕ) (m : ℕ) (leaves : List (List ℕ)) → length leaves ≤ 1
    → m < length leaves
    → eval_from_root h m (length leaves) (get_or leaves m []) [] ≡ Some (root_of h leaves)
path_evaluates-one h m [] one here = let none : ⊥ = omega arith in absurd none
path_evaluates-one h zero (x ∷ []) one here = eval-leaf h 0 1 x refl refl
    ∙ ap Some (sym (root_of-one h x))
path_evaluates-one h (suc m) (x ∷ []) one here = let none : ⊥ = omega arith in absurd none
path_evaluates-one h m (x ∷ y ∷ rest) one here = let none : ⊥ = omega arith in absurd none

-- the inclusion path, turned round, evaluates to the root from the root down
path_evaluates : (depth : ℕ) (h : List ℕ → List ℕ) (m : ℕ) (leaves : List (List ℕ))
    → length leaves ≤ depth → m < length leaves
    → eval_from_root h m (length leaves) (get_or leaves m [])
    (reverse (path_within depth h m leaves)) ≡ Some
    (root_of h leaves)
path_evaluates zero h m leaves bound here = let none : ⊥ = omega arith in absurd none
path_evaluates (suc depth) h m leaves bound here =
    let n = length leaves in
    let k = split_of (length leaves) in
    let leaf = get_or leaves m [] in
    let sizes = part_sizes leaves in
    let back = sizes.back in
    ⊎_elim
    (λ (more : 1 < length leaves).
    ⊎_elim
    (λ (left : m < split_of (length leaves)).
    let p = path_within depth h m (take k leaves) in
    let z = root_of h (drop k leaves) in
    let size : length (take (split_of (length leaves)) leaves) ≡ split_of (length leaves) =
    omega arith in
    let rest = path_evaluates depth h m (take (split_of (length leaves)) leaves) (omega arith)
    (omega arith) in
    ap (λ q. eval_from_root h m n leaf (reverse q)) (path_within-left depth h m leaves more left)
    ∙ ap (eval_from_root h m n leaf) (reverse-append p (z ∷ []))
    ∙ eval-left h m n k leaf z (reverse p) more refl left
    ∙ ap (option_map (λ a. pair_hash h a z))
    (ap (λ s. eval_from_root h m s leaf (reverse p)) (sym size)
    ∙ ap (λ x. eval_from_root h m (length (take k leaves)) x (reverse p))
    (sym (get_or-take k leaves m [] left))
    ∙ rest)
    ∙ ap Some (sym (root_of-split h leaves more)))
    (λ (right : split_of (length leaves) ≤ m).
    let p = path_within depth h (m - k) (drop k leaves) in
    let z = root_of h (take k leaves) in
    let size : length (drop (split_of (length leaves)) leaves)
    ≡ length leaves - split_of (length leaves) = back in
    let place : split_of (length leaves) + (m - split_of (length leaves)) ≡ m = omega arith in
    let rest = path_evaluates depth h (m - split_of (length leaves))
    (drop (split_of (length leaves)) leaves)
    (omega arith) (omega arith) in
    ap (λ q. eval_from_root h m n leaf (reverse q)) (path_within-right depth h m leaves more right)
    ∙ ap (eval_from_root h m n leaf) (reverse-append p (z ∷ []))
    ∙ eval-right h m n k (m - k) (n - k) leaf z (reverse p) more refl (sym place) (omega arith)
    ∙ ap (option_map (λ a. pair_hash h z a))
    (ap (λ s. eval_from_root h (m - k) s leaf (reverse p)) (sym size)
    ∙ ap (λ x. eval_from_root h (m - k) (length (drop k leaves)) x (reverse p))
    (sym (get_or-drop k leaves (m - k) [] ∙ ap (λ i. get_or leaves i []) place))
    ∙ rest)
    ∙ ap Some (sym (root_of-split h leaves more)))
    (cases_lt m (split_of (length leaves))))
    (λ (one : length leaves ≤ 1).
    ap (λ p. eval_from_root h m (length leaves) (get_or leaves m []) (reverse p))
    (path_within-one depth h m leaves one)
    ∙ path_evaluates-one h m leaves one here)
    (cases_lt 1 (length leaves))

pub PathsEvaluate_always : (h : List ℕ → List ℕ) → PathsEvaluate h
unfolding path_of eval_of
PathsEvaluate_always h leaves m here = path_evaluates (length leaves) h m leaves (omega arith) here

-- Two paths of one length have both a value, or none, and two paths that have one have one
-- length.

is_some-option_map : (f : List ℕ → List ℕ) (o : Option (List ℕ))
    → is_some (option_map f o) ≡ is_some o
is_some-option_map f None = refl
is_some-option_map f (Some x) = refl

is_some-test : (b : Bool) (x : List ℕ) → is_some (cond b (Some x) None) ≡ b
is_some-test true x = refl
is_some-test false x = refl

-- no sibling is left: a value where there is one leaf, at index 0
value-nil : (h : List ℕ → List ℕ) (m n : ℕ) (leaf : List ℕ)
    → is_some (eval_from_root h m n leaf []) ≡ (eqb m 0 && eqb n 1)
unfolding eval_from_root
value-nil h m n leaf = is_some-test (eqb m 0 && eqb n 1) leaf

value-long : (h : List ℕ → List ℕ) (m n : ℕ) (leaf z : List ℕ) (q : List (List ℕ)) → n ≤ 1
    → is_some (eval_from_root h m n leaf (z ∷ q)) ≡ false
value-long h m n leaf z q one = ap is_some (eval-long h m n leaf z q one)

value-left : (h : List ℕ → List ℕ) (m n : ℕ) (leaf z : List ℕ) (q : List (List ℕ)) → 1 < n
    → m < split_of n
    → is_some (eval_from_root h m n leaf (z ∷ q)) ≡ is_some (eval_from_root h m (split_of n) leaf q)
value-left h m n leaf z q more left =
    ap is_some (eval-left h m n (split_of n) leaf z q more refl left)
    ∙ is_some-option_map (λ a. pair_hash h a z) (eval_from_root h m (split_of n) leaf q)

value-right : (h : List ℕ → List ℕ) (m n : ℕ) (leaf z : List ℕ) (q : List (List ℕ)) → 1 < n
    → split_of n ≤ m
    → is_some (eval_from_root h m n leaf (z ∷ q)) ≡ is_some
    (eval_from_root h (m - split_of n) (n - split_of n) leaf q)
value-right h m n leaf z q more right =
    let bounds = split_bounds n in
    ap is_some (eval-right h m n (split_of n) (m - split_of n) (n - split_of n) leaf z q more refl
    (omega arith) (omega arith))
    ∙ is_some-option_map (λ a. pair_hash h z a) (eval_from_root h (m - split_of n)
    (n - split_of n) leaf q)

-- A path that has a value has no more hashes than the tree has levels.

eval-height : (h : List ℕ → List ℕ) (q : List (List ℕ)) (m n height : ℕ) (leaf : List ℕ)
    → n ≤ 2 ^ height → is_some (eval_from_root h m n leaf q) ≡ true → length q ≤ height
eval-height h [] m n height leaf near some = omega arith
eval-height h (z ∷ q) m n height leaf near some =
    ⊎_elim
    (λ (more : 1 < n).
    let half = half_within n height more near in
    let high = half.some in
    let near_left = half.half in
    let bounds = split_bounds n in
    let near_right = bounds.half in
    ⊎_elim
    (λ (left : m < split_of n).
    let rest = eval-height h q m (split_of n) (height - 1) leaf near_left
    (sym (value-left h m n leaf z q more left) ∙ some) in
    omega arith)
    (λ (right : split_of n ≤ m).
    let rest = eval-height h q (m - split_of n) (n - split_of n) (height - 1) leaf (omega arith)
    (sym (value-right h m n leaf z q more right) ∙ some) in
    omega arith)
    (cases_lt m (split_of n)))
    (λ (one : n ≤ 1). absurd (false≢true (sym (value-long h m n leaf z q one) ∙ some)))
    (cases_lt 1 n)

pub eval_of-height : (h : List ℕ → List ℕ) (m n height : ℕ) (leaf value : List ℕ)
    (path : List (List ℕ))
    → n ≤ 2 ^ height → eval_of h m n leaf path ≡ Some value → length path ≤ height
unfolding eval_of
eval_of-height h m n height leaf value path near is =
    let size = length-reverse path in
    let short = eval-height h (reverse path) m n height leaf near (ap is_some is) in
    omega arith

value_by_length : (h : List ℕ → List ℕ) (q r : List (List ℕ)) (m n : ℕ) (leaf other : List ℕ)
    → length q ≡ length r
    → is_some (eval_from_root h m n leaf q) ≡ is_some (eval_from_root h m n other r)
value_by_length h [] [] m n leaf other same = value-nil h m n leaf ∙ sym (value-nil h m n other)
value_by_length h [] (y ∷ r) m n leaf other same = let none : ⊥ = omega arith in absurd none
value_by_length h (x ∷ q) [] m n leaf other same = let none : ⊥ = omega arith in absurd none
value_by_length h (x ∷ q) (y ∷ r) m n leaf other same =
    let rest : length q ≡ length r = omega arith in
    ⊎_elim
    (λ (more : 1 < n).
    ⊎_elim
    (λ (left : m < split_of n).
    value-left h m n leaf x q more left ∙ value_by_length h q r m (split_of n) leaf other rest ∙ sym
    (value-left h m n other y r more left))
    (λ (right : split_of n ≤ m).
    value-right h m n leaf x q more right
    ∙ value_by_length h q r (m - split_of n) (n - split_of n) leaf other rest
    ∙ sym (value-right h m n other y r more right))
    (cases_lt m (split_of n)))
    (λ (one : n ≤ 1). value-long h m n leaf x q one ∙ sym (value-long h m n other y r one))
    (cases_lt 1 n)

-- where there is a value with no sibling there is none with one
value-one : (h : List ℕ → List ℕ) (m n : ℕ) (leaf other z : List ℕ) (q : List (List ℕ))
    → is_some (eval_from_root h m n leaf []) ≡ true
    → is_some (eval_from_root h m n other (z ∷ q)) ≡ true → ⊥
value-one h m n leaf other z q nil long =
    let both = and_parts (eqb m 0) (eqb n 1) (sym (value-nil h m n leaf) ∙ nil) in
    let only = eqb-true n 1 both.1 in
    false≢true (sym (value-long h m n other z q (omega arith)) ∙ long)

length_by_value : (h : List ℕ → List ℕ) (q r : List (List ℕ)) (m n : ℕ) (leaf other : List ℕ)
    → is_some (eval_from_root h m n leaf q) ≡ true → is_some (eval_from_root h m n other r) ≡ true
    → length q ≡ length r
length_by_value h [] [] m n leaf other one two = refl
length_by_value h [] (y ∷ r) m n leaf other one two =
    absurd (value-one h m n leaf other y r one two)
length_by_value h (x ∷ q) [] m n leaf other one two =
    absurd (value-one h m n other leaf x q two one)
length_by_value h (x ∷ q) (y ∷ r) m n leaf other one two =
    ⊎_elim
    (λ (more : 1 < n).
    ap suc (⊎_elim
    (λ (left : m < split_of n).
    length_by_value h q r m (split_of n) leaf other
    (sym (value-left h m n leaf x q more left) ∙ one) (sym (value-left h m n other y r more left)
    ∙ two))
    (λ (right : split_of n ≤ m).
    length_by_value h q r (m - split_of n) (n - split_of n) leaf other
    (sym (value-right h m n leaf x q more right)
    ∙ one) (sym (value-right h m n other y r more right) ∙ two))
    (cases_lt m (split_of n))))
    (λ (only : n ≤ 1). absurd (false≢true (sym (value-long h m n leaf x q only) ∙ one)))
    (cases_lt 1 n)

pub PathsByLength_always : (h : List ℕ → List ℕ) → PathsByLength h
unfolding eval_of
PathsByLength_always h leaves path m leaf here =
    let made : is_some (eval_from_root h m (length leaves) (get_or leaves m [])
    (reverse (path_of h m leaves)))
    ≡ true =
    ap is_some (PathsEvaluate_always h leaves m here) in
    let size = length-reverse path in
    let made_size = length-reverse (path_of h m leaves) in (
      (λ value. sym size ∙ length_by_value h (reverse path) (reverse (path_of h m leaves)) m
          (length leaves)
          leaf (get_or leaves m []) value made ∙ made_size),
      (λ same. value_by_length h (reverse path) (reverse (path_of h m leaves)) m
          (length leaves) leaf
          (get_or leaves m []) (size ∙ same ∙ sym made_size) ∙ made),
    )

-- The same through the whole answer.

pub SubtreePathsEvaluate_always : (h : List ℕ → List ℕ) → SubtreePathsEvaluate h
SubtreePathsEvaluate_always h entries index start end is within from below =
    let entries_part = part_of entries start end in
    let leaves = map (leaf_hash h) (part_of entries start end) in
    let dropped = length-drop start entries in
    let taken = length-take (end - start) (drop start entries) in
    let mapped = length-map (part_of entries start end) (leaf_hash h) in
    let here : index - start < length (part_of entries start end) = omega arith in
    let size : length (map (leaf_hash h) (part_of entries start end)) ≡ end - start = omega arith in
    let inside : index - start < end - start = omega arith in
    let place : start + (index - start) ≡ index = omega arith in
    let entry : get_or (part_of entries start end) (index - start) [] ≡ get_or entries index [] =
    get_or-take (end - start) (drop start entries) (index - start) [] inside
    ∙ get_or-drop start entries (index - start) []
    ∙ ap (λ i. get_or entries i []) place in
    let leaf : get_or leaves (index - start) [] ≡ leaf_hash h (get_or entries index []) =
    get_or-map (leaf_hash h) (part_of entries start end) (index - start) [] [] here
    ∙ ap (leaf_hash h) entry in
    let path = path_of h (index - start) leaves in
    evaluation-value h (leaf_hash h (get_or entries index [])) index start end path
    (is_subtree-from start end is) from below
    ∙ ap (λ x. ok_or (eval_of h (index - start) (end - start) x path) WrongLength) (sym leaf)
    ∙ ap (λ n. ok_or (eval_of h (index - start) n (get_or leaves (index - start) []) path)
    WrongLength) (sym size)
    ∙ ap (λ o. ok_or o WrongLength) (PathsEvaluate_always h leaves (index - start) (omega arith))

-- the answer of a value or none
wrong_length-none : (o : Option (List ℕ)) → ok_or o WrongLength ≡ Err WrongLength
    → is_some o ≡ true → ⊥
wrong_length-none None wrong some = false≢true some
wrong_length-none (Some x) wrong some = cc

none-wrong_length : (o : Option (List ℕ)) → (is_some o ≡ true → ⊥)
    → ok_or o WrongLength ≡ Err WrongLength
none-wrong_length None none = refl
none-wrong_length (Some x) none = absurd (none refl)

pub WrongLengthByPath_always : (h : List ℕ → List ℕ) → WrongLengthByPath h
WrongLengthByPath_always h leaves path index start end leaf is from below size =
    let value = evaluation-value h leaf index start end path (is_subtree-from start end is)
    from below in
    let o = eval_of h (index - start) (end - start) leaf path in
    let by_length = PathsByLength_always h leaves path (index - start) leaf (omega arith) in
    let at_size : eval_of h (index - start) (length leaves) leaf path
    ≡ eval_of h (index - start) (end - start)
    leaf path =
    ap (λ n. eval_of h (index - start) n leaf path) size in (
      (λ wrong same. wrong_length-none o (sym value ∙ wrong) (ap is_some (sym at_size)
          ∙ by_length.1 same)),
      (λ other. value ∙ none-wrong_length o (λ some. other (by_length.0 (ap is_some at_size
          ∙ some)))),
    )
