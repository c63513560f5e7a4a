-- A list beside the evaluation of an inclusion path, by the path's last hash.
use Rattle.std.proofs.Common.{◌≡◌, ℕ, ◌+◌, ◌-◌, ◌<◌, ◌≤◌, ⊎_elim, List, [], ◌∷◌, ◌++◌}
use Rattle.std.proofs.Common.{length, get_or, Some, None, Ok, Err, sym, ◌∙◌, ap, refl}
use Rattle.std.proofs.Common.{subst, arith}
use Rattle.std.specs.Prelude.{Option, IsSome, Result, is_some, option_map, reverse}
use Rattle.std.specs.List.{Contains}
use Rattle.std.proofs.lemmas.Bool.{cases_lt, cond-false, cond-true, false≢true, le-ltb, lt-ltb}
use Rattle.std.proofs.lemmas.List.{get_or-drop, get_or-take, reverse-append}
use Rattle.std.proofs.lemmas.List.Elements.{Contains-append_cases, Contains-append_left}
use Rattle.std.proofs.lemmas.List.Elements.{Contains-append_right}
use Rattle.byte_formats.specs.Types.{Hash, HashFunction, Text}
use Rattle.tree_core.proofs.Evaluates.{eval-leaf, eval-left, eval-long, eval-right, eval-short}
use Rattle.tree_core.proofs.Roots.{root_of-one}
use Rattle.tree_core.specs.Evaluation.{eval_from_root, eval_of}
use Rattle.tree_core.specs.Split.{split_of}
use Rattle.tree_core.specs.Tree.{leaf_hash, pair_hash, tree_hash}
use Rattle.collide.proofs.Compared.{collision_widened, compares_widened}
use Rattle.collide.proofs.Hashed.{first_in, inputs_of-one, later_in, left_in, only_in}
use Rattle.tree_proofs.proofs.Halving.{halves_hash}
use Rattle.collide.proofs.Hashed.{right_in, root_in}
use Rattle.collide.specs.Comparison.{Compares}
use Rattle.collide.specs.declared.comparing.Halt.{Halt}
use Rattle.collide.specs.declared.comparing.Halt.TheVariants.{Found, Memory}
use Rattle.collide.specs.declared.comparing.Roots.{Roots}
use Rattle.tree_proofs.specs.Halves.{AreHalves}
use Rattle.collide.specs.Inputs.{eval_inputs_from_root, eval_inputs_of, input_before, input_after}
use Rattle.collide.specs.Inputs.{inputs_of, leaf_input, pair_input}

-- The path of one entry.

pub record IsLeaf (m n : ℕ) (leaf value : Hash) : Type 0 where
  pub first : m ≡ 0
  pub only : n ≡ 1
  pub gives : value ≡ leaf

some_same : (a b : Hash) (o : Option Hash) → o ≡ Some a → o ≡ Some b → b ≡ a
some_same a b (Some c) first second = let is : Some a ≡ Some b = sym first ∙ second in cc
some_same a b None first second = cc

none_some : {T : Type 0} (o : Option T) (a : T) → o ≡ None → o ≡ Some a → ⊥
none_some o a none some = let is : None ≡ Some a = sym none ∙ some in cc

pub path_leaf : (h : HashFunction) (m n : ℕ) (leaf value : Hash) (path : List Hash) → m < n
    → length path ≡ 0 → eval_of h m n leaf path ≡ Some value → IsLeaf m n leaf value
unfolding eval_of
path_leaf h m n leaf value [] inside none gives =
    ⊎_elim
    (λ (more : 1 < m + n). absurd (none_some _ value (eval-short h m n leaf more) gives))
    (λ (one : m + n ≤ 1). record {
      first = omega arith;
      only = omega arith;
      gives = some_same leaf value _ (eval-leaf h m n leaf (omega arith) (omega arith)) gives;
    })
    (cases_lt 1 (m + n))
path_leaf h m n leaf value (z ∷ path) inside none gives = let no : ⊥ = omega arith in absurd no

-- a path with a hash is one in a list of more than one entry
pub path_more : (h : HashFunction) (m n : ℕ) (leaf z : Hash) (path rest : List Hash)
    → path ≡ rest ++ z ∷ [] → IsSome (eval_of h m n leaf path) → 1 < n
unfolding eval_of
path_more h m n leaf z path rest is gives =
    ⊎_elim
    (λ (more : 1 < n). more)
    (λ (one : n ≤ 1).
    let none : eval_from_root h m n leaf (reverse path) ≡ None =
    ap (λ p. eval_from_root h m n leaf (reverse p)) is
    ∙ ap (eval_from_root h m n leaf) (reverse-append rest (z ∷ []))
    ∙ eval-long h m n leaf z (reverse rest) one in
    absurd (false≢true (sym (ap is_some none) ∙ gives)))
    (cases_lt 1 n)

-- Its value, by that of the part where the entry lies.

pub value_left : (h : HashFunction) (m n k : ℕ) (leaf z : Hash) (path rest : List Hash)
    → path ≡ rest ++ z ∷ [] → 1 < n → k ≡ split_of n → m < k
    → eval_of h m n leaf path ≡ option_map (λ a. pair_hash h a z) (eval_of h m k leaf rest)
unfolding eval_of
value_left h m n k leaf z path rest is more split left =
    ap (λ p. eval_from_root h m n leaf (reverse p)) is
    ∙ ap (eval_from_root h m n leaf) (reverse-append rest (z ∷ []))
    ∙ eval-left h m n k leaf z (reverse rest) more (sym split) left

pub value_right : (h : HashFunction) (m n k a b : ℕ) (leaf z : Hash) (path rest : List Hash)
    → path ≡ rest ++ z ∷ [] → 1 < n → k ≡ split_of n → m ≡ k + a → n ≡ k + b
    → eval_of h m n leaf path ≡ option_map (λ x. pair_hash h z x) (eval_of h a b leaf rest)
unfolding eval_of
value_right h m n k a b leaf z path rest is more split m_is n_is =
    ap (λ p. eval_from_root h m n leaf (reverse p)) is
    ∙ ap (eval_from_root h m n leaf) (reverse-append rest (z ∷ []))
    ∙ eval-right h m n k a b leaf z (reverse rest) more (sym split) m_is n_is

pub some_below : (f : Hash → Hash) (o p : Option Hash) → p ≡ option_map f o → IsSome p → IsSome o
some_below f (Some x) p is some = refl
some_below f None p is some = absurd (false≢true (sym (ap is_some is) ∙ some))

pub value_below : (f : Hash → Hash) (value : Hash) (o p : Option Hash) → p ≡ option_map f o
    → p ≡ Some value → (v : Hash) × ((o ≡ Some v) × (f v ≡ value))
value_below f value (Some x) p is some =
    (x, (refl, sym (some_same (f x) value p is some)))
value_below f value None p is some = absurd (none_some p value is some)

-- The strings of its evaluation.

inputs_left : (h : HashFunction) (m n k : ℕ) (leaf z : Hash) (q : List Hash)
    → k ≡ split_of n → m < k → eval_inputs_from_root h m n leaf (z ∷ q)
    ≡ input_before z (eval_from_root h m k leaf q) ++ eval_inputs_from_root h m k leaf q
unfolding eval_inputs_from_root
inputs_left h m n k leaf z q split left =
    let here : m < split_of n = omega arith in
    cond-true _ _ _ (lt-ltb m (split_of n) here)
    ∙ ap (λ k. input_before z (eval_from_root h m k leaf q) ++ eval_inputs_from_root h m k leaf q)
    (sym split)

inputs_right : (h : HashFunction) (m n k a b : ℕ) (leaf z : Hash) (q : List Hash)
    → k ≡ split_of n → m ≡ k + a → n ≡ k + b → eval_inputs_from_root h m n leaf (z ∷ q)
    ≡ input_after z (eval_from_root h a b leaf q) ++ eval_inputs_from_root h a b leaf q
unfolding eval_inputs_from_root
inputs_right h m n k a b leaf z q split m_is n_is =
    let place : m - split_of n ≡ a = omega arith in
    let size : n - split_of n ≡ b = omega arith in
    cond-false _ _ _ (le-ltb m (split_of n) (omega arith))
    ∙ ap (λ i. input_after z (eval_from_root h i (n - split_of n) leaf q)
    ++ eval_inputs_from_root h i (n - split_of n) leaf q) place
    ∙ ap (λ i. input_after z (eval_from_root h a i leaf q) ++ eval_inputs_from_root h a i leaf q)
    size

-- those of the part, and the one of the pair above it
pub record HasBelow (texts part : List Text) (pair : Text) : Type 0 where
  pub below : (y : Text) → Contains part y → Contains texts y
  pub top : Contains texts pair

has_below : (leaf : Text) (top : Text) (texts rest below : List Text) (before : List Text)
    → texts ≡ leaf ∷ before ++ rest → below ≡ leaf ∷ rest → before ≡ top ∷ []
    → HasBelow texts below top
has_below leaf top texts rest below before texts_are below_are before_is = record {
  below = λ y within. subst (λ t. Contains t y) (sym texts_are)
      (⊎_elim
      (λ (here : Contains (leaf ∷ []) y). Contains-append_left (leaf ∷ []) (before ++ rest) y here)
      (λ (there : Contains rest y). later_in leaf (before ++ rest) y
      (Contains-append_right before rest y there))
      (Contains-append_cases (leaf ∷ []) rest y (subst (λ t. Contains t y) below_are within)));
  top = subst (λ t. Contains t top) (sym (texts_are ∙ ap (λ b. leaf ∷ b ++ rest) before_is))
      (later_in leaf (top ∷ rest) top (first_in top rest));
}

pub eval_texts-left : (h : HashFunction) (m n k : ℕ) (entry : Text) (z v : Hash)
    (path rest : List Hash)
    → path ≡ rest ++ z ∷ [] → k ≡ split_of n → m < k
    → eval_of h m k (leaf_hash h entry) rest ≡ Some v
    → HasBelow (eval_inputs_of h m n entry path) (eval_inputs_of h m k entry rest) (pair_input v z)
unfolding eval_of eval_inputs_of
eval_texts-left h m n k entry z v path rest is split left gives =
    has_below (leaf_input entry) (pair_input v z) _
    (eval_inputs_from_root h m k (leaf_hash h entry) (reverse rest)) _
    (input_before z (eval_from_root h m k (leaf_hash h entry) (reverse rest)))
    (ap (λ q. leaf_input entry ∷ eval_inputs_from_root h m n (leaf_hash h entry) q)
    (ap reverse is ∙ reverse-append rest (z ∷ []))
    ∙ ap (λ texts. leaf_input entry ∷ texts)
    (inputs_left h m n k (leaf_hash h entry) z (reverse rest) split left))
    refl (ap (input_before z) gives)

pub eval_texts-right : (h : HashFunction) (m n k a b : ℕ) (entry : Text) (z v : Hash)
    (path rest : List Hash)
    → path ≡ rest ++ z ∷ [] → k ≡ split_of n → m ≡ k + a → n ≡ k + b
    → eval_of h a b (leaf_hash h entry) rest ≡ Some v
    → HasBelow (eval_inputs_of h m n entry path) (eval_inputs_of h a b entry rest) (pair_input z v)
unfolding eval_of eval_inputs_of
eval_texts-right h m n k a b entry z v path rest is split m_is n_is gives =
    has_below (leaf_input entry) (pair_input z v) _
    (eval_inputs_from_root h a b (leaf_hash h entry) (reverse rest)) _
    (input_after z (eval_from_root h a b (leaf_hash h entry) (reverse rest)))
    (ap (λ q. leaf_input entry ∷ eval_inputs_from_root h m n (leaf_hash h entry) q)
    (ap reverse is ∙ reverse-append rest (z ∷ []))
    ∙ ap (λ texts. leaf_input entry ∷ texts)
    (inputs_right h m n k a b (leaf_hash h entry) z (reverse rest) split m_is n_is))
    refl (ap (input_after z) gives)

-- What a comparison of the part shows of the list.

pub item_left : (xs l r : List Text) (m : ℕ) → AreHalves xs l r → m < length l
    → get_or l m [] ≡ get_or xs m []
item_left xs l r m halves left =
    let count = halves.count in
    ap (λ part. get_or part m []) halves.left
    ∙ get_or-take (split_of (length xs)) xs m [] (omega arith)

pub item_right : (xs l r : List Text) (m a : ℕ) → AreHalves xs l r → m ≡ length l + a
    → get_or r a [] ≡ get_or xs m []
item_right xs l r m a halves right =
    let count = halves.count in
    let place : split_of (length xs) + a ≡ m = omega arith in
    ap (λ part. get_or part a []) halves.right
    ∙ get_or-drop (split_of (length xs)) xs a [] ∙ ap (λ i. get_or xs i []) place

-- the comparison of a list of n entries with the path of the entry at index m
abbrev pub ComparesPath : HashFunction → List Text → ℕ → ℕ → Text → List Hash
    → Result Roots Halt → Type 0
ComparesPath h xs m n entry path result =
    (value : Hash) → eval_of h m n (leaf_hash h entry) path ≡ Some value
    → Compares h (get_or xs m [] ≡ entry) (tree_hash h xs) value (inputs_of h xs)
    (eval_inputs_of h m n entry path) result

-- of one entry
pub path_one : (h : HashFunction) (xs : List Text) (m n : ℕ) (x entry : Text) (path : List Hash)
    (result : Result Roots Halt)
    → m < n → length path ≡ 0 → n ≡ length xs → x ≡ get_or xs m []
    → Compares h (x ≡ entry) (leaf_hash h x) (leaf_hash h entry) (leaf_input x ∷ [])
    (leaf_input entry ∷ []) result
    → ComparesPath h xs m n entry path result
unfolding eval_inputs_of
path_one h [] m n x entry path result inside none size is so value gives =
    let no : ⊥ = omega arith in absurd no
path_one h (y ∷ []) m n x entry path result inside none size is so value gives =
    let leaf = path_leaf h m n (leaf_hash h entry) value path inside none gives in
    let same : x ≡ y = is ∙ ap (λ i. get_or (y ∷ []) i []) leaf.first in
    compares_widened h (x ≡ entry) _ (leaf_hash h x) (leaf_hash h entry) _ value
    (leaf_input x ∷ []) (leaf_input entry ∷ []) _ _ result
    (λ agree. sym is ∙ agree)
    (ap (leaf_hash h) same ∙ sym (root_of-one h (leaf_hash h y)))
    (sym leaf.gives)
    (λ t within. subst (λ texts. Contains texts t)
    (ap (λ e. leaf_input e ∷ []) same ∙ sym (inputs_of-one h y)) within)
    (λ t within. Contains-append_left (leaf_input entry ∷ []) _ t within)
    so
path_one h (y ∷ z ∷ rest) m n x entry path result inside none size is so value gives =
    let leaf = path_leaf h m n (leaf_hash h entry) value path inside none gives in
    let only = leaf.only in
    let no : ⊥ = omega arith in absurd no

-- what was found in the part
pub path_left_found : (h : HashFunction) (xs l r : List Text) (m n k : ℕ) (entry : Text) (z : Hash)
    (path rest : List Hash) (halt : Halt)
    → AreHalves xs l r → path ≡ rest ++ z ∷ [] → 1 < n → k ≡ split_of n → m < k
    → ComparesPath h l m k entry rest (Err halt) → ComparesPath h xs m n entry path (Err halt)
path_left_found h xs l r m n k entry z path rest (Found x y) halves is more split left so value
    gives =
    let below = value_below (λ a. pair_hash h a z) value _ _
    (value_left h m n k (leaf_hash h entry) z path rest is more split left) gives in
    let texts = eval_texts-left h m n k entry z below.0 path rest is split left below.1.0 in
    collision_widened h _ _ _ _ x y (left_in h xs l r x halves) (texts.below y)
    (so below.0 below.1.0)
path_left_found h xs l r m n k entry z path rest Memory halves is more split left so value gives =
    tt

pub path_right_found : (h : HashFunction) (xs l r : List Text) (m n k a b : ℕ) (entry : Text)
    (z : Hash) (path rest : List Hash) (halt : Halt)
    → AreHalves xs l r → path ≡ rest ++ z ∷ [] → 1 < n → k ≡ split_of n → m ≡ k + a → n ≡ k + b
    → ComparesPath h r a b entry rest (Err halt) → ComparesPath h xs m n entry path (Err halt)
path_right_found h xs l r m n k a b entry z path rest (Found x y) halves is more split m_is n_is so
    value gives =
    let below = value_below (λ v. pair_hash h z v) value _ _
    (value_right h m n k a b (leaf_hash h entry) z path rest is more split m_is n_is) gives in
    let texts = eval_texts-right h m n k a b entry z below.0 path rest is split m_is n_is
    below.1.0 in
    collision_widened h _ _ _ _ x y (right_in h xs l r x halves) (texts.below y)
    (so below.0 below.1.0)
path_right_found h xs l r m n k a b entry z path rest Memory halves is more split m_is n_is so value
    gives = tt

-- the roots, by those of the part and by the hashes beside it
pub path_left : (h : HashFunction) (xs l r : List Text) (m n k : ℕ) (entry : Text)
    (beside z : Hash) (path rest : List Hash) (roots : Roots) (result : Result Roots Halt)
    → AreHalves xs l r → path ≡ rest ++ z ∷ [] → 1 < n → k ≡ split_of n → m < k → k ≡ length l
    → beside ≡ tree_hash h r
    → ComparesPath h l m k entry rest (Ok roots)
    → Compares h ((roots.first ≡ roots.second) × (beside ≡ z)) (pair_hash h roots.first beside)
    (pair_hash h roots.second z) (pair_input roots.first beside ∷ [])
    (pair_input roots.second z ∷ []) result
    → ComparesPath h xs m n entry path result
path_left h xs l r m n k entry beside z path rest roots result halves is more split left size
    beside_is below_so so value gives =
    let below = value_below (λ a. pair_hash h a z) value _ _
    (value_left h m n k (leaf_hash h entry) z path rest is more split left) gives in
    let texts = eval_texts-left h m n k entry z below.0 path rest is split left below.1.0 in
    let are = below_so below.0 below.1.0 in
    let first : pair_input roots.first beside ≡ pair_input (tree_hash h l) (tree_hash h r) =
    ap (λ a. pair_input a beside) are.first ∙ ap (pair_input (tree_hash h l)) beside_is in
    let second : pair_input roots.second z ≡ pair_input below.0 z =
    ap (λ a. pair_input a z) are.second in
    compares_widened h _ _ (pair_hash h roots.first beside) (pair_hash h roots.second z) _ value
    (pair_input roots.first beside ∷ []) (pair_input roots.second z ∷ []) _ _ result
    (λ same. sym (item_left xs l r m halves (omega arith)) ∙ are.agree same.0)
    (ap h first ∙ sym (halves_hash h xs l r halves))
    (ap h second ∙ below.1.1)
    (λ t within. subst (Contains (inputs_of h xs)) (sym (only_in _ t within ∙ first))
    (root_in h xs l r halves))
    (λ t within. subst (Contains (eval_inputs_of h m n entry path))
    (sym (only_in _ t within ∙ second)) texts.top)
    so

pub path_right : (h : HashFunction) (xs l r : List Text) (m n k a b : ℕ) (entry : Text)
    (beside z : Hash) (path rest : List Hash) (roots : Roots) (result : Result Roots Halt)
    → AreHalves xs l r → path ≡ rest ++ z ∷ [] → 1 < n → k ≡ split_of n → m ≡ k + a → n ≡ k + b
    → k ≡ length l → beside ≡ tree_hash h l
    → ComparesPath h r a b entry rest (Ok roots)
    → Compares h ((beside ≡ z) × (roots.first ≡ roots.second)) (pair_hash h beside roots.first)
    (pair_hash h z roots.second) (pair_input beside roots.first ∷ [])
    (pair_input z roots.second ∷ []) result
    → ComparesPath h xs m n entry path result
path_right h xs l r m n k a b entry beside z path rest roots result halves is more split m_is n_is
    size beside_is below_so so value gives =
    let below = value_below (λ v. pair_hash h z v) value _ _
    (value_right h m n k a b (leaf_hash h entry) z path rest is more split m_is n_is) gives in
    let texts = eval_texts-right h m n k a b entry z below.0 path rest is split m_is n_is
    below.1.0 in
    let are = below_so below.0 below.1.0 in
    let first : pair_input beside roots.first ≡ pair_input (tree_hash h l) (tree_hash h r) =
    ap (λ v. pair_input v roots.first) beside_is ∙ ap (pair_input (tree_hash h l)) are.first in
    let second : pair_input z roots.second ≡ pair_input z below.0 =
    ap (pair_input z) are.second in
    compares_widened h _ _ (pair_hash h beside roots.first) (pair_hash h z roots.second) _ value
    (pair_input beside roots.first ∷ []) (pair_input z roots.second ∷ []) _ _ result
    (λ same. sym (item_right xs l r m a halves (omega arith)) ∙ are.agree same.1)
    (ap h first ∙ sym (halves_hash h xs l r halves))
    (ap h second ∙ below.1.1)
    (λ t within. subst (Contains (inputs_of h xs)) (sym (only_in _ t within ∙ first))
    (root_in h xs l r halves))
    (λ t within. subst (Contains (eval_inputs_of h m n entry path))
    (sym (only_in _ t within ∙ second)) texts.top)
    so
