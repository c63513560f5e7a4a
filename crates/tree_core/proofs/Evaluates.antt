-- Evaluation from the leaf up, one level after another, is the definition's recursion from the
-- root down.
use Rattle.std.proofs.Common.{◌≡◌, ℕ, ◌+◌, ◌*◌, ◌-◌, ◌/◌, ◌%◌, ◌<◌, ◌≤◌, ◌⊎◌, ⊎_elim, Bool, true}
use Rattle.std.proofs.Common.{false, ◌&&◌, cond, eqb, ltb, leb, List, [], ◌∷◌, ◌++◌, length, drop}
use Rattle.std.proofs.Common.{get_or, Some, None, Ok, Err, sym, ◌∙◌, ap, refl, arith}
use Rattle.std.specs.Prelude.{Option, not, option_map, reverse}
use Rattle.std.specs.Option.{ok_or}
use Rattle.std.proofs.lemmas.Bool.{and_from, and_left, and_parts, and_right, leb-true, ltb-true}
use Rattle.std.proofs.lemmas.Bool.{cond-true, cond-false, eq-eqb, ne_eqb, le-leb, lt-leb, le-ltb}
use Rattle.std.proofs.lemmas.Bool.{lt-ltb, cases_lt, cases_eq, not_from_true, not_from_false}
use Rattle.std.proofs.lemmas.List.{drop_more, drop_all, reverse-append}
use Rattle.tree_core.proofs.Powers.{split_bounds, split_half, split_unique}
use Rattle.tree_core.specs.declared.error.EvalError.TheVariants.{BadSubtree, Outside, WrongLength}
use Rattle.tree_core.specs.Evaluation.{eval_from_root, eval_of, evaluation, parent_hash}
use Rattle.tree_core.specs.Split.{split_of}
use Rattle.tree_core.specs.Subtree.{is_subtree}
use Rattle.tree_core.specs.Tree.{pair_hash}

-- The cases of the definition, with the numbers of the recursion as variables.

pub eval-leaf : (h : List ℕ → List ℕ) (m n : ℕ) (leaf : List ℕ) → m ≡ 0 → n ≡ 1
    → eval_from_root h m n leaf [] ≡ Some leaf
unfolding eval_from_root
eval-leaf h m n leaf first only = cond-true _ _ _ (and_from _ _ (eq-eqb m 0 first)
    (eq-eqb n 1 only))

-- no sibling is left, and this is no tree of one leaf with that leaf
pub eval-short : (h : List ℕ → List ℕ) (m n : ℕ) (leaf : List ℕ) → 2 ≤ m + n
    → eval_from_root h m n leaf [] ≡ None
unfolding eval_from_root
eval-short h m n leaf more =
    ⊎_elim
    (λ (first : m ≡ 0). cond-false _ _ _
    (and_right (eqb m 0) (eqb n 1) (ne_eqb n 1 (λ only. omega arith))))
    (λ (other : m ≡ 0 → ⊥). cond-false _ _ _ (and_left (eqb m 0) (eqb n 1) (ne_eqb m 0 other)))
    (cases_eq m 0)

-- a sibling is left over
pub eval-long : (h : List ℕ → List ℕ) (m n : ℕ) (leaf z : List ℕ) (q : List (List ℕ)) → n ≤ 1
    → eval_from_root h m n leaf (z ∷ q) ≡ None
unfolding eval_from_root
eval-long h m n leaf z q one = cond-true _ _ _ (le-leb n 1 one)

pub eval-left : (h : List ℕ → List ℕ) (m n k : ℕ) (leaf z : List ℕ) (q : List (List ℕ)) → 1 < n
    → split_of n ≡ k → m < k
    → eval_from_root h m n leaf (z ∷ q)
    ≡ option_map (λ a. pair_hash h a z) (eval_from_root h m k leaf q)
unfolding eval_from_root
eval-left h m n k leaf z q more is left =
    let here : m < split_of n = omega arith in
    cond-false _ _ _ (lt-leb n 1 more)
    ∙ cond-true _ _ _ (lt-ltb m (split_of n) here)
    ∙ ap (λ k. option_map (λ a. pair_hash h a z) (eval_from_root h m k leaf q)) is

pub eval-right : (h : List ℕ → List ℕ) (m n k a b : ℕ) (leaf z : List ℕ) (q : List (List ℕ))
    → 1 < n → split_of n ≡ k
    → m ≡ k + a → n ≡ k + b
    → eval_from_root h m n leaf (z ∷ q)
    ≡ option_map (λ a. pair_hash h z a) (eval_from_root h a b leaf q)
unfolding eval_from_root
eval-right h m n k a b leaf z q more is m_is n_is =
    let place : m - split_of n ≡ a = omega arith in
    let size : n - split_of n ≡ b = omega arith in
    cond-false _ _ _ (lt-leb n 1 more)
    ∙ cond-false _ _ _ (le-ltb m (split_of n) (omega arith))
    ∙ ap (λ i. option_map (λ a. pair_hash h z a) (eval_from_root h i (n - split_of n) leaf q)) place
    ∙ ap (λ i. option_map (λ a. pair_hash h z a) (eval_from_root h a i leaf q)) size

-- a sibling is left over, whatever stands before it
eval-one_push : (h : List ℕ → List ℕ) (w : List (List ℕ)) (m n : ℕ) (leaf p : List ℕ) → n ≤ 1
    → eval_from_root h m n leaf (w ++ p ∷ []) ≡ None
eval-one_push h [] m n leaf p one = eval-long h m n leaf p [] one
eval-one_push h (z ∷ q) m n leaf p one = eval-long h m n leaf z (q ++ p ∷ []) one

-- The steps below: r at index m of n joins its sibling p to the node up at index a of c, where m is
-- child i of a, c is half of n rounded up, and j is 1 where n is even.

-- a path of one sibling in a tree of two leaves
eval-pair : (h : List ℕ → List ℕ) (r p up : List ℕ) (m n a c i j : ℕ)
    → m ≡ 2 * a + i → n + 1 ≡ 2 * c + j → i ≤ 1 → j ≤ 1 → m + 1 < n + i → c ≤ 1
    → (i ≡ 0 → pair_hash h r p ≡ up) → (1 ≤ i → pair_hash h p r ≡ up)
    → eval_from_root h m n r (p ∷ []) ≡ eval_from_root h a c up []
eval-pair h r p up m n a c i j m_is n_is i_bit j_bit sibling one left right =
    let split : split_of n ≡ 1 = split_unique n 0 (omega arith) (omega arith) in
    let top = eval-leaf h a c up (omega arith) (omega arith) in
    ⊎_elim
    (λ (first : m < 1).
    eval-left h m n 1 r p [] (omega arith) split first
    ∙ ap (option_map (λ x. pair_hash h x p)) (eval-leaf h m 1 r (omega arith) refl)
    ∙ ap Some (left (omega arith))
    ∙ sym top)
    (λ (second : 1 ≤ m).
    eval-right h m n 1 (m - 1) (n - 1) r p [] (omega arith) split (omega arith) (omega arith)
    ∙ ap (option_map (λ x. pair_hash h p x)) (eval-leaf h (m - 1) (n - 1) r (omega arith)
    (omega arith))
    ∙ ap Some (right (omega arith))
    ∙ sym top)
    (cases_lt m 1)

-- a path of one sibling is too short for more than two leaves
eval-short_step : (h : List ℕ → List ℕ) (r p up : List ℕ) (m n a c i j : ℕ)
    → m ≡ 2 * a + i → n + 1 ≡ 2 * c + j → i ≤ 1 → j ≤ 1 → m + 1 < n + i → 1 < c
    → eval_from_root h m n r (p ∷ []) ≡ eval_from_root h a c up []
eval-short_step h r p up m n a c i j m_is n_is i_bit j_bit sibling some =
    let split = split_half n c j n_is j_bit some in
    let bounds = split_bounds c in
    let top = eval-short h a c up (omega arith) in
    ⊎_elim
    (λ (first : m < 2 * split_of c).
    eval-left h m n (2 * split_of c) r p [] (omega arith) split first
    ∙ ap (option_map (λ x. pair_hash h x p)) (eval-short h m (2 * split_of c) r (omega arith))
    ∙ sym top)
    (λ (second : 2 * split_of c ≤ m).
    eval-right h m n (2 * split_of c) (m - 2 * split_of c) (n - 2 * split_of c) r p []
    (omega arith) split
    (omega arith) (omega arith)
    ∙ ap (option_map (λ x. pair_hash h p x)) (eval-short h (m - 2 * split_of c) (n - 2 * split_of c)
    r (omega arith))
    ∙ sym top)
    (cases_lt m (2 * split_of c))

-- a path of two siblings or more is too long for two leaves
eval-long_step : (h : List ℕ → List ℕ) (r p up z : List ℕ) (q : List (List ℕ)) (m n a c i j : ℕ)
    → m ≡ 2 * a + i → n + 1 ≡ 2 * c + j → i ≤ 1 → j ≤ 1 → m + 1 < n + i → c ≤ 1
    → eval_from_root h m n r (z ∷ (q ++ p ∷ [])) ≡ eval_from_root h a c up (z ∷ q)
eval-long_step h r p up z q m n a c i j m_is n_is i_bit j_bit sibling one =
    let split : split_of n ≡ 1 = split_unique n 0 (omega arith) (omega arith) in
    let top = eval-long h a c up z q one in
    ⊎_elim
    (λ (first : m < 1).
    eval-left h m n 1 r z (q ++ p ∷ []) (omega arith) split first
    ∙ ap (option_map (λ x. pair_hash h x z)) (eval-one_push h q m 1 r p (omega arith))
    ∙ sym top)
    (λ (second : 1 ≤ m).
    eval-right h m n 1 (m - 1) (n - 1) r z (q ++ p ∷ []) (omega arith) split (omega arith)
    (omega arith)
    ∙ ap (option_map (λ x. pair_hash h z x)) (eval-one_push h q (m - 1) (n - 1) r p (omega arith))
    ∙ sym top)
    (cases_lt m 1)

-- the lowest sibling of any path
pub eval-step : (h : List ℕ → List ℕ) (r p up : List ℕ) (w : List (List ℕ)) (m n a c i j : ℕ)
    → m ≡ 2 * a + i → n + 1 ≡ 2 * c + j → i ≤ 1 → j ≤ 1 → m + 1 < n + i
    → (i ≡ 0 → pair_hash h r p ≡ up) → (1 ≤ i → pair_hash h p r ≡ up)
    → eval_from_root h m n r (w ++ p ∷ []) ≡ eval_from_root h a c up w
eval-step h r p up [] m n a c i j m_is n_is i_bit j_bit sibling left right =
    ⊎_elim
    (λ (some : 1 < c). eval-short_step h r p up m n a c i j m_is n_is i_bit j_bit sibling some)
    (λ (one : c ≤ 1). eval-pair h r p up m n a c i j m_is n_is i_bit j_bit sibling one left right)
    (cases_lt 1 c)
eval-step h r p up (z ∷ q) m n a c i j m_is n_is i_bit j_bit sibling left right =
    ⊎_elim
    (λ (some : 1 < c).
    let split = split_half n c j n_is j_bit some in
    let bounds = split_bounds c in
    ⊎_elim
    (λ (first : a < split_of c).
    eval-left h m n (2 * split_of c) r z (q ++ p ∷ []) (omega arith) split (omega arith)
    ∙ ap (option_map (λ x. pair_hash h x z))
    (eval-step h r p up q m (2 * split_of c) a (split_of c) i 1 m_is (omega arith) i_bit
    (omega arith)
    (omega arith) left right)
    ∙ sym (eval-left h a c (split_of c) up z q some refl first))
    (λ (second : split_of c ≤ a).
    eval-right h m n (2 * split_of c) (m - 2 * split_of c) (n - 2 * split_of c) r z (q ++ p ∷ [])
    (omega arith)
    split (omega arith) (omega arith)
    ∙ ap (option_map (λ x. pair_hash h z x))
    (eval-step h r p up q (m - 2 * split_of c) (n - 2 * split_of c) (a - split_of c)
    (c - split_of c) i j
    (omega arith) (omega arith) i_bit j_bit (omega arith) left right)
    ∙ sym (eval-right h a c (split_of c) (a - split_of c) (c - split_of c) up z q some refl
    (omega arith)
    (omega arith)))
    (cases_lt a (split_of c)))
    (λ (one : c ≤ 1). eval-long_step h r p up z q m n a c i j m_is n_is i_bit j_bit sibling one)
    (cases_lt 1 c)

-- The last node of a level with an even index has no sibling: it is a node of the level above, too
pub eval-promoted : (h : List ℕ → List ℕ) (r : List ℕ) (w : List (List ℕ)) (m n a c : ℕ)
    → m ≡ 2 * a → n ≡ m + 1 → c ≡ a + 1 → 1 ≤ a
    → eval_from_root h m n r w ≡ eval_from_root h a c r w
eval-promoted h r [] m n a c m_is n_is c_is some =
    eval-short h m n r (omega arith) ∙ sym (eval-short h a c r (omega arith))
eval-promoted h r (z ∷ q) m n a c m_is n_is c_is some =
    let split = split_half n c 0 (omega arith) (omega arith) (omega arith) in
    let bounds = split_bounds c in
    eval-right h m n (2 * split_of c) (m - 2 * split_of c) (n - 2 * split_of c) r z q
    (omega arith) split
    (omega arith) (omega arith)
    ∙ ap (option_map (λ x. pair_hash h z x))
    (⊎_elim
    (λ (inside : split_of c < a).
    eval-promoted h r q (m - 2 * split_of c) (n - 2 * split_of c) (a - split_of c) (c - split_of c)
    (omega arith) (omega arith) (omega arith) (omega arith))
    (λ (end : a ≤ split_of c).
    let place : m - 2 * split_of c ≡ a - split_of c = omega arith in
    let size : n - 2 * split_of c ≡ c - split_of c = omega arith in
    ap (λ i. eval_from_root h i (n - 2 * split_of c) r q) place ∙ ap
    (λ i. eval_from_root h (a - split_of c) i r q) size)
    (cases_lt (split_of c) a))
    ∙ sym (eval-right h a c (split_of c) (a - split_of c) (c - split_of c) r z q (omega arith) refl
    (omega arith) (omega arith))

-- The same for a path, from the hash that comes next.

pub eval_of-step : (h : List ℕ → List ℕ) (r p up : List ℕ) (path : List (List ℕ))
    (used m n a c i j : ℕ)
    → used < length path → p ≡ get_or path used []
    → m ≡ 2 * a + i → n + 1 ≡ 2 * c + j → i ≤ 1 → j ≤ 1 → m + 1 < n + i
    → (i ≡ 0 → pair_hash h r p ≡ up) → (1 ≤ i → pair_hash h p r ≡ up)
    → eval_of h m n r (drop used path) ≡ eval_of h a c up (drop (used + 1) path)
unfolding eval_of
eval_of-step h r p up path used m n a c i j here p_is m_is n_is i_bit j_bit sibling left right =
    ap (λ s. eval_from_root h m n r (reverse s)) (drop_more path used [] here)
    ∙ ap (λ x. eval_from_root h m n r (reverse (x ∷ drop (used + 1) path))) (sym p_is)
    ∙ ap (eval_from_root h m n r) (reverse-append (p ∷ []) (drop (used + 1) path))
    ∙ eval-step h r p up (reverse (drop (used + 1) path)) m n a c i j m_is n_is i_bit j_bit
    sibling left right

pub eval_of-promoted : (h : List ℕ → List ℕ) (r : List ℕ) (path : List (List ℕ)) (m n a c : ℕ)
    → m ≡ 2 * a → n ≡ m + 1 → c ≡ a + 1 → 1 ≤ a → eval_of h m n r path ≡ eval_of h a c r path
unfolding eval_of
eval_of-promoted h r path m n a c m_is n_is c_is some =
    eval-promoted h r (reverse path) m n a c m_is n_is c_is some

-- no hash is left, and there are more leaves than one
pub eval_of-short : (h : List ℕ → List ℕ) (m n : ℕ) (r : List ℕ) (path : List (List ℕ)) (used : ℕ)
    → length path ≤ used → 2 ≤ m + n → eval_of h m n r (drop used path) ≡ None
unfolding eval_of
eval_of-short h m n r path used end more =
    ap (λ s. eval_from_root h m n r (reverse s)) (drop_all used path end) ∙ eval-short h m n r more

-- the root is reached with the last hash
pub eval_of-leaf : (h : List ℕ → List ℕ) (m n : ℕ) (r : List ℕ) (path : List (List ℕ)) (used : ℕ)
    → length path ≤ used → m ≡ 0 → n ≡ 1 → eval_of h m n r (drop used path) ≡ Some r
unfolding eval_of
eval_of-leaf h m n r path used end first only =
    ap (λ s. eval_from_root h m n r (reverse s)) (drop_all used path end)
    ∙ eval-leaf h m n r first only

-- the root is reached, and a hash is left
pub eval_of-long : (h : List ℕ → List ℕ) (m n : ℕ) (r : List ℕ) (path : List (List ℕ)) (used : ℕ)
    → used < length path → n ≤ 1 → eval_of h m n r (drop used path) ≡ None
unfolding eval_of
eval_of-long h m n r path used more one =
    let p = get_or path used [] in
    ap (λ s. eval_from_root h m n r (reverse s)) (drop_more path used [] more)
    ∙ ap (eval_from_root h m n r) (reverse-append (p ∷ []) (drop (used + 1) path))
    ∙ eval-one_push h (reverse (drop (used + 1) path)) m n r p one

-- what a loop over the levels preserves: from the node at this index of its level and the hashes
-- that are not used, the definition gives what it gives from the leaf and the whole path
pub record EvaluatesFrom (h : List ℕ → List ℕ) (leaf : List ℕ) (m n : ℕ) (path : List (List ℕ))
    (place last used : ℕ) (node : List ℕ) : Type 0 where
  pub inside : place ≤ last
  pub within : used ≤ length path
  pub same : eval_of h place (last + 1) node (drop used path) ≡ eval_of h m n leaf path

-- one level up, where the node has a sibling
pub EvaluatesFrom-step : (h : List ℕ → List ℕ) (leaf : List ℕ) (m n : ℕ) (path : List (List ℕ))
    (place last used more : ℕ) (node p up : List ℕ)
    → EvaluatesFrom h leaf m n path place last used node
    → used < length path → p ≡ get_or path used [] → place < last + place % 2
    → up ≡ parent_hash h place node p → more ≡ used + 1
    → EvaluatesFrom h leaf m n path (place / 2) (last / 2) more up
EvaluatesFrom-step h leaf m n path place last used more node p up before here p_is sibling
    up_is more_is =
    let inside = before.inside in
    record {
      inside = omega arith;
      within = omega arith;
      same =
          ap (λ u. eval_of h (place / 2) (last / 2 + 1) up (drop u path)) more_is
          ∙ sym (eval_of-step h node p up path used place (last + 1) (place / 2) (last / 2 + 1)
          (place % 2)
          (last % 2) here p_is
          (omega arith) (omega arith) (omega arith) (omega arith) (omega arith)
          (λ even. sym (up_is ∙ cond-true _ _ _ (eq-eqb (place % 2) 0 even)))
          (λ odd. sym (up_is ∙ cond-false _ _ _ (ne_eqb (place % 2) 0 (λ even. omega arith)))))
          ∙ before.same;
    }

-- one level up, where it has none
pub EvaluatesFrom-promoted : (h : List ℕ → List ℕ) (leaf : List ℕ) (m n : ℕ) (path : List (List ℕ))
    (place last used more : ℕ) (node up : List ℕ)
    → EvaluatesFrom h leaf m n path place last used node
    → 0 < last → place % 2 ≡ 0 → last ≤ place → up ≡ node → more ≡ used
    → EvaluatesFrom h leaf m n path (place / 2) (last / 2) more up
EvaluatesFrom-promoted h leaf m n path place last used more node up before some even end
    up_is more_is =
    let inside = before.inside in
    let within = before.within in
    record {
      inside = omega arith;
      within = omega arith;
      same =
          ap (λ u. eval_of h (place / 2) (last / 2 + 1) up (drop u path)) more_is
          ∙ ap (λ r. eval_of h (place / 2) (last / 2 + 1) r (drop used path)) up_is
          ∙ sym (eval_of-promoted h node (drop used path) place (last + 1) (place / 2)
          (last / 2 + 1)
          (omega arith) (omega arith) (omega arith) (omega arith))
          ∙ before.same;
    }

-- The whole answer.

pub evaluation-no_subtree : (h : List ℕ
    → List ℕ) (leaf : List ℕ) (index start end : ℕ) (path : List (List ℕ))
    → is_subtree start end ≡ false → evaluation h leaf index start end path ≡ Err BadSubtree
unfolding evaluation
evaluation-no_subtree h leaf index start end path bad = cond-true _ _ _ (not_from_false _ bad)

pub evaluation-outside : (h : List ℕ
    → List ℕ) (leaf : List ℕ) (index start end : ℕ) (path : List (List ℕ))
    → is_subtree start end ≡ true → (index < start) ⊎ (end ≤ index)
    → evaluation h leaf index start end path ≡ Err Outside
unfolding evaluation
evaluation-outside h leaf index start end path ok outside =
    let out : (leb start index && ltb index end) ≡ false =
    ⊎_elim
    (λ (below : index < start). and_left (leb start index) (ltb index end)
    (lt-leb start index below))
    (λ (above : end ≤ index). and_right (leb start index) (ltb index end) (le-ltb index end above))
    outside in
    cond-false _ _ _ (not_from_true _ ok) ∙ cond-true _ _ _ (not_from_false _ out)

pub evaluation-value : (h : List ℕ → List ℕ) (leaf : List ℕ) (index start end : ℕ)
    (path : List (List ℕ))
    → is_subtree start end ≡ true → start ≤ index → index < end
    → evaluation h leaf index start end path
    ≡ ok_or (eval_of h (index - start) (end - start) leaf path) WrongLength
unfolding evaluation
evaluation-value h leaf index start end path ok from below =
    let inside : (leb start index && ltb index end) ≡ true = and_from _ _ (le-leb start index from)
    (lt-ltb index end below) in
    cond-false _ _ _ (not_from_true _ ok) ∙ cond-false _ _ _ (not_from_true _ inside)

-- a value is answered exactly for an index in a subtree, where the definition has it
pub record HasValue (h : List ℕ → List ℕ) (leaf : List ℕ) (index start end : ℕ)
    (path : List (List ℕ))
    (value : List ℕ) : Type 0 where
  pub valid : is_subtree start end ≡ true
  pub from : start ≤ index
  pub below : index < end
  pub gives : eval_of h (index - start) (end - start) leaf path ≡ Some value

pub evaluation-ok : (h : List ℕ → List ℕ) (leaf : List ℕ) (index start end : ℕ)
    (path : List (List ℕ))
    (value : List ℕ) → HasValue h leaf index start end path value
    → evaluation h leaf index start end path ≡ Ok value
evaluation-ok h leaf index start end path value has =
    evaluation-value h leaf index start end path has.valid has.from has.below
    ∙ ap (λ o. ok_or o WrongLength) has.gives

pub ok-evaluation : (h : List ℕ → List ℕ) (leaf : List ℕ) (index start end : ℕ)
    (path : List (List ℕ))
    (value : List ℕ) → evaluation h leaf index start end path ≡ Ok value
    → HasValue h leaf index start end path value
unfolding evaluation
ok-evaluation h leaf index start end path value answer =
    let tests = passed (is_subtree start end) (leb start index && ltb index end)
    (eval_of h (index - start) (end - start) leaf path) answer in
    let inside = and_parts (leb start index) (ltb index end) tests.1.0 in
    record {
      valid = tests.0;
      from = leb-true start index inside.0;
      below = ltb-true index end inside.1;
      gives = tests.1.1;
    }
  where
    passed : (valid inside : Bool) (o : Option (List ℕ))
        → cond (not valid) (Err BadSubtree) (cond (not inside) (Err Outside) (ok_or o WrongLength))
        ≡ Ok value
        → (valid ≡ true) × ((inside ≡ true) × (o ≡ Some value))
    passed true true (Some x) answer = let same : Some x ≡ Some value = cc in (refl, (refl, same))
    passed true true None answer = cc
    passed true false o answer = cc
    passed false inside o answer = cc
