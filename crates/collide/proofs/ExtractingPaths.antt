-- A list and an inclusion path, whatever they are: the entry is the list's own, or there are two
-- strings with one hash.
use Rattle.std.proofs.Common.{◌≡◌, ℕ, ◌+◌, ◌-◌, ◌<◌, ◌≤◌, ⊎_elim, inl, inr, List, [], ◌∷◌}
use Rattle.std.proofs.Common.{◌++◌, length, take, drop, get_or, Some, sym, ◌∙◌, ap, refl, subst}
use Rattle.std.proofs.Common.{arith}
use Rattle.std.specs.Prelude.{IsSome, is_some, reverse}
use Rattle.std.specs.List.{AllByRecursion, Contains}
use Rattle.std.proofs.lemmas.Bool.{cases_lt}
use Rattle.std.proofs.lemmas.List.{reverse-append, reverse-reverse}
use Rattle.byte_formats.specs.Types.{Hash, HashFunction, Text}
use Rattle.tree_core.proofs.Evaluates.{ok-evaluation}
use Rattle.tree_core.proofs.Roots.{root_of-one}
use Rattle.tree_core.specs.Evaluation.{eval_of}
use Rattle.tree_core.specs.Path.{part_of}
use Rattle.tree_core.specs.Split.{split_of}
use Rattle.tree_core.specs.Tree.{leaf_hash, pair_hash, tree_hash}
use Rattle.collide.proofs.Evaluated.{eval_texts-left, eval_texts-right, item_left, item_right}
use Rattle.collide.proofs.Evaluated.{path_leaf, path_more, value_below, value_left, value_right}
use Rattle.collide.proofs.Extracting.{Agrees, IsSized, all_reversed, level_agrees, pair_left}
use Rattle.collide.proofs.Extracting.{tree_hash-sized}
use Rattle.tree_proofs.proofs.Halving.{halves_of, part_item, part_length}
use Rattle.collide.proofs.Hashed.{first_in, inputs_of-one, left_in, right_in, root_in}
use Rattle.tree_proofs.proofs.Halving.{halves_hash}
use Rattle.collide.proofs.Hashed.{parts_right, unprefixed}
use Rattle.tree_proofs.specs.Halves.{AreHalves}
use Rattle.collide.specs.Inputs.{eval_inputs_of, inputs_of, leaf_input}
use Rattle.collide.specs.Laws.{PathsExtract}

none_in : (xs : List Text) (t : Text) → Contains [] t → Contains xs t
none_in xs t within = let below = within.1 in absurd (omega arith)

-- Two leaves.
pub leaves_agree : (h : HashFunction) (same : Type 0) (one other : Hash) (x y : Text)
    (xs ys : List Text) → h (leaf_input x) ≡ one → h (leaf_input y) ≡ other
    → Contains xs (leaf_input x) → Contains ys (leaf_input y) → (x ≡ y → same)
    → Agrees h same one other xs ys
leaves_agree h same one other x y xs ys first second first_in second_in so =
    level_agrees h (Unit {0}) same [] [] one other (leaf_input x) (leaf_input y) [] [] xs ys
    (record {
      first = first;
      second = second;
      first_in = first_in;
      second_in = second_in;
      firsts = none_in xs;
      seconds = none_in ys;
    })
    (λ is. refl) (λ is done. so (unprefixed 0 x y is)) (inl (λ is. tt))

one_agrees : (h : HashFunction) (xs : List Text) (m n : ℕ) (entry : Text) (value : Hash)
    (path : List Hash) → length path ≡ 0 → n ≡ length xs → m < n
    → eval_of h m n (leaf_hash h entry) path ≡ Some value
    → Agrees h (get_or xs m [] ≡ entry) (tree_hash h xs) value (inputs_of h xs)
    (eval_inputs_of h m n entry path)
unfolding eval_inputs_of
one_agrees h [] m n entry value path none size inside gives = absurd (omega arith)
one_agrees h (x ∷ []) m n entry value path none size inside gives =
    let leaf = path_leaf h m n (leaf_hash h entry) value path inside none gives in
    leaves_agree h _ (tree_hash h (x ∷ [])) value x entry (inputs_of h (x ∷ [])) _
    (sym (root_of-one h (leaf_hash h x))) (sym leaf.gives)
    (subst (λ (texts : List Text). Contains texts (leaf_input x)) (sym (inputs_of-one h x))
    (first_in (leaf_input x) []))
    (first_in (leaf_input entry) _)
    (λ same. ap (λ i. get_or (x ∷ []) i []) leaf.first ∙ same)
one_agrees h (x ∷ y ∷ rest) m n entry value path none size inside gives =
    let leaf = path_leaf h m n (leaf_hash h entry) value path inside none gives in
    let only = leaf.only in
    absurd (omega arith)

-- By the path's last hash.
path_agrees : (q : List Hash) (h : HashFunction) → IsSized h → (xs : List Text) (m n : ℕ)
    (entry : Text) (value : Hash) (path : List Hash) → path ≡ reverse q
    → AllByRecursion (λ hash. length hash ≡ 32) q → n ≡ length xs → m < n
    → eval_of h m n (leaf_hash h entry) path ≡ Some value
    → Agrees h (get_or xs m [] ≡ entry) (tree_hash h xs) value (inputs_of h xs)
    (eval_inputs_of h m n entry path)
path_agrees [] h sized xs m n entry value path turned hashes size inside gives =
    one_agrees h xs m n entry value path (ap length turned) size inside gives
path_agrees (z ∷ q) h sized xs m n entry value path turned hashes size inside gives =
    let is : path ≡ reverse q ++ z ∷ [] = turned ∙ reverse-append (z ∷ []) q in
    let leaf = leaf_hash h entry in
    let some : IsSome (eval_of h m n leaf path) = ap is_some gives in
    let more : 1 < n = path_more h m n leaf z path (reverse q) is some in
    let k = split_of n in
    let l = take (split_of (length xs)) xs in
    let r = drop (split_of (length xs)) xs in
    let halves : AreHalves xs l r = halves_of xs (omega arith) in
    let whole = halves.all in
    let count : k ≡ length l = ap split_of size ∙ sym halves.count in
    ⊎_elim
    (λ (left : m < k).
    let below = value_below (λ a. pair_hash h a z) value _ _
    (value_left h m n k leaf z path (reverse q) is more refl left) gives in
    let texts = eval_texts-left h m n k entry z below.0 path (reverse q) is refl left below.1.0 in
    let beside : length (tree_hash h r) ≡ length z = tree_hash-sized h sized r ∙ sym hashes.0 in
    level_agrees h (get_or l m [] ≡ entry) _ (tree_hash h l) below.0 _ _ _ _ _ _ _ _
    (record {
      first = sym (halves_hash h xs l r halves);
      second = below.1.1;
      first_in = root_in h xs l r halves;
      second_in = texts.top;
      firsts = λ t. left_in h xs l r t halves;
      seconds = texts.below;
    })
    (pair_left _ _ _ _ beside)
    (λ same here. sym (item_left xs l r m halves (omega arith)) ∙ here)
    (path_agrees q h sized l m k entry below.0 (reverse q) refl hashes.1 count left below.1.0))
    (λ (right : k ≤ m).
    let a = m - k in
    let b = n - k in
    let m_is : m ≡ k + a = omega arith in
    let n_is : n ≡ k + b = omega arith in
    let rest : b ≡ length r = omega arith in
    let below = value_below (λ v. pair_hash h z v) value _ _
    (value_right h m n k a b leaf z path (reverse q) is more refl m_is n_is) gives in
    let texts = eval_texts-right h m n k a b entry z below.0 path (reverse q) is refl m_is n_is
    below.1.0 in
    let beside : length (tree_hash h l) ≡ length z = tree_hash-sized h sized l ∙ sym hashes.0 in
    level_agrees h (get_or r a [] ≡ entry) _ (tree_hash h r) below.0 _ _ _ _ _ _ _ _
    (record {
      first = sym (halves_hash h xs l r halves);
      second = below.1.1;
      first_in = root_in h xs l r halves;
      second_in = texts.top;
      firsts = λ t. right_in h xs l r t halves;
      seconds = texts.below;
    })
    (λ same. parts_right (tree_hash h l) (tree_hash h r) z below.0 beside
    (unprefixed 1 (tree_hash h l ++ tree_hash h r) (z ++ below.0) same))
    (λ same here. sym (item_right xs l r m a halves (omega arith)) ∙ here)
    (path_agrees q h sized r a b entry below.0 (reverse q) refl hashes.1 rest (omega arith)
    below.1.0))
    (cases_lt m k)

pub PathsExtract_always : (h : HashFunction) → IsSized h → PathsExtract h
PathsExtract_always h sized entries start end index entry path hashes within evaluates =
    let part = part_of entries start end in
    let has = ok-evaluation h (leaf_hash h entry) index start end path (tree_hash h part)
    evaluates in
    let from = has.from in
    let below = has.below in
    let size = part_length entries part start end within refl in
    let agrees = path_agrees (reverse path) h sized part (index - start) (end - start) entry
    (tree_hash h part) path (sym (reverse-reverse path)) (all_reversed path hashes) (sym size)
    (omega arith) has.gives in
    let item = part_item entries part start end index from below refl in
    ⊎_elim (λ (agree : tree_hash h part ≡ tree_hash h part
    → get_or part (index - start) [] ≡ entry). inl (sym item ∙ agree refl)) (λ found. inr found)
    agrees
