-- A list and a consistency proof, whatever they are: the proof's node is the list's own, or there
-- are two strings with one hash.
use Rattle.std.proofs.Common.{◌≡◌, ℕ, ◌-◌, ◌<◌, ◌≤◌, ◌⊎◌, ⊎_elim, inl, inr, Bool, true, false}
use Rattle.std.proofs.Common.{List, [], ◌∷◌, ◌++◌, length, take, drop, Some, None, sym, ◌∙◌, ap}
use Rattle.std.proofs.Common.{refl, subst, arith}
use Rattle.std.specs.Prelude.{bytes_eq, reverse}
use Rattle.std.specs.List.{AllByRecursion, Contains}
use Rattle.std.proofs.lemmas.Bool.{false≢true}
use Rattle.std.proofs.lemmas.List.{length-append, reverse-append, reverse-reverse}
use Rattle.std.proofs.lemmas.Slice.Eq.{bytes_eq-Decides}
use Rattle.byte_formats.specs.Types.{Hash, HashFunction, Text}
use Rattle.tree_core.proofs.Powers.{split_bounds}
use Rattle.tree_core.proofs.Roots.{root_of-none, root_of-one, tree_hash-split}
use Rattle.tree_core.specs.Split.{split_of}
use Rattle.tree_core.specs.Tree.{leaf_hash, tree_hash}
use Rattle.tree_core.specs.Path.{part_of}
use Rattle.tree_proofs.proofs.Fulls.{some_in}
use Rattle.tree_proofs.proofs.Made.{cases_place}
use Rattle.tree_proofs.proofs.Opens.{open_of-short}
use Rattle.tree_proofs.specs.declared.outcome.Opened.{Opened}
use Rattle.tree_proofs.specs.Open.{open_of, opened_at}
use Rattle.collide.proofs.Compared.{collision_widened}
use Rattle.collide.proofs.Hashed.{parts_left, parts_right, unprefixed}
use Rattle.tree_proofs.proofs.Halving.{halves_of}
use Rattle.collide.proofs.Levels.{IsLevel}
use Rattle.collide.proofs.OpenSteps.{StepsRight, proof_whole, step_left, step_over, step_right}
use Rattle.collide.specs.Extraction.{HasCollision}
use Rattle.collide.specs.Inputs.{inputs_of, open_inputs_of, pair_input}
use Rattle.collide.specs.Laws.{ProofsExtract}

-- where two hashes agree what they are computed from is the same, or there are two strings
abbrev pub Agrees : HashFunction → Type 0 → Hash → Hash → List Text → List Text → Type 0
Agrees h same one other firsts seconds =
    (one ≡ other → same) ⊎ HasCollision h firsts seconds

-- hashes are 32 bytes long
abbrev pub IsSized : HashFunction → Type 0
IsSized h = (b : Text) → length (h b) ≡ 32

pub tree_hash-sized : (h : HashFunction) → IsSized h → (entries : List Text)
    → length (tree_hash h entries) ≡ 32
tree_hash-sized h sized [] = ap length (root_of-none h) ∙ sized []
tree_hash-sized h sized (x ∷ []) = ap length (root_of-one h (leaf_hash h x)) ∙ sized (0 ∷ x)
tree_hash-sized h sized (x ∷ y ∷ rest) =
    ap length (tree_hash-split h (x ∷ y ∷ rest) (omega arith)) ∙ sized _

pub texts_same : (x y : Text) → (x ≡ y) ⊎ (x ≡ y → ⊥)
texts_same x y = by_test (bytes_eq x y) refl
  where
    by_test : (b : Bool) → bytes_eq x y ≡ b → (x ≡ y) ⊎ (x ≡ y → ⊥)
    by_test true is = let decides = bytes_eq-Decides x y in inl (decides.0 is)
    by_test false is =
        let decides = bytes_eq-Decides x y in
        inr (λ same. false≢true (sym is ∙ decides.1 same))

-- what was found stays where there are more strings
pub found_wider : (h : HashFunction) (vs ws xs ys : List Text)
    → ((t : Text) → Contains vs t → Contains xs t) → ((t : Text) → Contains ws t → Contains ys t)
    → HasCollision h vs ws → HasCollision h xs ys
found_wider h vs ws xs ys firsts seconds found = (
  found.0,
  (
    found.1.0,
    collision_widened h vs ws xs ys found.0 found.1.0 (firsts found.0) (seconds found.1.0)
        found.1.1,
  ),
)

-- The node above two nodes, of which one is compared.
pub level_agrees : (h : HashFunction) (this that : Type 0) (a c one other : Hash) (x y : Text)
    (vs ws xs ys : List Text) → IsLevel h one other x y vs ws xs ys
    → (x ≡ y → a ≡ c) → (x ≡ y → this → that)
    → Agrees h this a c vs ws → Agrees h that one other xs ys
level_agrees h this that a c one other x y vs ws xs ys level below so (inr found) =
    inr (found_wider h vs ws xs ys level.firsts level.seconds found)
level_agrees h this that a c one other x y vs ws xs ys level below so (inl agree) =
    ⊎_elim
    (λ (same : x ≡ y). inl (λ is. so same (agree (below same))))
    (λ (differ : x ≡ y → ⊥).
    ⊎_elim
    (λ (one_hash : h x ≡ h y). inr (
      x,
      (
        y,
        record {
          differ = differ;
          one_hash = one_hash;
          first = level.first_in;
          second = level.second_in;
        },
      ),
    ))
    (λ (apart : h x ≡ h y → ⊥).
    inl (λ is. absurd (apart (level.first ∙ is ∙ sym level.second))))
    (texts_same (h x) (h y)))
    (texts_same x y)

-- two strings of pairs
pub pair_left : (a b c d : Hash) → length b ≡ length d → pair_input a b ≡ pair_input c d → a ≡ c
pair_left a b c d size same =
    let texts = unprefixed 1 (a ++ b) (c ++ d) same in
    let all = ap length texts in
    let first = length-append a b in
    let second = length-append c d in
    parts_left a b c d (omega arith) texts

pub pair_right : (a b c d : Hash) → length b ≡ length d → pair_input a b ≡ pair_input c d → b ≡ d
pair_right a b c d size same =
    let texts = unprefixed 1 (a ++ b) (c ++ d) same in
    let all = ap length texts in
    let first = length-append a b in
    let second = length-append c d in
    parts_right a b c d (omega arith) texts

-- The subtree is the whole list.
whole_agrees : (h : HashFunction) (xs : List Text) (s e n : ℕ) (known : Bool) (node : Hash)
    (proof : List Hash) (given : Opened) → n ≡ length xs → s ≡ 0 → e ≡ n
    → open_of h s e n known node proof ≡ Some given
    → Agrees h (tree_hash h (part_of xs s e) ≡ given.subtree) (tree_hash h xs) given.root
    (inputs_of h xs) (open_inputs_of h s e n known node proof)
whole_agrees h xs s e n known node proof given n_is first last gives =
    let are = proof_whole h xs s e n known node proof
    (record { first = tree_hash h xs; second = given.root }) given n_is first last refl refl gives
    given gives in
    inl are.agree

-- the reverse of a list of hashes has the same ones
pub all_reversed : (proof : List Hash) → AllByRecursion (λ hash. length hash ≡ 32) proof
    → AllByRecursion (λ hash. length hash ≡ 32) (reverse proof)
all_reversed [] hashes = hashes
all_reversed (x ∷ rest) hashes =
    subst (AllByRecursion (λ hash. length hash ≡ 32)) (sym (reverse-append (x ∷ []) rest))
    (pushed (reverse rest) (all_reversed rest hashes.1))
  where
    pushed : (xs : List Hash) → AllByRecursion (λ hash. length hash ≡ 32) xs
        → AllByRecursion (λ hash. length hash ≡ 32) (xs ++ x ∷ [])
    pushed [] all = (hashes.0, all)
    pushed (y ∷ xs) all = (all.0, pushed xs all.1)

-- The right part is opened.
right_agrees : (h : HashFunction) → IsSized h → (xs l r : List Text) (s e n from to c : ℕ)
    (known still : Bool) (node z : Hash) (proof rest : List Hash) (given : Opened)
    (step : StepsRight h xs l r s e n known node z proof rest given from to c still)
    → length z ≡ 32
    → Agrees h (tree_hash h (part_of r from to) ≡ step.below.subtree) (tree_hash h r)
    step.below.root (inputs_of h r) (open_inputs_of h from to c still node rest)
    → Agrees h (tree_hash h (part_of xs s e) ≡ given.subtree) (tree_hash h xs) given.root
    (inputs_of h xs) (open_inputs_of h s e n known node proof)
right_agrees h sized xs l r s e n from to c known still node z proof rest given step z_size below =
    let size : length (tree_hash h l) ≡ length z = tree_hash-sized h sized l ∙ sym z_size in
    level_agrees h (tree_hash h (part_of r from to) ≡ step.below.subtree) _ (tree_hash h r)
    step.below.root _ _ _ _ _ _ _ _ step.level
    (λ same. parts_right (tree_hash h l) (tree_hash h r) z step.below.root size
    (unprefixed 1 (tree_hash h l ++ tree_hash h r) (z ++ step.below.root) same))
    (λ same here. step.so here (parts_left (tree_hash h l) (tree_hash h r) z step.below.root size
    (unprefixed 1 (tree_hash h l ++ tree_hash h r) (z ++ step.below.root) same)))
    below

-- By the proof's last hash.
opening_agrees : (q : List Hash) (h : HashFunction) → IsSized h → (xs : List Text) (s e n : ℕ)
    (known : Bool) (node : Hash) (proof : List Hash) (given : Opened)
    → proof ≡ reverse q → AllByRecursion (λ hash. length hash ≡ 32) q → n ≡ length xs → s < e
    → e ≤ n → open_of h s e n known node proof ≡ Some given
    → Agrees h (tree_hash h (part_of xs s e) ≡ given.subtree) (tree_hash h xs) given.root
    (inputs_of h xs) (open_inputs_of h s e n known node proof)
opening_agrees [] h sized xs s e n known node proof given turned hashes n_is order within gives =
    cases_place s e n order within
    (λ first last. whole_agrees h xs s e n known node proof given n_is first last gives)
    (λ more le.
    let bounds = split_bounds n in
    none (inr (omega arith)))
    (λ more le.
    let bounds = split_bounds n in
    none (inl (omega arith)))
    (λ more other before past. none other)
  where
    none : (0 < s) ⊎ (e < n) → Agrees h (tree_hash h (part_of xs s e) ≡ given.subtree)
        (tree_hash h xs) given.root (inputs_of h xs) (open_inputs_of h s e n known node proof)
    none other =
        let no : None ≡ Some given = sym (open_of-short h s e n known node proof other
        (ap length turned)) ∙ gives in cc
opening_agrees (z ∷ q) h sized xs s e n known node proof given turned hashes n_is order within
    gives =
    let is : proof ≡ reverse q ++ z ∷ [] = turned ∙ reverse-append (z ∷ []) q in
    let l = take (split_of (length xs)) xs in
    let r = drop (split_of (length xs)) xs in
    let k = split_of n in
    cases_place s e n order within
    (λ first last. whole_agrees h xs s e n known node proof given n_is first last gives)
    (λ more le.
    let halves = halves_of xs (omega arith) in
    let count : split_of n ≡ length l = ap split_of n_is ∙ sym halves.count in
    let step = step_left h xs l r s e n k known node z proof (reverse q) halves is n_is count order
    le given gives in
    let size : length (tree_hash h r) ≡ length z = tree_hash-sized h sized r ∙ sym hashes.0 in
    level_agrees h _ _ (tree_hash h l) step.below.root _ _ _ _ _ _ _ _ step.level
    (pair_left _ _ _ _ size)
    (λ same below. step.so below (pair_right _ _ _ _ size same))
    (opening_agrees q h sized l s e k known node (reverse q) step.below refl hashes.1 count order le
    step.gives))
    (λ more le.
    let halves = halves_of xs (omega arith) in
    let whole = halves.all in
    let count : split_of n ≡ length l = ap split_of n_is ∙ sym halves.count in
    let rest : n - split_of n ≡ length r = omega arith in
    let bounds = split_bounds n in
    let step = step_right h xs l r s e n k (s - split_of n) (e - split_of n) (n - split_of n) known
    node z proof (reverse q) halves is n_is count rest (omega arith) (omega arith) (omega arith)
    given gives in
    right_agrees h sized xs l r s e n (s - k) (e - k) (n - k) known known node z proof (reverse q)
    given step hashes.0
    (opening_agrees q h sized r (s - k) (e - k) (n - k) known node (reverse q) step.below refl
    hashes.1 rest (omega arith) (omega arith) step.gives))
    (λ more other before past.
    let halves = halves_of xs (omega arith) in
    let whole = halves.all in
    let count : split_of n ≡ length l = ap split_of n_is ∙ sym halves.count in
    let rest : n - split_of n ≡ length r = omega arith in
    let bounds = split_bounds n in
    let step = step_over h xs l r s e n k (e - split_of n) (n - split_of n) known node z proof
    (reverse q) halves is n_is count rest before (omega arith) (omega arith) within other given
    gives in
    right_agrees h sized xs l r s e n 0 (e - k) (n - k) known false node z proof (reverse q) given
    step hashes.0
    (opening_agrees q h sized r 0 (e - k) (n - k) false node (reverse q) step.below refl hashes.1
    rest (omega arith) (omega arith) step.gives))

pub ProofsExtract_always : (h : HashFunction) → IsSized h → ProofsExtract h
ProofsExtract_always h sized entries start end node proof hashes checks =
    let agrees = opening_agrees (reverse proof) h sized entries start end (length entries) true node
    proof (opened_at node (tree_hash h entries)) (sym (reverse-reverse proof))
    (all_reversed proof hashes) refl (some_in start end checks.valid) checks.within checks.opens in
    ⊎_elim (λ (agree : tree_hash h entries ≡ tree_hash h entries
    → tree_hash h (part_of entries start end) ≡ node). inl (agree refl)) (λ found. inr found) agrees
