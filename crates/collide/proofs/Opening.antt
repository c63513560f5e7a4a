-- A list beside the opening of a consistency proof, by the proof's last hash.
use Rattle.std.proofs.Common.{◌≡◌, ℕ, ◌+◌, ◌-◌, ◌^◌, ◌<◌, ◌≤◌, inl, inr, Bool}
use Rattle.std.proofs.Common.{false, List, [], ◌∷◌, ◌++◌, length, take, drop, Some, None}
use Rattle.std.proofs.Common.{sym, ◌∙◌, ap, refl, subst, arith}
use Rattle.std.specs.Prelude.{Option, IsSome, is_some, option_map, reverse}
use Rattle.std.specs.List.{Contains}
use Rattle.std.proofs.lemmas.Bool.{cond-false, cond-true, false≢true, le-leb, lt-leb}
use Rattle.std.proofs.lemmas.List.{drop-take, length-drop, length-take, reverse-append, take-take}
use Rattle.std.proofs.lemmas.List.Elements.{Contains-append_right}
use Rattle.byte_formats.specs.Types.{Hash, HashFunction, Text}
use Rattle.tree_core.proofs.Powers.{split_bounds, split_power, split_unique}
use Rattle.tree_core.specs.Path.{part_of}
use Rattle.tree_core.specs.Split.{split_of}
use Rattle.tree_core.specs.Tree.{pair_hash, tree_hash}
use Rattle.tree_proofs.proofs.Made.{other-whole}
use Rattle.tree_proofs.proofs.Parts.{part_of-drop, part_of-take, part_of-zero}
use Rattle.tree_proofs.specs.declared.outcome.Opened.{Opened}
use Rattle.tree_proofs.specs.Open.{both_right_of, open_from_root, open_of}
use Rattle.tree_proofs.specs.Open.{root_left_of, root_right_of}
use Rattle.collide.proofs.Hashed.{first_in, left_in, right_in, root_in}
use Rattle.tree_proofs.proofs.Halving.{halves_hash}
use Rattle.collide.proofs.Levels.{IsLevel}
use Rattle.tree_proofs.specs.Halves.{AreHalves}
use Rattle.collide.specs.Inputs.{inputs_left, inputs_of, inputs_over, inputs_right}
use Rattle.collide.specs.Inputs.{open_inputs_from_root, open_inputs_of, pair_input}

-- What a proof gave, by what it gave of a part.

pub record HasPart (f : Opened → Opened) (part : Option Opened) (given : Opened) : Type 0 where
  pub below : Opened
  pub gives : part ≡ Some below
  pub is : f below ≡ given

pub opened_below : (f : Opened → Opened) (o p : Option Opened) (given : Opened)
    → p ≡ option_map f o → p ≡ Some given → HasPart f o given
opened_below f (Some x) p given is gives =
    let same : Some (f x) ≡ Some given = sym is ∙ gives in
    record { below = x; gives = refl; is = cc }
opened_below f None p given is gives = let no : None ≡ Some given = sym is ∙ gives in cc

pub opened_some : (f : Opened → Opened) (o p : Option Opened) → p ≡ option_map f o → IsSome p
    → IsSome o
opened_some f (Some x) p is some = refl
opened_some f None p is some = absurd (false≢true (sym (ap is_some is) ∙ some))

-- The strings in an opening, by those of the part.

pub open_inputs_left : (h : HashFunction) (s e n k : ℕ) (known : Bool) (node z : Hash)
    (q : List Hash) → 1 < n → k ≡ split_of n → e ≤ k
    → open_inputs_from_root h s e n known node (z ∷ q)
    ≡ inputs_left z (open_from_root h s e k known node q)
    ++ open_inputs_from_root h s e k known node q
unfolding open_inputs_from_root
open_inputs_left h s e n k known node z q more split left =
    let bounds = split_bounds n in
    let here : e ≤ split_of n = omega arith in
    cond-false _ _ _ (other-whole s e n (inr (omega arith)))
    ∙ cond-true _ _ _ (le-leb e (split_of n) here)
    ∙ ap (λ k. inputs_left z (open_from_root h s e k known node q)
    ++ open_inputs_from_root h s e k known node q) (sym split)

pub open_inputs_right : (h : HashFunction) (s e n k a b c : ℕ) (known : Bool) (node z : Hash)
    (q : List Hash) → 1 < n → k ≡ split_of n → s ≡ k + a → e ≡ k + b → n ≡ k + c → 0 < b
    → open_inputs_from_root h s e n known node (z ∷ q)
    ≡ inputs_right z (open_from_root h a b c known node q)
    ++ open_inputs_from_root h a b c known node q
unfolding open_inputs_from_root
open_inputs_right h s e n k a b c known node z q more split s_is e_is n_is some =
    let bounds = split_bounds n in
    let first : s - split_of n ≡ a = omega arith in
    let last : e - split_of n ≡ b = omega arith in
    let size : n - split_of n ≡ c = omega arith in
    cond-false _ _ _ (other-whole s e n (inl (omega arith)))
    ∙ cond-false _ _ _ (lt-leb e (split_of n) (omega arith))
    ∙ cond-true _ _ _ (le-leb (split_of n) s (omega arith))
    ∙ ap (λ i. inputs_right z (open_from_root h i (e - split_of n) (n - split_of n) known node q)
    ++ open_inputs_from_root h i (e - split_of n) (n - split_of n) known node q) first
    ∙ ap (λ i. inputs_right z (open_from_root h a i (n - split_of n) known node q)
    ++ open_inputs_from_root h a i (n - split_of n) known node q) last
    ∙ ap (λ i. inputs_right z (open_from_root h a b i known node q)
    ++ open_inputs_from_root h a b i known node q) size

pub open_inputs_over : (h : HashFunction) (s e n k b c : ℕ) (known : Bool) (node z : Hash)
    (q : List Hash) → 1 < n → k ≡ split_of n → s < k → e ≡ k + b → n ≡ k + c → 0 < b → e < n
    → open_inputs_from_root h s e n known node (z ∷ q)
    ≡ inputs_over z (open_from_root h 0 b c false node q)
    ++ open_inputs_from_root h 0 b c false node q
unfolding open_inputs_from_root
open_inputs_over h s e n k b c known node z q more split before e_is n_is some part =
    let last : e - split_of n ≡ b = omega arith in
    let size : n - split_of n ≡ c = omega arith in
    cond-false _ _ _ (other-whole s e n (inr part))
    ∙ cond-false _ _ _ (lt-leb e (split_of n) (omega arith))
    ∙ cond-false _ _ _ (lt-leb (split_of n) s (omega arith))
    ∙ ap (λ i. inputs_over z (open_from_root h 0 i (n - split_of n) false node q)
    ++ open_inputs_from_root h 0 i (n - split_of n) false node q) last
    ∙ ap (λ i. inputs_over z (open_from_root h 0 b i false node q)
    ++ open_inputs_from_root h 0 b i false node q) size

-- an opening's strings turned, since the last hash of a proof is the first from the root down
pub turned : (h : HashFunction) (s e n : ℕ) (known : Bool) (node z : Hash) (proof rest : List Hash)
    → proof ≡ rest ++ z ∷ []
    → open_inputs_of h s e n known node proof
    ≡ open_inputs_from_root h s e n known node (z ∷ reverse rest)
unfolding open_inputs_of
turned h s e n known node z proof rest is =
    ap (open_inputs_from_root h s e n known node) (ap reverse is ∙ reverse-append rest (z ∷ []))

-- one of the strings before those of the part
pub prefix_in : (x : Text) (texts prefix more rest : List Text) → texts ≡ prefix ++ rest
    → prefix ≡ x ∷ more → Contains texts x
prefix_in x texts prefix more rest texts_are prefix_is =
    subst (λ t. Contains t x) (sym (texts_are ∙ ap (λ f. f ++ rest) prefix_is))
    (first_in x (more ++ rest))

pub rest_in : (texts prefix rest : List Text) (t : Text) → texts ≡ prefix ++ rest → Contains rest t
    → Contains texts t
rest_in texts prefix rest t texts_are within =
    subst (λ all. Contains all t) (sym texts_are) (Contains-append_right prefix rest t within)

-- The levels of a list and of an opening.

pub open_level-left : (h : HashFunction) (xs l r : List Text) (s e n k : ℕ) (known : Bool)
    (node z : Hash) (proof rest : List Hash) (o below : Opened)
    → AreHalves xs l r → proof ≡ rest ++ z ∷ [] → 1 < n → k ≡ split_of n → e ≤ k
    → open_of h s e k known node rest ≡ Some below → root_left_of h z below ≡ o
    → IsLevel h (tree_hash h xs) o.root (pair_input (tree_hash h l) (tree_hash h r))
    (pair_input below.root z) (inputs_of h l) (open_inputs_of h s e k known node rest)
    (inputs_of h xs) (open_inputs_of h s e n known node proof)
unfolding open_of open_inputs_of
open_level-left h xs l r s e n k known node z proof rest o below halves is more split left gives
    given =
    let texts = turned h s e n known node z proof rest is
    ∙ open_inputs_left h s e n k known node z (reverse rest) more split left in
    record {
      first = sym (halves_hash h xs l r halves);
      second = ap (λ o. o.root) given;
      first_in = root_in h xs l r halves;
      second_in = prefix_in (pair_input below.root z) _ _ [] _ texts (ap (inputs_left z) gives);
      firsts = λ t. left_in h xs l r t halves;
      seconds = λ t. rest_in _ _ _ t texts;
    }

pub open_level-right : (h : HashFunction) (xs l r : List Text) (s e n k a b c : ℕ) (known : Bool)
    (node z : Hash) (proof rest : List Hash) (o below : Opened)
    → AreHalves xs l r → proof ≡ rest ++ z ∷ [] → 1 < n → k ≡ split_of n
    → s ≡ k + a → e ≡ k + b → n ≡ k + c → 0 < b
    → open_of h a b c known node rest ≡ Some below → root_right_of h z below ≡ o
    → IsLevel h (tree_hash h xs) o.root (pair_input (tree_hash h l) (tree_hash h r))
    (pair_input z below.root) (inputs_of h r) (open_inputs_of h a b c known node rest)
    (inputs_of h xs) (open_inputs_of h s e n known node proof)
unfolding open_of open_inputs_of
open_level-right h xs l r s e n k a b c known node z proof rest o below halves is more split s_is
    e_is
    n_is some gives given =
    let texts = turned h s e n known node z proof rest is
    ∙ open_inputs_right h s e n k a b c known node z (reverse rest) more split s_is e_is n_is some
    in
    record {
      first = sym (halves_hash h xs l r halves);
      second = ap (λ o. o.root) given;
      first_in = root_in h xs l r halves;
      second_in = prefix_in (pair_input z below.root) _ _ [] _ texts (ap (inputs_right z) gives);
      firsts = λ t. right_in h xs l r t halves;
      seconds = λ t. rest_in _ _ _ t texts;
    }

pub open_level-over : (h : HashFunction) (xs l r : List Text) (s e n k b c : ℕ) (known : Bool)
    (node z : Hash) (proof rest : List Hash) (o below : Opened)
    → AreHalves xs l r → proof ≡ rest ++ z ∷ [] → 1 < n → k ≡ split_of n
    → s < k → e ≡ k + b → n ≡ k + c → 0 < b → e < n
    → open_of h 0 b c false node rest ≡ Some below → both_right_of h z below ≡ o
    → IsLevel h (tree_hash h xs) o.root (pair_input (tree_hash h l) (tree_hash h r))
    (pair_input z below.root) (inputs_of h r) (open_inputs_of h 0 b c false node rest)
    (inputs_of h xs) (open_inputs_of h s e n known node proof)
unfolding open_of open_inputs_of
open_level-over h xs l r s e n k b c known node z proof rest o below halves is more split before
    e_is
    n_is some part gives given =
    let texts = turned h s e n known node z proof rest is
    ∙ open_inputs_over h s e n k b c known node z (reverse rest) more split before e_is n_is some
    part in
    record {
      first = sym (halves_hash h xs l r halves);
      second = ap (λ o. o.root) given;
      first_in = root_in h xs l r halves;
      second_in = prefix_in (pair_input z below.root) _ _ (pair_input z below.subtree ∷ []) _ texts
          (ap (inputs_over z) gives);
      firsts = λ t. right_in h xs l r t halves;
      seconds = λ t. rest_in _ _ _ t texts;
    }

-- The subtree, by the part where it lies.

pub subtree_left : (h : HashFunction) (xs l r : List Text) (s e k : ℕ) → AreHalves xs l r
    → k ≡ split_of (length xs) → s ≤ e → e ≤ k
    → tree_hash h (part_of xs s e) ≡ tree_hash h (part_of l s e)
subtree_left h xs l r s e k halves split order left =
    ap (tree_hash h) (sym (part_of-take xs s e (split_of (length xs)) order (omega arith))
    ∙ ap (λ part. part_of part s e) (sym halves.left))

pub subtree_right : (h : HashFunction) (xs l r : List Text) (s e k a b : ℕ) → AreHalves xs l r
    → k ≡ split_of (length xs) → s ≡ k + a → e ≡ k + b
    → tree_hash h (part_of xs s e) ≡ tree_hash h (part_of r a b)
subtree_right h xs l r s e k a b halves split s_is e_is =
    let first : s - split_of (length xs) ≡ a = omega arith in
    let last : e - split_of (length xs) ≡ b = omega arith in
    ap (tree_hash h) (sym (part_of-drop xs s e (split_of (length xs)) (omega arith))
    ∙ ap (λ part. part_of part (s - split_of (length xs)) (e - split_of (length xs)))
    (sym halves.right)
    ∙ ap (λ i. part_of r i (e - split_of (length xs))) first ∙ ap (part_of r a) last)

-- an interval from the first entry on that goes beyond the split is split there too
over_halves : (xs l r : List Text) (e b : ℕ) → AreHalves xs l r → e ≤ length xs
    → e ≡ split_of (length xs) + b → 0 < b
    → AreHalves (part_of xs 0 e) l (part_of r 0 b)
over_halves xs l r e b halves within e_is some =
    let power = split_power (length xs) in
    let power_is : split_of (length xs) ≡ 2 ^ power.0 = power.1 in
    let bounds = split_bounds (length xs) in
    let prefix = halves.some in
    let back = halves.rest in
    let all = halves.all in
    let size : length (take e xs) ≡ e = length-take e xs ∙ omega arith in
    let part : part_of xs 0 e ≡ take e xs = part_of-zero xs e in
    let part_size : length (part_of xs 0 e) ≡ e = ap length part ∙ size in
    let split : split_of (length (part_of xs 0 e)) ≡ split_of (length xs) =
    ap split_of part_size ∙ split_unique e power.0 (omega arith) (omega arith) ∙ sym power_is in
    let right : part_of r 0 b ≡ drop (split_of (length xs)) (take e xs) =
    part_of-zero r b ∙ ap (take b) halves.right
    ∙ sym (drop-take (split_of (length xs)) b xs)
    ∙ ap (λ n. drop (split_of (length xs)) (take n xs)) (sym e_is) in
    let right_size : length (part_of r 0 b) ≡ b =
    ap length right ∙ length-drop (split_of (length xs)) (take e xs) ∙ omega arith in
    let count = halves.count in
    record {
      left = halves.left ∙ sym (take-take (split_of (length xs)) e xs (omega arith))
          ∙ ap (λ k. take k (take e xs)) (sym split)
          ∙ ap (take (split_of (length (part_of xs 0 e)))) (sym part);
      right = right ∙ ap (λ k. drop k (take e xs)) (sym split)
          ∙ ap (drop (split_of (length (part_of xs 0 e)))) (sym part);
      count = count ∙ sym split;
      some = prefix;
      rest = omega arith;
      all = omega arith;
    }

pub subtree_over : (h : HashFunction) (xs l r : List Text) (s e k b : ℕ) → AreHalves xs l r
    → k ≡ split_of (length xs) → s ≡ 0 → e ≡ k + b → 0 < b → e ≤ length xs
    → tree_hash h (part_of xs s e) ≡ pair_hash h (tree_hash h l) (tree_hash h (part_of r 0 b))
subtree_over h xs l r s e k b halves split s_is e_is some within =
    ap (λ i. tree_hash h (part_of xs i e)) s_is
    ∙ halves_hash h (part_of xs 0 e) l (part_of r 0 b)
    (over_halves xs l r e b halves within (omega arith) some)
