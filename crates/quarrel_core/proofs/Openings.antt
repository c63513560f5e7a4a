-- Openings of which the hash isn't known, and one level of an opening.
use Rattle.std.proofs.Common.{◌≡◌, ℕ, ◌+◌, ◌-◌, ◌<◌, ◌≤◌, ◌⊎◌, ⊎_elim, inl, inr, Bool, true}
use Rattle.std.proofs.Common.{false, List, [], ◌∷◌, ◌++◌, length, Some, None, sym, ◌∙◌, ap, refl}
use Rattle.std.proofs.Common.{subst, arith}
use Rattle.std.specs.Prelude.{Option, option_map}
use Rattle.std.specs.List.{Contains}
use Rattle.std.proofs.lemmas.Bool.{cases_lt}
use Rattle.std.proofs.lemmas.List.Elements.{Contains-append_left, Contains-append_right}
use Rattle.std.proofs.lemmas.Option.{same_Some}
use Rattle.byte_formats.specs.Types.{Hash, HashFunction, Text}
use Rattle.tree_core.proofs.Powers.{split_bounds}
use Rattle.tree_core.specs.Split.{split_of}
use Rattle.tree_proofs.proofs.Made.{cases_place}
use Rattle.tree_proofs.proofs.Opens.{open-left, open-none, open-over, open-right, open-short}
use Rattle.tree_proofs.proofs.Opens.{open-whole}
use Rattle.tree_proofs.specs.declared.outcome.Opened.{Opened}
use Rattle.tree_proofs.specs.Open.{both_right_of, open_from_root, open_whole, opened_at}
use Rattle.tree_proofs.specs.Open.{root_left_of, root_right_of}
use Rattle.collide.proofs.Extracting.{IsSized}
use Rattle.collide.proofs.Opening.{open_inputs_left, open_inputs_over, open_inputs_right}
use Rattle.collide.proofs.Opening.{opened_below}
use Rattle.collide.proofs.Hashed.{first_in, later_in}
use Rattle.collide.specs.Inputs.{inputs_left, inputs_over, inputs_right, open_inputs_from_root}
use Rattle.collide.specs.Inputs.{pair_input}
use Rattle.quarrel_core.specs.Sizes.{AreFullHashes}

-- where the subtree is the whole list, its hash is the root
pub whole_equal : (known : Bool) (node : Hash) (q : List Hash) (given : Opened)
    → open_whole known node q ≡ Some given → given.subtree ≡ given.root
whole_equal true node [] given gives =
    let same = same_Some (opened_at node node) given gives in
    sym (ap (λ (o : Opened). o.subtree) same) ∙ ap (λ (o : Opened). o.root) same
whole_equal true node (x ∷ rest) given gives = absurd cc
whole_equal false node [] given gives = absurd cc
whole_equal false node (x ∷ []) given gives =
    let same = same_Some (opened_at x x) given gives in
    sym (ap (λ (o : Opened). o.subtree) same) ∙ ap (λ (o : Opened). o.root) same
whole_equal false node (x ∷ y ∷ rest) given gives = absurd cc

pub root_of_whole : (h : HashFunction) (s e n : ℕ) (known : Bool) (node : Hash) (q : List Hash)
    (given : Opened) → s ≡ 0 → e ≡ n → open_from_root h s e n known node q ≡ Some given
    → given.subtree ≡ given.root
root_of_whole h s e n known node q given first last gives =
    whole_equal known node q given (sym (open-whole h s e n known node q first last) ∙ gives)

-- a hash that isn't known isn't read
pub open_unknown : (h : HashFunction) (s e n : ℕ) (a b : Hash) (q : List Hash)
    → open_from_root h s e n false a q ≡ open_from_root h s e n false b q
unfolding open_from_root
open_unknown h s e n a b [] = refl
open_unknown h s e n a b (z ∷ q) =
    let k = split_of n in
    let left = open_unknown h s e k a b q in
    let right = open_unknown h (s - k) (e - k) (n - k) a b q in
    let over = open_unknown h 0 (e - k) (n - k) a b q in
    cc

pub inputs_unknown : (h : HashFunction) (s e n : ℕ) (a b : Hash) (q : List Hash)
    → open_inputs_from_root h s e n false a q ≡ open_inputs_from_root h s e n false b q
unfolding open_inputs_from_root
inputs_unknown h s e n a b [] = refl
inputs_unknown h s e n a b (z ∷ q) =
    let k = split_of n in
    let left_opens = open_unknown h s e k a b q in
    let right_opens = open_unknown h (s - k) (e - k) (n - k) a b q in
    let over_opens = open_unknown h 0 (e - k) (n - k) a b q in
    let left = inputs_unknown h s e k a b q in
    let right = inputs_unknown h (s - k) (e - k) (n - k) a b q in
    let over = inputs_unknown h 0 (e - k) (n - k) a b q in
    cc

-- One level of an opening, whose part gave `below`: the strings for the pairs at the list's root
-- and those of the part are among its strings.
pub record IsStep (h : HashFunction) (from to size : ℕ) (still : Bool) (node : Hash)
    (q : List Hash) (f : Opened → Opened) (top : Option Opened → List Text) (given : Opened)
    (texts : List Text) : Type 0 where
  pub below : Opened
  pub gives : open_from_root h from to size still node q ≡ Some below
  pub is : f below ≡ given
  pub tops : (t : Text) → Contains (top (Some below)) t → Contains texts t
  pub rest : (t : Text) → Contains (open_inputs_from_root h from to size still node q) t
      → Contains texts t

step_of : (h : HashFunction) (from to size : ℕ) (still : Bool) (node : Hash) (q : List Hash)
    (f : Opened → Opened) (top : Option Opened → List Text) (given : Opened) (texts : List Text)
    (opening : Option Opened) → opening ≡ option_map f (open_from_root h from to size still node q)
    → opening ≡ Some given
    → texts ≡ top (open_from_root h from to size still node q)
    ++ open_inputs_from_root h from to size still node q
    → IsStep h from to size still node q f top given texts
step_of h from to size still node q f top given texts opening is gives texts_are =
    let part = opened_below f (open_from_root h from to size still node q) opening given is gives in
    let rest = open_inputs_from_root h from to size still node q in
    record {
      below = part.below;
      gives = part.gives;
      is = part.is;
      tops = λ t within. subst (λ all. Contains all t)
          (sym (texts_are ∙ ap (λ o. top o ++ rest) part.gives))
          (Contains-append_left (top (Some part.below)) rest t within);
      rest = λ t within. subst (λ all. Contains all t) (sym texts_are)
          (Contains-append_right (top (open_from_root h from to size still node q)) rest t within);
    }

pub step_left : (h : HashFunction) (s e n : ℕ) (known : Bool) (node z : Hash) (q : List Hash)
    (given : Opened) → 1 < n → e ≤ split_of n
    → open_from_root h s e n known node (z ∷ q) ≡ Some given
    → IsStep h s e (split_of n) known node q (root_left_of h z) (inputs_left z) given
    (open_inputs_from_root h s e n known node (z ∷ q))
step_left h s e n known node z q given more left gives =
    step_of h s e (split_of n) known node q (root_left_of h z) (inputs_left z) given
    (open_inputs_from_root h s e n known node (z ∷ q)) (open_from_root h s e n known node (z ∷ q))
    (open-left h s e n (split_of n) known node z q more refl left) gives
    (open_inputs_left h s e n (split_of n) known node z q more refl left)

pub step_right : (h : HashFunction) (s e n : ℕ) (known : Bool) (node z : Hash) (q : List Hash)
    (given : Opened) → 1 < n → split_of n ≤ s → s < e → e ≤ n
    → open_from_root h s e n known node (z ∷ q) ≡ Some given
    → IsStep h (s - split_of n) (e - split_of n) (n - split_of n) known node q (root_right_of h z)
    (inputs_right z) given (open_inputs_from_root h s e n known node (z ∷ q))
step_right h s e n known node z q given more right order within gives =
    let bounds = split_bounds n in
    let first : s ≡ split_of n + (s - split_of n) = omega arith in
    let last : e ≡ split_of n + (e - split_of n) = omega arith in
    let size : n ≡ split_of n + (n - split_of n) = omega arith in
    let some : 0 < e - split_of n = omega arith in
    step_of h (s - split_of n) (e - split_of n) (n - split_of n) known node q (root_right_of h z)
    (inputs_right z) given (open_inputs_from_root h s e n known node (z ∷ q))
    (open_from_root h s e n known node (z ∷ q))
    (open-right h s e n (split_of n) (s - split_of n) (e - split_of n) (n - split_of n) known node
    z q more refl first last size some) gives
    (open_inputs_right h s e n (split_of n) (s - split_of n) (e - split_of n) (n - split_of n)
    known node z q more refl first last size some)

pub step_over : (h : HashFunction) (s e n : ℕ) (known : Bool) (node z : Hash) (q : List Hash)
    (given : Opened) → 1 < n → s ≡ 0 → split_of n < e → e < n
    → open_from_root h s e n known node (z ∷ q) ≡ Some given
    → IsStep h 0 (e - split_of n) (n - split_of n) false node q (both_right_of h z)
    (inputs_over z) given (open_inputs_from_root h s e n known node (z ∷ q))
step_over h s e n known node z q given more zeroth past part gives =
    let bounds = split_bounds n in
    let positive = bounds.positive in
    let before : s < split_of n = omega arith in
    let last : e ≡ split_of n + (e - split_of n) = omega arith in
    let size : n ≡ split_of n + (n - split_of n) = omega arith in
    let some : 0 < e - split_of n = omega arith in
    step_of h 0 (e - split_of n) (n - split_of n) false node q (both_right_of h z)
    (inputs_over z) given (open_inputs_from_root h s e n known node (z ∷ q))
    (open_from_root h s e n known node (z ∷ q))
    (open-over h s e n (split_of n) (e - split_of n) (n - split_of n) known node
    z q more refl zeroth last size some part) gives
    (open_inputs_over h s e n (split_of n) (e - split_of n) (n - split_of n)
    known node z q more refl before last size some part)

-- the two strings at the root of a list whose subtree goes beyond the split
pub over_root_in : (z : Hash) (o : Opened)
    → Contains (inputs_over z (Some o)) (pair_input z o.root)
over_root_in z o = first_in (pair_input z o.root) (pair_input z o.subtree ∷ [])

pub over_subtree_in : (z : Hash) (o : Opened)
    → Contains (inputs_over z (Some o)) (pair_input z o.subtree)
over_subtree_in z o =
    later_in (pair_input z o.root) (pair_input z o.subtree ∷ []) (pair_input z o.subtree)
    (first_in (pair_input z o.subtree) [])

-- a subtree that goes beyond the split, and gives anything, starts at 0 and is not the whole
pub begins_first : (h : HashFunction) (s e n : ℕ) (known : Bool) (node z : Hash) (q : List Hash)
    (given : Opened) → 1 < n → s < split_of n → split_of n < e
    → open_from_root h s e n known node (z ∷ q) ≡ Some given → s ≡ 0
begins_first h s e n known node z q given more before past gives =
    ⊎_elim
    (λ (later : 0 < s).
    let none : None ≡ Some given =
    sym (open-none h s e n (split_of n) known node z q more refl later before past) ∙ gives in
    absurd cc)
    (λ (first : s ≤ 0). omega arith)
    (cases_lt 0 s)

pub not_whole : (s e n : ℕ) → s ≡ 0 → (0 < s) ⊎ (e < n) → e < n
not_whole s e n first inner =
    ⊎_elim
    (λ (later : 0 < s). let none : ⊥ = omega arith in absurd none)
    (λ (part : e < n). part)
    inner

-- no hash is left only where the subtree is the whole list
pub whole_of_none : (h : HashFunction) (s e n : ℕ) (known : Bool) (node : Hash) (given : Opened)
    → s < e → e ≤ n → open_from_root h s e n known node [] ≡ Some given → (s ≡ 0) × (e ≡ n)
whole_of_none h s e n known node given order within gives =
    ⊎_elim
    (λ (later : 0 < s). none (inl later))
    (λ (first : s ≤ 0).
    ⊎_elim
    (λ (before : e < n). none (inr before))
    (λ (last : n ≤ e). (omega arith, omega arith))
    (cases_lt e n))
    (cases_lt 0 s)
  where
    none : (0 < s) ⊎ (e < n) → (s ≡ 0) × (e ≡ n)
    none other =
        let no : None ≡ Some given = sym (open-short h s e n known node other) ∙ gives in absurd cc

-- What is opened of hashes of 32 bytes, where the subtree's own hash isn't known.

pub record AreOpened (o : Opened) : Type 0 where
  pub subtree : length o.subtree ≡ 32
  pub root : length o.root ≡ 32

opened_again : (a b : Opened) → a ≡ b → AreOpened a → AreOpened b
opened_again a b same are = subst AreOpened same are

unknown_whole : (node : Hash) (q : List Hash) (o : Opened) → AreFullHashes q
    → open_whole false node q ≡ Some o → AreOpened o
unknown_whole node [] o whole gives = absurd cc
unknown_whole node (x ∷ []) o whole gives =
    opened_again (opened_at x x) o (same_Some (opened_at x x) o gives)
    (record { subtree = whole.0; root = whole.0 })
unknown_whole node (x ∷ y ∷ rest) o whole gives = absurd cc

pub unknown_sized : (q : List Hash) (h : HashFunction) → IsSized h → (s e n : ℕ) (node : Hash)
    (o : Opened) → s < e → e ≤ n → AreFullHashes q → open_from_root h s e n false node q ≡ Some o
    → AreOpened o
unknown_sized [] h sized s e n node o order within whole gives =
    let is = whole_of_none h s e n false node o order within gives in
    unknown_whole node [] o whole (sym (open-whole h s e n false node [] is.0 is.1) ∙ gives)
unknown_sized (z ∷ q) h sized s e n node o order within whole gives =
    cases_place s e n order within
    (λ first last.
    unknown_whole node (z ∷ q) o whole
    (sym (open-whole h s e n false node (z ∷ q) first last) ∙ gives))
    (λ more left.
    let step = step_left h s e n false node z q o more left gives in
    let below = unknown_sized q h sized s e (split_of n) node step.below order left whole.1
    step.gives in
    opened_again (root_left_of h z step.below) o step.is
    (record { subtree = below.subtree; root = sized _ }))
    (λ more right.
    let step = step_right h s e n false node z q o more right order within gives in
    let below = unknown_sized q h sized (s - split_of n) (e - split_of n) (n - split_of n) node
    step.below (omega arith) (omega arith) whole.1 step.gives in
    opened_again (root_right_of h z step.below) o step.is
    (record { subtree = below.subtree; root = sized _ }))
    (λ more inner before past.
    let zeroth = begins_first h s e n false node z q o more before past gives in
    let step = step_over h s e n false node z q o more zeroth past (not_whole s e n zeroth inner)
    gives in
    opened_again (both_right_of h z step.below) o step.is
    (record { subtree = sized _; root = sized _ }))
