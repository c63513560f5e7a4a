-- What a proof gives of a list, by what it gives of the part that its interval ends in.
use Rattle.std.proofs.Common.{◌≡◌, ℕ, ◌+◌, ◌-◌, ◌<◌, ◌≤◌, ◌⊎◌, ⊎_elim, inr, Bool, false, List, []}
use Rattle.std.proofs.Common.{◌∷◌, ◌++◌, sym, ◌∙◌, ap, refl, arith}
use Rattle.std.specs.Prelude.{Option, option_map}
use Rattle.std.proofs.lemmas.Bool.{cond-true, cond-false, eq-eqb, ne_eqb, le-leb, lt-leb, cases_lt}
use Rattle.byte_formats.specs.Types.{Hash, HashFunction}
use Rattle.tree_core.proofs.Powers.{split_bounds}
use Rattle.tree_core.specs.Split.{split_of}
use Rattle.tree_proofs.proofs.Opens.{open_of-left, open_of-none, open_of-over, open_of-right}
use Rattle.tree_proofs.proofs.Opens.{part_more}
use Rattle.tree_proofs.specs.declared.outcome.Opened.{Opened}
use Rattle.tree_proofs.specs.Open.{both_right_of, open_of, root_left_of, root_right_of}
use Rattle.collide.specs.After.{IsFollowing}
use Rattle.quarrel_core.proofs.Openings.{not_whole}
use Rattle.quarrel_core.proofs.Parted.{prefix_split}
use Rattle.quarrel_core.specs.OpenedParts.{opened_above}

-- the interval ends in the left part
pub above_left : (h : HashFunction) (s e n k : ℕ) (known : Bool) (node z : Hash)
    (proof rest : List Hash) (given below : Option Opened) → k ≡ split_of n
    → proof ≡ rest ++ z ∷ [] → 1 < n → e ≤ k → below ≡ open_of h s e k known node rest
    → given ≡ opened_above h k s e z below → given ≡ open_of h s e n known node proof
above_left h s e n k known node z proof rest given below k_is is more left below_is given_is =
    given_is
    ∙ cond-true _ _ _ (le-leb e k left)
    ∙ ap (option_map (root_left_of h z)) below_is
    ∙ sym (ap (open_of h s e n known node) is
    ∙ open_of-left h s e n k known node z rest more (sym k_is) left)

-- the interval ends in the right part
pub above_after : (h : HashFunction) (s e n k from to : ℕ) (known still : Bool) (node z : Hash)
    (proof rest : List Hash) (given below : Option Opened) → k ≡ split_of n
    → proof ≡ rest ++ z ∷ [] → s < e → e ≤ n → (0 < s) ⊎ (e < n) → k < e
    → IsFollowing k s e known from to still
    → below ≡ open_of h from to (n - k) still node rest
    → given ≡ opened_above h k s e z below → given ≡ open_of h s e n known node proof
above_after h s e n k from to known still node z proof rest given below k_is is order within inner
    past following below_is given_is =
    let more = part_more s e n order within inner in
    let last = following.last in
    let size : n ≡ k + (n - k) = omega arith in
    given_is
    ∙ cond-false _ _ _ (lt-leb e k past)
    ∙ ⊎_elim
    (λ (before : s < k).
    let over = following.over before in
    let moved : below ≡ open_of h 0 to (n - k) false node rest =
    below_is
    ∙ ap (λ (i : ℕ). open_of h i to (n - k) still node rest) over.0
    ∙ ap (λ (b : Bool). open_of h 0 to (n - k) b node rest) over.1 in
    cond-false _ _ _ (lt-leb k s before)
    ∙ ⊎_elim
    (λ (later : 0 < s).
    cond-false _ _ _ (ne_eqb s 0 (λ first. omega arith))
    ∙ sym (ap (open_of h s e n known node) is
    ∙ open_of-none h s e n k known node z rest more (sym k_is) later before past))
    (λ (first : s ≤ 0).
    let zeroth : s ≡ 0 = omega arith in
    cond-true _ _ _ (eq-eqb s 0 zeroth)
    ∙ ap (option_map (both_right_of h z)) moved
    ∙ sym (ap (open_of h s e n known node) is
    ∙ open_of-over h s e n k to (n - k) known node z rest more (sym k_is) zeroth last size
    (omega arith) (not_whole s e n zeroth inner)))
    (cases_lt 0 s))
    (λ (right : k ≤ s).
    let there = following.following right in
    let moved : below ≡ open_of h from to (n - k) known node rest =
    below_is ∙ ap (λ (b : Bool). open_of h from to (n - k) b node rest) there.1 in
    cond-true _ _ _ (le-leb k s right)
    ∙ ap (option_map (root_right_of h z)) moved
    ∙ sym (ap (open_of h s e n known node) is
    ∙ open_of-right h s e n k from to (n - k) known node z rest more (sym k_is) there.0 last size
    (omega arith)))
    (cases_lt s k)

-- the first entries of a list, more of them than lie left of the split
pub above_first : (h : HashFunction) (n m k : ℕ) (still : Bool) (prefix z : Hash)
    (proof rest : List Hash) (given below : Option Opened) → k ≡ split_of m
    → proof ≡ rest ++ z ∷ [] → n < m → k < n
    → below ≡ open_of h 0 (n - k) (m - k) false prefix rest
    → given ≡ opened_above h k 0 n z below → given ≡ open_of h 0 n m still prefix proof
above_first h n m k still prefix z proof rest given below k_is is less past below_is given_is =
    let some = (split_bounds m).positive in
    let begun : 0 < n = omega arith in
    let within : n ≤ m = omega arith in
    above_after h 0 n m k 0 (n - k) still false prefix z proof rest given below k_is is begun
    within (inr less) past
    (record {
      last = omega arith;
      following = λ none. let no : ⊥ = omega arith in absurd no;
      over = λ before. (refl, refl);
    })
    below_is given_is

-- An interval of n entries, of a list that is split before the last of these: they are split at the
-- same place.

-- it ends in the left part
pub above_lower : (h : HashFunction) (s e n m k : ℕ) (known : Bool) (node z : Hash)
    (proof rest : List Hash) (given below : Option Opened) → k ≡ split_of m
    → proof ≡ rest ++ z ∷ [] → n < m → k < n → e ≤ k → below ≡ open_of h s e k known node rest
    → given ≡ opened_above h k s e z below → given ≡ open_of h s e n known node proof
above_lower h s e n m k known node z proof rest given below k_is is less past left below_is
    given_is =
    let some = (split_bounds m).positive in
    let over : split_of m < n = omega arith in
    above_left h s e n k known node z proof rest given below
    (k_is ∙ sym (prefix_split n m (omega arith) over)) is (omega arith) left below_is given_is

-- it ends in the right part
pub above_upper : (h : HashFunction) (s e n m k from to : ℕ) (known still : Bool) (node z : Hash)
    (proof rest : List Hash) (given below : Option Opened) → k ≡ split_of m
    → proof ≡ rest ++ z ∷ [] → n < m → k < n → s < e → e ≤ n → (0 < s) ⊎ (e < n) → k < e
    → IsFollowing k s e known from to still
    → below ≡ open_of h from to (n - k) still node rest
    → given ≡ opened_above h k s e z below → given ≡ open_of h s e n known node proof
above_upper h s e n m k from to known still node z proof rest given below k_is is less over order
    within inner past following below_is given_is =
    let above : split_of m < n = omega arith in
    above_after h s e n k from to known still node z proof rest given below
    (k_is ∙ sym (prefix_split n m (omega arith) above)) is order within inner past following
    below_is
    given_is
