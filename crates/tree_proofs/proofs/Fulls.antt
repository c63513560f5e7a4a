-- The largest full subtree that a subtree begins with.
use Rattle.std.proofs.Common.{◌≡◌, ℕ, ◌+◌, ◌*◌, ◌-◌, ◌/◌, ◌^◌, ◌<◌, ◌≤◌, ⊎_elim, true, List, length}
use Rattle.std.proofs.Common.{Some, None, sym, ◌∙◌, add-one, ap, subst, arith}
use Rattle.std.specs.Prelude.{IfSome, Option}
use Rattle.std.proofs.Math.Nat.{div-eq_of_lt-le, mul_assoc, pow-succ'}
use Rattle.std.proofs.Math.Pow.{pow_mono}
use Rattle.std.proofs.lemmas.Bool.{cases_lt}
use Rattle.std.proofs.lemmas.Nat.{pow_pos}
use Rattle.tree_core.proofs.Powers.{split_unique}
use Rattle.tree_core.specs.Path.{part_of}
use Rattle.tree_core.specs.Split.{split_of}
use Rattle.tree_core.specs.Subtree.{is_subtree}
use Rattle.tree_core.specs.Tree.{pair_hash, root_of}
use Rattle.tree_proofs.proofs.Aligned.{IsAligned, IsAligned-from, IsAligned-halves, IsAligned-is}
use Rattle.tree_proofs.proofs.Aligned.{power_parts}
use Rattle.tree_proofs.proofs.Parts.{part-root}
use Rattle.tree_proofs.specs.Full.{BeginsFull}
use Rattle.tree_proofs.specs.Modelled.{IsRootOf}

-- a subtree has entries
pub some_in : (start end : ℕ) → is_subtree start end ≡ true → start < end
some_in start end is = let aligned = IsAligned-from start end is in aligned.inhabited

-- a level of which a list of 64 bits has a full subtree
pub level_fits : (place level n : ℕ) → (place + 1) * 2 ^ level ≤ n → n < 2 ^ 64 → level < 64
level_fits place level n within fits =
    ⊎_elim
    (λ (less : level < 64). less)
    (λ (large : 64 ≤ level).
    let up : 2 ^ 64 ≤ 2 ^ level = pow_mono {i = 64} {j = level} large in
    let none : ⊥ = omega arith in absurd none)
    (cases_lt level 64)

exponent_within : (e f : ℕ) → 2 ^ e ≤ 2 ^ f → e ≤ f
exponent_within e f le =
    ⊎_elim
    (λ (less : f < e).
    let up : 2 ^ (f + 1) ≤ 2 ^ e = pow_mono {i = f + 1} {j = e} (omega arith) in
    let double : 2 ^ (f + 1) ≡ 2 * 2 ^ f = ap (λ k. 2 ^ k) (add-one f) ∙ pow-succ' 2 f in
    let positive = pow_pos f in
    let none : ⊥ = omega arith in absurd none)
    (λ (le : e ≤ f). le)
    (cases_lt f e)

pub begins_full : (start end level middle : ℕ) → is_subtree start end ≡ true → level < 64
    → 2 ^ level ≤ end - start → end - start < 2 * 2 ^ level → middle ≡ start + 2 ^ level
    → BeginsFull start end level middle
begins_full start end level middle is fits low high middle_is =
    let aligned = IsAligned-from start end is in
    let some = aligned.inhabited in
    let within = aligned.within in
    let begins = aligned.begins in
    let positive = pow_pos level in
    let exponent : level ≤ aligned.exponent =
    exponent_within level aligned.exponent (omega arith) in
    let parts : 2 ^ aligned.exponent ≡ 2 ^ (aligned.exponent - level) * 2 ^ level =
    power_parts level aligned.exponent exponent in
    let here : start ≡ (aligned.multiple * 2 ^ (aligned.exponent - level)) * 2 ^ level =
    begins ∙ ap (λ p. aligned.multiple * p) parts
    ∙ sym (mul_assoc aligned.multiple (2 ^ (aligned.exponent - level)) (2 ^ level)) in
    let place : start / 2 ^ level ≡ aligned.multiple * 2 ^ (aligned.exponent - level) =
    div-eq_of_lt-le {k = aligned.multiple * 2 ^ (aligned.exponent - level)} (2 ^ level) {m = start}
    (omega arith) (omega arith) in
    let back : start / 2 ^ level * 2 ^ level ≡ start = ap (λ p. p * 2 ^ level) place ∙ sym here in
    let split : middle < end → middle ≡ start + split_of (end - start) =
    λ more. middle_is ∙ ap (λ k. start + k)
    (sym (split_unique (end - start) level (omega arith) (omega arith))) in
    record {
      low = fits;
      inside = omega arith;
      within = omega arith;
      begins = back;
      ends = omega arith;
      split = split;
      rest = λ more.
          let halves = IsAligned-halves start end aligned (omega arith) in
          IsAligned-is middle end (subst (λ m. IsAligned m end) (sym (split more)) halves.right);
    }

-- the hash of the full part is that of the subtree, where there is no rest
pub root_at : (h : List ℕ → List ℕ) (modelled : Option (List (List ℕ))) (a b start end : ℕ)
    (node : List ℕ)
    → a ≡ start → b ≡ end → IsRootOf h modelled a b node → IsRootOf h modelled start end node
root_at h modelled a b start end node a_is b_is is =
    subst (λ e. IsRootOf h modelled start e node) b_is
    (subst (λ s. IsRootOf h modelled s b node) a_is is)

pub joined : (h : List ℕ → List ℕ) (modelled seen : Option (List (List ℕ))) (start middle end : ℕ)
    (left right node : List ℕ) → start < middle → middle < end
    → middle ≡ start + split_of (end - start)
    → IfSome modelled (λ xs. end ≤ length xs) → seen ≡ modelled
    → IsRootOf h modelled start middle left → IsRootOf h seen middle end right
    → node ≡ pair_hash h left right
    → IsRootOf h modelled start end node
joined h modelled seen start middle end left right node some more is within seen_is left_is
    right_is node_is =
    same modelled within left_is (subst (λ t. IsRootOf h t middle end right) seen_is right_is)
  where
    same : (modelled : Option (List (List ℕ))) → IfSome modelled (λ xs. end ≤ length xs)
        → IsRootOf h modelled start middle left → IsRootOf h modelled middle end right
        → IsRootOf h modelled start end node
    same None within left_is right_is = tt
    same (Some xs) within left_is right_is =
        node_is
        ∙ ap (λ l. pair_hash h l right) left_is
        ∙ ap (pair_hash h (root_of h (part_of xs start middle))) right_is
        ∙ sym (part-root h xs start middle end within (omega arith) is)

-- what is within the number of leaves is within the list, if the model knows it
pub modelled_within : (modelled : Option (List (List ℕ))) (count end : ℕ)
    → IfSome modelled (λ xs. count ≡ length xs)
    → end ≤ count → IfSome modelled (λ xs. end ≤ length xs)
modelled_within None count end counted within = tt
modelled_within (Some xs) count end counted within = omega arith
