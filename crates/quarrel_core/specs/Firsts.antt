-- The index of the first Sign of each interval.
use Rattle.std.specs.Prelude.{ℕ, ◌&&◌, ◌==◌, Bool, false, Option}
use Rattle.std.specs.BTreeMap.{BTreeMap, get}
use Rattle.std.specs.Ordering.{nat_cmp, ordering_then}
use Rattle.std.specs.declared.cmp.Ordering.{Ordering}
use Rattle.cosigner_core.specs.declared.step.Step.{Step}
use Rattle.cosigner_core.specs.declared.step.Step.TheVariants.{Advance, Child, Sign}

-- The order of intervals.
abbrev pub interval_cmp : ℕ × ℕ → ℕ × ℕ → Ordering
interval_cmp a b = ordering_then (nat_cmp a.0 b.0) (nat_cmp a.1 b.1)

-- What a map has at an interval.
abbrev pub first_sign_in : BTreeMap (ℕ × ℕ) ℕ → ℕ × ℕ → Option ℕ
first_sign_in firsts interval = get interval_cmp firsts interval

-- The step is a Sign of this interval.
abbrev pub signs : ℕ × ℕ → Step → Bool
signs interval (Sign index start end hash proof) = (start == interval.0) && (end == interval.1)
signs interval (Advance size root proof) = false
signs interval (Child child low) = false
