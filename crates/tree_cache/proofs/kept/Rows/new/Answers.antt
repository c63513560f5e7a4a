use Rattle.std.proofs.Common.{refl}
use Rattle.tree_cache.proofs.Grows.{sound-none}
use Rattle.tree_cache.proofs.kept.Rows.new.Goals as goal

pub invariant_of-result : goal.invariant_of-result
invariant_of-result c =
    sound-none (record { first = c.new.result; above = c.new-2.result.items; capacity = 0 })
    (record { kept = c.new.ensures.kept; gone = c.new.ensures.gone }) c.new-2.ensures.items refl
