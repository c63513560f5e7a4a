use Rattle.std.proofs.Common.{◌≡◌, take}
use Rattle.disk_core.proofs.memory.copies.copies.Given as goal

abbrev pub invariant-loop-change : goal.invariant-loop-change
invariant-loop-change l = l.kept.items ≡ take l.change-index l.changes
