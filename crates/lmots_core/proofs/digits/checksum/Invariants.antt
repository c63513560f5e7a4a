use Rattle.std.proofs.Common.{◌≡◌, ◌≤◌, ◌*◌}
use Rattle.lmots_core.specs.Parameters.{width, steps}
use Rattle.lmots_core.specs.Ots.{checksum_sum}
use Rattle.lmots_core.proofs.digits.checksum.Given as goal

abbrev pub invariant-loop-i : goal.invariant-loop-i
invariant-loop-i l = (l.sum ≡ checksum_sum l.hash (width l.ots) l.i) × (l.sum ≤ l.i * steps l.ots)
