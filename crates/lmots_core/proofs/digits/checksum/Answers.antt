use Rattle.std.proofs.Common.{◌≡◌, le_antisymm, ◌/◌}
use Rattle.lmots_core.specs.Parameters.{width}
use Rattle.lmots_core.proofs.Widths.{checksum_done}
use Rattle.lmots_core.proofs.digits.checksum.Goals as goal

pub returns : goal.returns
returns c =
    let all : c.loop-i.i ≡ 256 / width c.args.ots =
    rw (← c.hash_digits-i-end.ensures) (le_antisymm c.loop-i.auto.i-end c.loop-i-test.false) in
    rw c.shift.ensures (checksum_done _ _ _ _ all c.loop-i.invariant.0 c.loop-i.invariant.1)
