use Rattle.std.proofs.Common.{◌≡◌, le_antisymm}
use Rattle.lmots_core.specs.Parameters.{chains}
use Rattle.lmots_core.specs.Ots.{key_of_ends}
use Rattle.lmots_core.proofs.checking.key_of_links.Goals as goal

pub returns : goal.returns
unfolding key_of_ends
returns c =
    let all : c.loop-i.i ≡ chains c.args.ots =
    rw (← c.chains-i-end.ensures) (le_antisymm c.loop-i.auto.i-end c.loop-i-test.false) in
    rw (← all) (c.finalize.ensures _ c.loop-i.invariant)
