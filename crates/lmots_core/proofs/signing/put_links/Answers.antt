use Rattle.std.proofs.Common.{◌≡◌, le_antisymm}
use Rattle.lmots_core.specs.Parameters.{chains}
use Rattle.lmots_core.proofs.signing.put_links.Goals as goal

pub returns-clause-bytes : goal.returns-clause-bytes
returns-clause-bytes c =
    let all : c.loop-i.i ≡ chains c.args.ots =
    rw (← c.chains-i-end.ensures) (le_antisymm c.loop-i.auto.i-end c.loop-i-test.false) in
    rw (← all) c.loop-i.invariant.0
