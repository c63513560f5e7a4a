use Rattle.std.proofs.Common.{◌≡◌, length, arith}
use Rattle.lmots_core.specs.Ots.{chain_step}
use Rattle.lmots_core.proofs.Steps.{put_mid-step}
use Rattle.lmots_core.proofs.chains.Chain.step.Goals as goal

pub returns-clause-hash : goal.returns-clause-hash
unfolding chain_step
returns-clause-hash c =
    let size : length c.self.inside.bytes ≡ 55 = omega arith in
    let written = put_mid-step c.self.inside.bytes c.args.value.now c.args.j size c.told-value in
    rw (c.digest.ensures, c.copy_from_slice.ensures.after, written, c.self.view_is)
