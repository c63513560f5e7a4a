use Rattle.cosigner_core.specs.Keyless.{keyless_owner}
use Rattle.cosigner_core.specs.Words.{cosigner_disk, cosigner_owner}
use Rattle.mtc_command.specs.Answers.{ending_of}
use Rattle.mtc_cosigner.specs.Works.{cosigner_says}
use Rattle.mtc_cosigner.proofs.Keyed.{with_key}
use Rattle.mtc_cosigner.proofs.work.carry_out.Goals as goal

pub returns-in-Advance-clause-works : goal.returns-in-Advance-clause-works
unfolding Rattle.mtc_cosigner.specs.Works.cosigner_says
returns-in-Advance-clause-works g c =
    rw (c.in-Advance.is, c.into_disk.ensures) c.advance_on-answer.ensures.works

pub returns-in-Advance-clause-valid : goal.returns-in-Advance-clause-valid
unfolding Rattle.mtc_cosigner.specs.Works.cosigner_says
returns-in-Advance-clause-valid g c =
    rw (c.in-Advance.is, c.into_disk.ensures) c.advance_on-answer.ensures.valid

pub returns-in-Child-clause-works : goal.returns-in-Child-clause-works
unfolding Rattle.mtc_cosigner.specs.Works.cosigner_says
returns-in-Child-clause-works g c =
    rw (c.in-Child.is, c.into_disk-in-Child.ensures) c.child_on-answer.ensures.works

pub returns-in-Child-clause-valid : goal.returns-in-Child-clause-valid
unfolding Rattle.mtc_cosigner.specs.Works.cosigner_says
returns-in-Child-clause-valid g c =
    rw (c.in-Child.is, c.into_disk-in-Child.ensures) c.child_on-answer.ensures.valid

pub returns-in-Ok-clause-works : goal.returns-in-Ok-clause-works
unfolding Rattle.mtc_cosigner.specs.Works.cosigner_says
returns-in-Ok-clause-works g c =
    with_key g.D.Disk c.args.journal.now (cosigner_says g.H.TreeHash.hash c.args.work.now)
    (keyless_owner c.args.keyless) (cosigner_owner c.in-Ok.cosigner) c.in-Ok.ensures.ok
    (cosigner_disk c.cosign_on-answer.new.cosigner) c.into_disk-in-Ok.result
    c.into_disk-in-Ok.ensures (ending_of c.cosign_on-answer.result)
    (rw c.in-Cosign.is c.cosign_on-answer.ensures.works)
