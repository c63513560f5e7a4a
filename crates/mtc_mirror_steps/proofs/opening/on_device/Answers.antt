use Rattle.std.proofs.Common.{subst, sym}
use Rattle.mtc_command.specs.Answers.{Ending}
use Rattle.mtc_mirror_steps.specs.StepOutcomes.{mirror_request_says}
use Rattle.mtc_mirror_steps.specs.StepWorks.{ServesAround}
use Rattle.mtc_mirror_steps.proofs.Unopened.{cosigner_refused}
use Rattle.mtc_mirror_steps.proofs.opening.on_device.Goals as goal

pub returns-in-Ok-clause-serves : goal.returns-in-Ok-clause-serves
returns-in-Ok-clause-serves g c =
    c.on_mirror.ensures.serves c.args.disk c.in-Ok.ensures.opened

pub returns-in-Err-clause-serves : goal.returns-in-Err-clause-serves
returns-in-Err-clause-serves g c =
    let h = g.H.TreeHash.hash in
    let name = c.args.cosigner_name.now in
    let second = c.args.mirror_name.now in
    let says = mirror_request_says h c.args.request in
    let disk = c.in-Err.field-0.disk in
    subst (λ (e : Ending). ServesAround h g.R.Room g.R.Dsk.Disk name second says c.args.room.now
    c.args.room.now c.args.disk disk e) (sym c.refuse_cosigner.ensures)
    (cosigner_refused g.R.Room g.R.Dsk.Disk g.met.R.Dsk.Disk.only_now g.met.R.Room.modelled_file
    g.met.R.Room.one_device h name second says c.requires.apart c.args.room.now c.args.disk disk
    c.in-Err.field-0.why c.in-Err.ensures.refused)
