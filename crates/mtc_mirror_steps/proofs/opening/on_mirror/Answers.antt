use Rattle.std.proofs.Common.{subst, sym}
use Rattle.cosigner_core.specs.Keyless.{keyless_owner}
use Rattle.mtc_command.specs.Answers.{ending_of, stop_ending}
use Rattle.mtc_mirror_steps.specs.StepOutcomes.{mirror_request_says}
use Rattle.mtc_mirror_steps.specs.StepWorks.{ServesAround}
use Rattle.mtc_mirror_steps.proofs.Requested.{request_reads}
use Rattle.mtc_mirror_steps.proofs.Together.{stepped_serves}
use Rattle.mtc_mirror_steps.proofs.Unopened.{mirror_unopened}
use Rattle.mtc_mirror_steps.proofs.opening.on_mirror.Goals as goal

pub returns-in-Ok-clause-serves : goal.returns-in-Ok-clause-serves
returns-in-Ok-clause-serves g c = λ disk is old new opened closed.
    let h = g.H.TreeHash.hash in
    stepped_serves g.R.Room g.R.Dsk.Disk g.met.R.Dsk.Disk.reads_crash_state
    g.met.R.Room.modelled_file g.met.R.Room.one_device c.args.cosigner_name.now
    c.args.mirror_name.now (mirror_request_says h c.args.request)
    (request_reads h c.args.request) old c.args.room.now c.open_mirror.new.room
    c.close_mirror.new.room new disk (keyless_owner c.args.keyless) c.carry_out-disk.result.0
    c.in-Ok.mirror c.carry_out-disk.new.mirror (ending_of c.carry_out-disk.result.1) opened is
    c.in-Ok.ensures.opened c.carry_out-disk.ensures c.close_mirror.ensures closed c.requires.apart

pub returns-in-Err-clause-serves : goal.returns-in-Err-clause-serves
returns-in-Err-clause-serves g c = λ disk is.
    let h = g.H.TreeHash.hash in
    let name = c.args.cosigner_name.now in
    let second = c.args.mirror_name.now in
    let says = mirror_request_says h c.args.request in
    let it = keyless_owner c.args.keyless in
    let ending = stop_ending c.in-Err.stop in
    subst (λ d. ServesAround h g.R.Room g.R.Dsk.Disk name second says c.args.room.now
    c.open_mirror.new.room disk d ending) (sym c.into_disk.ensures)
    (mirror_unopened g.R.Room g.R.Dsk.Disk g.met.R.Dsk.Disk.only_now g.met.R.Room.modelled_file
    g.met.R.Room.one_device h name second says c.requires.apart c.args.room.now
    c.open_mirror.new.room disk it ending is c.in-Err.ensures.stops)
