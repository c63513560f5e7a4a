use Rattle.std.proofs.lemmas.Result.{err_from_is_err_and}
use Rattle.mtc_command.specs.Answers.{stop_ending}
use Rattle.mtc_cosigner.specs.Works.{cosigner_bytes_say}
use Rattle.mtc_mirror.specs.Works.{mirror_outcome}
use Rattle.mtc_command.specs.Answers.{tiles_name}
use Rattle.mtc_mirror_steps.specs.StepOutcomes.{mirror_request_says, mirror_step_outcome}
use Rattle.mtc_mirror_steps.proofs.Unopened.{absent_serves, nothing_serves}
use Rattle.mtc_mirror_steps.proofs.opening.on_both.Goals as goal

pub returns-in_err-name : goal.returns-in_err-name
returns-in_err-name g c =
    let h = g.H.TreeHash.hash in
    let name = c.args.cosigner_name.now in
    let second = c.args.mirror_name.now in
    let room = c.args.room.now in
    let refused = err_from_is_err_and c.from_residual.result c.from_residual.ensures.1 in
    rw (refused.1, refused.2) (nothing_serves g.R.Room g.R.Dsk.Disk g.met.R.Dsk.Disk.only_now
    g.met.R.Room.modelled_file g.met.R.Room.one_device h name second
    (mirror_step_outcome h name second (mirror_request_says h c.args.request)
    (g.R.Room.file room)) room)

pub returns-in_err-pool : goal.returns-in_err-pool
returns-in_err-pool g c =
    let h = g.H.TreeHash.hash in
    let name = c.args.cosigner_name.now in
    let second = c.args.mirror_name.now in
    let room = c.args.room.now in
    let refused = err_from_is_err_and c.from_residual-in_err-pool.result
    c.from_residual-in_err-pool.ensures.1 in
    rw (refused.1, refused.2) (nothing_serves g.R.Room g.R.Dsk.Disk g.met.R.Dsk.Disk.only_now
    g.met.R.Room.modelled_file g.met.R.Room.one_device h name second
    (mirror_step_outcome h name second (mirror_request_says h c.args.request)
    (g.R.Room.file room)) room)

pub returns-in_err-disk : goal.returns-in_err-disk
returns-in_err-disk g c =
    let h = g.H.TreeHash.hash in
    let name = c.args.cosigner_name.now in
    let second = c.args.mirror_name.now in
    let room = c.args.room.now in
    let file = g.R.Room.file room in
    let says = mirror_request_says h c.args.request in
    let refused = err_from_is_err_and c.from_residual-in_err-disk.result
    c.from_residual-in_err-disk.ensures.1 in
    rw (refused.1, refused.2) (absent_serves g.R.Room g.R.Dsk.Disk g.met.R.Dsk.Disk.only_now
    g.met.R.Room.modelled_file g.met.R.Room.one_device h name second
    (cosigner_bytes_say h name (λ cosigner. mirror_outcome h second (file second)
    (file (tiles_name second)) (says cosigner))) room c.open_file.new.room
    (stop_ending c.in_err-disk.field-0.0) c.in_err-disk.ensures.stops
    c.in_err-disk.ensures.refused)

pub returns : goal.returns
returns g c = c.on_device-disk.ensures.serves c.args.room.now c.close.new.room
    c.in_ok-disk.ensures.opened c.close.ensures
