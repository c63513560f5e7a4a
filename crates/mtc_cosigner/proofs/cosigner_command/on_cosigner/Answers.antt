use Rattle.std.proofs.Common.{[], ◌∷◌, inl, refl}
use Rattle.std.proofs.lemmas.Result.{err_from_is_err_and}
use Rattle.mtc_command.specs.Answers.{ending_of}
use Rattle.mtc_command.proofs.Works.{served}
use Rattle.mtc_command.proofs.Valid.{kept_valid, served_valid}
use Rattle.mtc_cosigner.specs.Works.{IsCosigner, cosigner_bytes_say, cosigner_outcome}
use Rattle.mtc_cosigner.specs.Works.{cosigner_says}
use Rattle.mtc_cosigner.proofs.cosigner_command.on_cosigner.Goals as goal

pub returns-clause-serves : goal.returns-clause-serves
returns-clause-serves g c =
    let name = c.args.journal.now in
    served g.R.Room g.R.Dsk.Disk name (name ∷ [])
    (cosigner_bytes_say g.H.TreeHash.hash name
    (cosigner_says g.H.TreeHash.hash c.args.work.now))
    c.args.room.now c.open_file.new.room c.close.new.room c.in_ok-disk.disk
    c.on_device-disk.result.0 (ending_of c.on_device-disk.result.1) c.in_ok-disk.ensures.opened
    c.on_device-disk.ensures.serves c.close.ensures (inl refl)

pub returns-in_err-disk-clause-serves : goal.returns-in_err-disk-clause-serves
returns-in_err-disk-clause-serves g c =
    let name = c.args.journal.now in
    let stopped = err_from_is_err_and c.from_residual.result c.from_residual.ensures.1 in
    rw (stopped.1, stopped.2) (c.in_err-disk.ensures.stops (name ∷ [])
    (cosigner_bytes_say g.H.TreeHash.hash name
    (cosigner_says g.H.TreeHash.hash c.args.work.now)) (inl refl))

pub returns-clause-valid : goal.returns-clause-valid
returns-clause-valid g c =
    let h = g.H.TreeHash.hash in
    let name = c.args.journal.now in
    served_valid g.R.Room g.R.Dsk.Disk (IsCosigner h) name
    (cosigner_bytes_say h name (cosigner_says h c.args.work.now)) c.args.room.now
    c.open_file.new.room
    c.close.new.room c.in_ok-disk.disk c.on_device-disk.result.0 c.in_ok-disk.ensures.opened
    c.on_device-disk.ensures.valid c.close.ensures

pub returns-in_err-disk-clause-valid : goal.returns-in_err-disk-clause-valid
returns-in_err-disk-clause-valid g c =
    let h = g.H.TreeHash.hash in
    let name = c.args.journal.now in
    kept_valid g.R.Room g.R.Dsk.Disk (IsCosigner h) (name ∷ [])
    (cosigner_outcome h name (g.R.Room.file c.args.room.now name)
    (cosigner_says h c.args.work.now))
    c.args.room.now c.open_file.new.room c.in_err-disk.ensures.refused g.met.R.Dsk.Disk.only_now
