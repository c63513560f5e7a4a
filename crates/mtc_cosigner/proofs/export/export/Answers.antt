use Rattle.std.proofs.Common.{[], ◌∷◌, inl, refl}
use Rattle.std.proofs.lemmas.Result.{err_from_is_err_and}
use Rattle.mtc_command.proofs.Works.{served}
use Rattle.mtc_command.proofs.Valid.{kept_valid, served_valid}
use Rattle.mtc_lines.proofs.Outputs.{stopped_before, streams_so}
use Rattle.mtc_cosigner.specs.CosignerOutcomes.{export_says}
use Rattle.mtc_cosigner.specs.Works.{IsCosigner, cosigner_bytes_say, cosigner_outcome}
use Rattle.mtc_cosigner.proofs.export.export.Goals as goal

pub returns-clause-streams : goal.returns-clause-streams
unfolding Rattle.mtc_cosigner.specs.Works.export_outcome
returns-clause-streams g c =
    let name = c.args.journal.now in
    streams_so g.O.Sink c.args.out.now c.export_device-disk.new.out _ _ (λ ending worked. served
    g.R.Room g.R.Dsk.Disk name (name ∷ [])
    (cosigner_bytes_say g.H.TreeHash.hash name export_says)
    c.args.room.now c.open_file.new.room c.close.new.room c.in_ok-disk.disk
    c.export_device-disk.result.0 ending c.in_ok-disk.ensures.opened worked c.close.ensures
    (inl refl)) c.export_device-disk.result.1 c.export_device-disk.ensures.streams

pub returns-in_err-disk-clause-streams : goal.returns-in_err-disk-clause-streams
unfolding Rattle.mtc_cosigner.specs.Works.export_outcome
returns-in_err-disk-clause-streams g c =
    let name = c.args.journal.now in
    let stopped = err_from_is_err_and c.from_residual.result c.from_residual.ensures.1 in
    rw (stopped.1, stopped.2) (stopped_before g.O.Sink c.args.out.now _ _
    (c.in_err-disk.ensures.stops (name ∷ [])
    (cosigner_bytes_say g.H.TreeHash.hash name export_says) (inl refl)))

pub returns-clause-valid : goal.returns-clause-valid
unfolding Rattle.mtc_cosigner.specs.Works.export_outcome
returns-clause-valid g c =
    let h = g.H.TreeHash.hash in
    let name = c.args.journal.now in
    served_valid g.R.Room g.R.Dsk.Disk (IsCosigner h) name
    (cosigner_bytes_say h name export_says) c.args.room.now c.open_file.new.room
    c.close.new.room c.in_ok-disk.disk c.export_device-disk.result.0 c.in_ok-disk.ensures.opened
    c.export_device-disk.ensures.valid c.close.ensures

pub returns-in_err-disk-clause-valid : goal.returns-in_err-disk-clause-valid
unfolding Rattle.mtc_cosigner.specs.Works.export_outcome
returns-in_err-disk-clause-valid g c =
    let h = g.H.TreeHash.hash in
    let name = c.args.journal.now in
    kept_valid g.R.Room g.R.Dsk.Disk (IsCosigner h) (name ∷ [])
    (cosigner_outcome h name (g.R.Room.file c.args.room.now name) export_says)
    c.args.room.now c.open_file.new.room c.in_err-disk.ensures.refused g.met.R.Dsk.Disk.only_now
