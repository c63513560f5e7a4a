use Rattle.std.proofs.lemmas.Result.{err_from_is_err_and}
use Rattle.mtc_command.specs.Answers.{ending_of, stop_ending}
use Rattle.mtc_authority.proofs.Rebuilding.{rebuilt_not_opened, rebuilt_serves}
use Rattle.mtc_authority.proofs.Rebuilding.{rebuilt_stores}
use Rattle.mtc_authority.proofs.Rebuilding.{rebuilt_valid, rebuilt_whole}
use Rattle.mtc_authority.proofs.Stopping.{stopped_whole}
use Rattle.mtc_authority.proofs.tile_anew.tile_anew.Goals as goal

pub returns-in_err-disk-clause-serves : goal.returns-in_err-disk-clause-serves
unfolding Rattle.mtc_authority.specs.TileOutcome.rebuilt_outcome
returns-in_err-disk-clause-serves g c =
    let refused = err_from_is_err_and c.from_residual-in_err-disk.result
    c.from_residual-in_err-disk.ensures.1 in
    let h = g.H.TreeHash.hash in
    let name = c.args.journal.now in
    let none = rebuilt_not_opened h g.R.Room g.R.Dsk.Disk name c.args.room.now
    c.open_devices.new.room (stop_ending c.in_err-disk.field-0.0) g.met.R.Dsk.Disk.only_now
    c.in_err-disk.ensures.stops in
    rw (refused.1, refused.2) none.serves

pub returns-in_err-disk-clause-valid : goal.returns-in_err-disk-clause-valid
unfolding Rattle.mtc_authority.specs.TileOutcome.rebuilt_outcome
returns-in_err-disk-clause-valid g c =
    let h = g.H.TreeHash.hash in
    let name = c.args.journal.now in
    (rebuilt_not_opened h g.R.Room g.R.Dsk.Disk name c.args.room.now
    c.open_devices.new.room (stop_ending c.in_err-disk.field-0.0) g.met.R.Dsk.Disk.only_now
    c.in_err-disk.ensures.stops).valid

pub returns-in_err-disk-clause-stores : goal.returns-in_err-disk-clause-stores
unfolding Rattle.mtc_authority.specs.TileOutcome.rebuilt_outcome
returns-in_err-disk-clause-stores g c =
    let h = g.H.TreeHash.hash in
    let name = c.args.journal.now in
    (rebuilt_not_opened h g.R.Room g.R.Dsk.Disk name c.args.room.now
    c.open_devices.new.room (stop_ending c.in_err-disk.field-0.0) g.met.R.Dsk.Disk.only_now
    c.in_err-disk.ensures.stops).stores

pub returns-in_err-disk-clause-spares : goal.returns-in_err-disk-clause-spares
returns-in_err-disk-clause-spares g c =
    let h = g.H.TreeHash.hash in
    let name = c.args.journal.now in
    (rebuilt_not_opened h g.R.Room g.R.Dsk.Disk name c.args.room.now
    c.open_devices.new.room (stop_ending c.in_err-disk.field-0.0) g.met.R.Dsk.Disk.only_now
    c.in_err-disk.ensures.stops).spares

pub returns-in_err-disk-clause-whole : goal.returns-in_err-disk-clause-whole
returns-in_err-disk-clause-whole g c =
    let refused = err_from_is_err_and c.from_residual-in_err-disk.result
    c.from_residual-in_err-disk.ensures.1 in
    let h = g.H.TreeHash.hash in
    let name = c.args.journal.now in
    let none = rebuilt_not_opened h g.R.Room g.R.Dsk.Disk name c.args.room.now
    c.open_devices.new.room (stop_ending c.in_err-disk.field-0.0) g.met.R.Dsk.Disk.only_now
    c.in_err-disk.ensures.stops in
    rw refused.1
    (stopped_whole h g.R.Room g.R.Dsk.Disk c.args.room.now c.open_devices.new.room name refused.0
    none.only_read)

pub returns-clause-serves : goal.returns-clause-serves
unfolding Rattle.mtc_authority.specs.TileOutcome.rebuilt_outcome
returns-clause-serves g c =
    let rebuilt = c.rebuild_tiles-disk in
    rebuilt_serves g.H.TreeHash.hash g.R.Room g.R.Dsk.Disk c.args.journal.now c.args.room.now
    c.open_devices.new.room c.close_devices.new.room c.in_ok-disk.disk rebuilt.result.disk
    c.in_ok-disk.tiles rebuilt.result.tiles c.in_ok-disk.ensures.opened c.close_devices.ensures
    rebuilt.ensures.only_reads rebuilt.result.answer rebuilt.ensures.left
    g.met.R.Dsk.Disk.reads_crash_state g.met.R.Dsk.Disk.only_now (ending_of c.rebuilt_answer.result)
    c.rebuilt_answer.ensures

pub returns-clause-valid : goal.returns-clause-valid
unfolding Rattle.mtc_authority.specs.TileOutcome.rebuilt_outcome
returns-clause-valid g c =
    let rebuilt = c.rebuild_tiles-disk in
    rebuilt_valid g.H.TreeHash.hash g.R.Room g.R.Dsk.Disk c.args.journal.now c.args.room.now
    c.open_devices.new.room c.close_devices.new.room c.in_ok-disk.disk rebuilt.result.disk
    c.in_ok-disk.tiles rebuilt.result.tiles c.in_ok-disk.ensures.opened c.close_devices.ensures
    rebuilt.ensures.only_reads rebuilt.result.answer rebuilt.ensures.left

pub returns-clause-stores : goal.returns-clause-stores
unfolding Rattle.mtc_authority.specs.TileOutcome.rebuilt_outcome
returns-clause-stores g c =
    let rebuilt = c.rebuild_tiles-disk in
    rebuilt_stores g.H.TreeHash.hash g.R.Room g.R.Dsk.Disk c.args.journal.now c.args.room.now
    c.open_devices.new.room c.close_devices.new.room c.in_ok-disk.disk rebuilt.result.disk
    c.in_ok-disk.tiles rebuilt.result.tiles c.in_ok-disk.ensures.opened c.close_devices.ensures
    rebuilt.ensures.only_reads rebuilt.result.answer rebuilt.ensures.left
    g.met.R.Room.modelled_file g.met.R.Dsk.Disk.counts_now

pub returns-clause-whole : goal.returns-clause-whole
returns-clause-whole g c =
    let rebuilt = c.rebuild_tiles-disk in
    rebuilt_whole g.H.TreeHash.hash g.R.Room g.R.Dsk.Disk c.args.journal.now c.args.room.now
    c.open_devices.new.room c.close_devices.new.room c.in_ok-disk.disk rebuilt.result.disk
    c.in_ok-disk.tiles rebuilt.result.tiles c.in_ok-disk.ensures.opened c.close_devices.ensures
    rebuilt.ensures.only_reads rebuilt.result.answer rebuilt.ensures.left
    g.met.R.Room.modelled_file (ending_of c.rebuilt_answer.result) c.rebuilt_answer.ensures
