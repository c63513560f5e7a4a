use Rattle.std.proofs.Common.{None, Some, ◌≡◌, ◌∙◌, arith, subst, sym}
use Rattle.std.proofs.lemmas.Result.{err_from_is_err_and}
use Rattle.mtc_command.specs.Answers.{Ending, stop_ending}
use Rattle.mtc_tiled.proofs.NotOpened.{none_opened, party_not_opened}
use Rattle.mtc_authority.specs.OpenLogs.{LogWasNotOpened, log_party}
use Rattle.mtc_authority.specs.Works.{log_bytes_say}
use Rattle.mtc_authority.proofs.NotOpened.{log_refused}
use Rattle.mtc_authority.proofs.Opened.{work_refuses}
use Rattle.mtc_authority.proofs.opening.open_log.Goals as goal

pub open-requires : goal.open-requires
open-requires g c = λ slot key holds.
    let none : None ≡ Some key = sym (c.in_ok-pool.ensures.empty slot) ∙ holds.held in
    absurd cc

pub close_devices-requires : goal.close_devices-requires
close_devices-requires g c =
    let is = c.in_ok-disk.ensures.opened in
    record {
      both = omega (arith, is.header.opened.opened, is.beside.opened);
      named = c.requires.named;
    }

pub returns-in_err-pool-clause-stops : goal.returns-in_err-pool-clause-stops
returns-in_err-pool-clause-stops g c =
    let refused = err_from_is_err_and c.from_residual.result c.from_residual.ensures.1 in
    let h = g.H.TreeHash.hash in
    let name = c.args.journal.now in
    rw (refused.1, refused.2) (λ work. none_opened (log_party h) g.R.Room g.R.Dsk.Disk name
    (log_bytes_say h name work) c.args.room.now g.met.R.Dsk.Disk.only_now)

pub returns-in-Ok-clause-opened : goal.returns-in-Ok-clause-opened
returns-in-Ok-clause-opened g c = record {
  disk = _;
  tiles = _;
  devices = c.in_ok-disk.ensures.opened;
  is = c.in-Ok.ensures.opened;
}

pub returns-in_err-disk-clause-stops : goal.returns-in_err-disk-clause-stops
returns-in_err-disk-clause-stops g c =
    let refused = err_from_is_err_and c.from_residual-in_err-disk.result
    c.from_residual-in_err-disk.ensures.1 in
    let h = g.H.TreeHash.hash in
    let name = c.args.journal.now in
    rw (refused.1, refused.2) (λ work.
    party_not_opened (log_party h) g.R.Room g.R.Dsk.Disk name (log_bytes_say h name work)
    c.args.room.now (work_refuses h name work) g.met.R.Dsk.Disk.only_now c.open_devices.new.room
    (stop_ending c.in_err-disk.field-0.0) c.in_err-disk.ensures.stops)

pub returns-in-Err-clause-stops : goal.returns-in-Err-clause-stops
returns-in-Err-clause-stops g c = λ work.
    let h = g.H.TreeHash.hash in
    let name = c.args.journal.now in
    subst (λ (e : Ending). LogWasNotOpened g.R.Room g.R.Dsk.Disk name h (log_bytes_say h name work)
    c.args.room.now c.close_devices.new.room e) (sym c.refuse_log.ensures)
    (log_refused g.R.Room g.R.Dsk.Disk name h work c.args.room.now c.open_devices.new.room
    c.close_devices.new.room c.in_ok-disk.disk c.in-Err.field-0.disk c.in_ok-disk.tiles
    c.in-Err.field-0.tiles c.in_ok-disk.ensures.opened c.close_devices.ensures
    g.met.R.Room.modelled_file c.in-Err.field-0.why c.in-Err.ensures.refused)
