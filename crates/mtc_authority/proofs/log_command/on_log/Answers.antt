use Rattle.std.proofs.Common.{◌∙◌, arith}
use Rattle.std.proofs.lemmas.Result.{err_from_is_err_and}
use Rattle.mtc_command.specs.Answers.{ending_of}
use Rattle.mtc_authority.specs.Works.{log_bytes_say}
use Rattle.mtc_authority.proofs.Both.{log_stores}
use Rattle.mtc_tiled.proofs.NotOpened.{none_opened}
use Rattle.mtc_authority.specs.OpenLogs.{log_party}
use Rattle.mtc_authority.proofs.OpenLogs.{log_keeps_valid, log_only_reads, log_serves, log_spares}
use Rattle.mtc_authority.proofs.OpenLogs.{log_stores_both}
use Rattle.mtc_authority.proofs.log_command.on_log.Goals as goal

pub open_log-requires : goal.open_log-requires
open_log-requires g c = record {
  opened = c.requires.opened;
  named = c.deref.ensures ∙ c.in_ok-name.ensures;
  some = c.frames-frames.ensures.some;
  few = c.frames-frames.ensures.few;
}

pub close_log-requires : goal.close_log-requires
close_log-requires g c =
    let is = c.in_ok-log.ensures.opened in
    record {
      both = omega (arith, is.devices.header.opened.opened, is.devices.beside.opened);
      named = c.deref-2.ensures ∙ c.in_ok-name.ensures;
    }

pub returns-in_err-name-clause-serves : goal.returns-in_err-name-clause-serves
unfolding Rattle.mtc_authority.specs.Works.log_outcome
returns-in_err-name-clause-serves g c =
    let refused = err_from_is_err_and c.from_residual.result c.from_residual.ensures.1 in
    let none = none_opened (log_party g.H.TreeHash.hash) g.R.Room g.R.Dsk.Disk c.args.journal.now
    (log_bytes_say g.H.TreeHash.hash c.args.journal.now c.args.work) c.args.room.now
    g.met.R.Dsk.Disk.only_now in
    rw (refused.1, refused.2) (none.serves)

pub returns-in_err-log-clause-serves : goal.returns-in_err-log-clause-serves
unfolding Rattle.mtc_authority.specs.Works.log_outcome
returns-in_err-log-clause-serves g c =
    let refused = err_from_is_err_and c.from_residual-in_err-log.result
    c.from_residual-in_err-log.ensures.1 in
    rw (refused.1, refused.2) ((c.in_err-log.ensures.stops c.args.work).serves)

pub returns-in_err-name-clause-valid : goal.returns-in_err-name-clause-valid
unfolding Rattle.mtc_authority.specs.Works.log_outcome
returns-in_err-name-clause-valid g c =
    let none = none_opened (log_party g.H.TreeHash.hash) g.R.Room g.R.Dsk.Disk c.args.journal.now
    (log_bytes_say g.H.TreeHash.hash c.args.journal.now c.args.work) c.args.room.now
    g.met.R.Dsk.Disk.only_now in
    none.valid

pub returns-in_err-log-clause-valid : goal.returns-in_err-log-clause-valid
unfolding Rattle.mtc_authority.specs.Works.log_outcome
returns-in_err-log-clause-valid g c = (c.in_err-log.ensures.stops c.args.work).valid

pub returns-in_err-name-clause-only_read : goal.returns-in_err-name-clause-only_read
returns-in_err-name-clause-only_read g c =
    let none = none_opened (log_party g.H.TreeHash.hash) g.R.Room g.R.Dsk.Disk c.args.journal.now
    (log_bytes_say g.H.TreeHash.hash c.args.journal.now c.args.work) c.args.room.now
    g.met.R.Dsk.Disk.only_now in
    λ other. none.only_read

pub returns-in_err-log-clause-only_read : goal.returns-in_err-log-clause-only_read
returns-in_err-log-clause-only_read g c =
    λ other. (c.in_err-log.ensures.stops c.args.work).only_read

pub returns-in_err-name-clause-stores : goal.returns-in_err-name-clause-stores
unfolding Rattle.mtc_authority.specs.Works.log_outcome
returns-in_err-name-clause-stores g c =
    let none = none_opened (log_party g.H.TreeHash.hash) g.R.Room g.R.Dsk.Disk c.args.journal.now
    (log_bytes_say g.H.TreeHash.hash c.args.journal.now c.args.work) c.args.room.now
    g.met.R.Dsk.Disk.only_now in
    none.stores

pub returns-in_err-log-clause-stores : goal.returns-in_err-log-clause-stores
unfolding Rattle.mtc_authority.specs.Works.log_outcome
returns-in_err-log-clause-stores g c = (c.in_err-log.ensures.stops c.args.work).stores

pub returns-in_err-name-clause-spares : goal.returns-in_err-name-clause-spares
returns-in_err-name-clause-spares g c =
    let none = none_opened (log_party g.H.TreeHash.hash) g.R.Room g.R.Dsk.Disk c.args.journal.now
    (log_bytes_say g.H.TreeHash.hash c.args.journal.now c.args.work) c.args.room.now
    g.met.R.Dsk.Disk.only_now in
    none.spares

pub returns-in_err-log-clause-spares : goal.returns-in_err-log-clause-spares
returns-in_err-log-clause-spares g c = (c.in_err-log.ensures.stops c.args.work).spares

pub returns-clause-serves : goal.returns-clause-serves
returns-clause-serves g c =
    log_serves g.R.Room g.R.Dsk.Disk c.args.journal.now c.args.room.now
    c.open_log.new.room c.close_log.new.room c.in_ok-log.log c.carry_out-answer.new.log
    c.in_ok-log.ensures.opened c.close_log.ensures c.args.work
    g.met.R.Dsk.Disk.reads_crash_state (ending_of c.carry_out-answer.result)
    c.carry_out-answer.ensures.works

pub returns-clause-valid : goal.returns-clause-valid
returns-clause-valid g c =
    log_keeps_valid g.R.Room g.R.Dsk.Disk c.args.journal.now c.args.room.now
    c.open_log.new.room c.close_log.new.room c.in_ok-log.log c.carry_out-answer.new.log
    c.in_ok-log.ensures.opened c.close_log.ensures c.args.work
    c.carry_out-answer.ensures.valid

pub returns-clause-only_read : goal.returns-clause-only_read
returns-clause-only_read g c = λ other.
    log_only_reads g.R.Room g.R.Dsk.Disk c.args.journal.now c.args.room.now
    c.open_log.new.room c.close_log.new.room c.in_ok-log.log c.carry_out-answer.new.log
    c.in_ok-log.ensures.opened c.close_log.ensures c.args.work
    g.met.R.Dsk.Disk.only_now g.met.R.Room.modelled_file
    (c.carry_out-answer.ensures.only_read other)

pub returns-clause-stores : goal.returns-clause-stores
returns-clause-stores g c =
    let did = c.carry_out-answer.ensures in
    log_stores_both g.R.Room g.R.Dsk.Disk c.args.journal.now c.args.room.now
    c.open_log.new.room c.close_log.new.room c.in_ok-log.log c.carry_out-answer.new.log
    c.in_ok-log.ensures.opened c.close_log.ensures c.args.work
    g.met.R.Room.modelled_file
    (log_stores c.args.journal.now c.in_ok-log.log c.carry_out-answer.new.log
    g.met.R.Dsk.Disk.only_now c.args.work (ending_of c.carry_out-answer.result) did.works did.valid
    did.only_read did.stores c.law_sound.ensures.items)

pub returns-clause-spares : goal.returns-clause-spares
returns-clause-spares g c =
    log_spares g.R.Room g.R.Dsk.Disk c.args.journal.now c.args.room.now
    c.open_log.new.room c.close_log.new.room c.in_ok-log.log c.carry_out-answer.new.log
    c.in_ok-log.ensures.opened c.close_log.ensures c.args.work

pub carry_out-answer-requires : goal.carry_out-answer-requires
carry_out-answer-requires g c =
    let is = c.in_ok-log.ensures.opened.is in
    record {
      ready = record { sound = is.sound; end = is.end; view = c.law_sound.ensures.view };
      kept = c.requires.kept;
    }
