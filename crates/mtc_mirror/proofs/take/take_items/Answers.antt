use Rattle.std.proofs.Common.{◌≡◌, ◌∙◌, None, Some, arith, inl, sym}
use Rattle.std.proofs.lemmas.Result.{err_from_is_err_and}
use Rattle.mirror_core.specs.Refusals.{pairs_of}
use Rattle.mtc_command.specs.Answers.{ending_of, stop_ending}
use Rattle.mtc_mirror.specs.MirrorOutcomes.{take_says}
use Rattle.mtc_mirror.proofs.Served.{mirror_only_reads, mirror_serves, nothing_reads}
use Rattle.mtc_mirror.proofs.Served.{nothing_serves, unopened_reads, unopened_serves}
use Rattle.mtc_mirror.proofs.take.take_items.Goals as goal

pub open_mirror-requires : goal.open_mirror-requires
open_mirror-requires g c = record {
  opened = c.requires;
  named = c.deref.ensures ∙ c.in_ok-name.ensures;
  empty = λ slot key holds.
      let none : None ≡ Some key = sym (c.in_ok-pool.ensures.empty slot) ∙ holds.held in
      absurd cc;
}

pub close_mirror-requires : goal.close_mirror-requires
close_mirror-requires g c =
    let is = c.in_ok-mirror.ensures.opened.devices in
    record {
      both = omega (arith, is.header.opened.opened, is.beside.opened);
      named = c.deref-2.ensures ∙ c.in_ok-name.ensures;
    }

pub take_on-answer-requires : goal.take_on-answer-requires
take_on-answer-requires g c =
    let is = c.in_ok-mirror.ensures.opened.is in
    record { sound = is.sound; end = is.end; view = c.law_sound.ensures.view; all = is.all }

pub returns-in_err-name-clause-served : goal.returns-in_err-name-clause-served
returns-in_err-name-clause-served g c =
    let refused = err_from_is_err_and c.from_residual.result c.from_residual.ensures.1 in
    rw (refused.1, refused.2) (nothing_serves g.R.Room g.R.Dsk.Disk c.args.journal.now
    g.H.TreeHash.hash (take_says (pairs_of c.args.items.now)) c.args.room.now
    g.met.R.Dsk.Disk.only_now)

pub returns-in_err-name-clause-only_read : goal.returns-in_err-name-clause-only_read
returns-in_err-name-clause-only_read g c =
    nothing_reads g.R.Room g.R.Dsk.Disk c.args.journal.now g.H.TreeHash.hash
    (take_says (pairs_of c.args.items.now)) c.args.room.now g.met.R.Dsk.Disk.only_now

pub returns-in_err-pool-clause-served : goal.returns-in_err-pool-clause-served
returns-in_err-pool-clause-served g c =
    let refused = err_from_is_err_and c.from_residual-in_err-pool.result
    c.from_residual-in_err-pool.ensures.1 in
    rw (refused.1, refused.2) (nothing_serves g.R.Room g.R.Dsk.Disk c.args.journal.now
    g.H.TreeHash.hash (take_says (pairs_of c.args.items.now)) c.args.room.now
    g.met.R.Dsk.Disk.only_now)

pub returns-in_err-pool-clause-only_read : goal.returns-in_err-pool-clause-only_read
returns-in_err-pool-clause-only_read g c =
    nothing_reads g.R.Room g.R.Dsk.Disk c.args.journal.now g.H.TreeHash.hash
    (take_says (pairs_of c.args.items.now)) c.args.room.now g.met.R.Dsk.Disk.only_now

pub returns-in_err-mirror-clause-served : goal.returns-in_err-mirror-clause-served
returns-in_err-mirror-clause-served g c =
    let refused = err_from_is_err_and c.from_residual-in_err-mirror.result
    c.from_residual-in_err-mirror.ensures.1 in
    rw (refused.1, refused.2) (unopened_serves g.R.Room g.R.Dsk.Disk c.args.journal.now
    g.H.TreeHash.hash (take_says (pairs_of c.args.items.now)) c.args.room.now
    c.open_mirror.new.room (stop_ending c.in_err-mirror.field-0.0) g.met.R.Dsk.Disk.only_now
    g.met.R.Room.modelled_file c.in_err-mirror.ensures.stops)

pub returns-in_err-mirror-clause-only_read : goal.returns-in_err-mirror-clause-only_read
returns-in_err-mirror-clause-only_read g c =
    unopened_reads g.R.Room g.R.Dsk.Disk c.args.journal.now g.H.TreeHash.hash
    (take_says (pairs_of c.args.items.now)) c.args.room.now c.open_mirror.new.room
    (stop_ending c.in_err-mirror.field-0.0) g.met.R.Dsk.Disk.only_now
    g.met.R.Room.modelled_file c.in_err-mirror.ensures.stops

pub returns-clause-served : goal.returns-clause-served
returns-clause-served g c =
    mirror_serves g.R.Room g.R.Dsk.Disk c.args.journal.now c.args.room.now c.open_mirror.new.room
    c.close_mirror.new.room c.in_ok-mirror.mirror c.take_on-answer.new.mirror
    c.in_ok-mirror.ensures.opened c.close_mirror.ensures (take_says (pairs_of c.args.items.now))
    g.met.R.Dsk.Disk.reads_crash_state g.met.R.Room.modelled_file c.take_on-answer.ensures.valid
    c.take_on-answer.ensures.stores (ending_of c.take_on-answer.result)
    c.take_on-answer.ensures.works

pub returns-clause-only_read : goal.returns-clause-only_read
returns-clause-only_read g c =
    mirror_only_reads g.R.Room g.R.Dsk.Disk c.args.journal.now c.args.room.now
    c.open_mirror.new.room c.close_mirror.new.room c.in_ok-mirror.mirror
    c.take_on-answer.new.mirror c.in_ok-mirror.ensures.opened c.close_mirror.ensures
    (take_says (pairs_of c.args.items.now)) g.met.R.Dsk.Disk.only_now g.met.R.Room.modelled_file
    (inl c.take_on-answer.ensures.tiles)
