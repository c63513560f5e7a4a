use Rattle.std.proofs.Common.{◌≡◌, ◌∙◌, None, Some, arith, inr, sym}
use Rattle.std.proofs.lemmas.Result.{err_from_is_err_and}
use Rattle.mtc_command.specs.Answers.{stop_ending}
use Rattle.mtc_command.specs.declared.answer.Stop.TheVariants.{Memory}
use Rattle.mtc_lines.proofs.Outputs.{stopped_before, streams_so}
use Rattle.mtc_mirror.specs.MirrorOutcomes.{mirror_entries_says}
use Rattle.mtc_mirror.proofs.Served.{mirror_only_reads, mirror_serves, nothing_reads}
use Rattle.mtc_mirror.proofs.Served.{nothing_serves, unopened_reads, unopened_serves}
use Rattle.mtc_mirror.proofs.Streamed.{read_stores, read_valid}
use Rattle.mtc_mirror.proofs.entries.mirror_entries.Goals as goal

pub open_mirror-requires : goal.open_mirror-requires
open_mirror-requires g c = record {
  opened = c.requires;
  named = c.deref.ensures ∙ c.in_ok-name.ensures;
  empty = λ slot key holds.
      let none : None ≡ Some key = sym (c.in_ok-pool.ensures.empty slot) ∙ holds.held in
      absurd cc;
}

pub close_mirror-requires : goal.close_mirror-requires
close_mirror-requires g c =
    let is = c.in_ok-mirror.ensures.opened.devices in
    record {
      both = omega (arith, is.header.opened.opened, is.beside.opened);
      named = c.deref-2.ensures ∙ c.in_ok-name.ensures;
    }

pub entries_on-written-requires : goal.entries_on-written-requires
entries_on-written-requires g c =
    let is = c.in_ok-mirror.ensures.opened.is in
    record { sound = is.sound; end = is.end; view = c.law_sound.ensures.view; all = is.all }

pub returns-in_err-name-clause-streams : goal.returns-in_err-name-clause-streams
returns-in_err-name-clause-streams g c =
    let refused = err_from_is_err_and c.from_residual.result c.from_residual.ensures.1 in
    rw (refused.1, refused.2) (stopped_before g.O.Sink c.args.out.now _ Memory
    (nothing_serves g.R.Room g.R.Dsk.Disk c.args.journal.now g.H.TreeHash.hash
    (mirror_entries_says c.args.size) c.args.room.now g.met.R.Dsk.Disk.only_now))

pub returns-in_err-name-clause-only_read : goal.returns-in_err-name-clause-only_read
returns-in_err-name-clause-only_read g c =
    nothing_reads g.R.Room g.R.Dsk.Disk c.args.journal.now g.H.TreeHash.hash
    (mirror_entries_says c.args.size) c.args.room.now g.met.R.Dsk.Disk.only_now

pub returns-in_err-pool-clause-streams : goal.returns-in_err-pool-clause-streams
returns-in_err-pool-clause-streams g c =
    let refused = err_from_is_err_and c.from_residual-in_err-pool.result
    c.from_residual-in_err-pool.ensures.1 in
    rw (refused.1, refused.2) (stopped_before g.O.Sink c.args.out.now _ Memory
    (nothing_serves g.R.Room g.R.Dsk.Disk c.args.journal.now g.H.TreeHash.hash
    (mirror_entries_says c.args.size) c.args.room.now g.met.R.Dsk.Disk.only_now))

pub returns-in_err-pool-clause-only_read : goal.returns-in_err-pool-clause-only_read
returns-in_err-pool-clause-only_read g c =
    nothing_reads g.R.Room g.R.Dsk.Disk c.args.journal.now g.H.TreeHash.hash
    (mirror_entries_says c.args.size) c.args.room.now g.met.R.Dsk.Disk.only_now

pub returns-in_err-mirror-clause-streams : goal.returns-in_err-mirror-clause-streams
returns-in_err-mirror-clause-streams g c =
    let refused = err_from_is_err_and c.from_residual-in_err-mirror.result
    c.from_residual-in_err-mirror.ensures.1 in
    rw (refused.1, refused.2) (stopped_before g.O.Sink c.args.out.now _ c.in_err-mirror.field-0.0
    (unopened_serves g.R.Room g.R.Dsk.Disk c.args.journal.now g.H.TreeHash.hash
    (mirror_entries_says c.args.size) c.args.room.now c.open_mirror.new.room
    (stop_ending c.in_err-mirror.field-0.0) g.met.R.Dsk.Disk.only_now
    g.met.R.Room.modelled_file c.in_err-mirror.ensures.stops))

pub returns-in_err-mirror-clause-only_read : goal.returns-in_err-mirror-clause-only_read
returns-in_err-mirror-clause-only_read g c =
    unopened_reads g.R.Room g.R.Dsk.Disk c.args.journal.now g.H.TreeHash.hash
    (mirror_entries_says c.args.size) c.args.room.now c.open_mirror.new.room
    (stop_ending c.in_err-mirror.field-0.0) g.met.R.Dsk.Disk.only_now
    g.met.R.Room.modelled_file c.in_err-mirror.ensures.stops

pub returns-clause-streams : goal.returns-clause-streams
returns-clause-streams g c =
    let stays = c.entries_on-written.ensures.stays in
    let old = c.in_ok-mirror.mirror in
    let new = c.entries_on-written.new.mirror in
    let says = mirror_entries_says c.args.size in
    streams_so g.O.Sink c.args.out.now c.entries_on-written.new.out _ _
    (mirror_serves g.R.Room g.R.Dsk.Disk c.args.journal.now c.args.room.now c.open_mirror.new.room
    c.close_mirror.new.room old new c.in_ok-mirror.ensures.opened c.close_mirror.ensures says
    g.met.R.Dsk.Disk.reads_crash_state g.met.R.Room.modelled_file
    (read_valid old new says stays) (read_stores old new says stays)) c.entries_on-written.result
    c.entries_on-written.ensures.streams

pub returns-clause-only_read : goal.returns-clause-only_read
returns-clause-only_read g c =
    mirror_only_reads g.R.Room g.R.Dsk.Disk c.args.journal.now c.args.room.now
    c.open_mirror.new.room c.close_mirror.new.room c.in_ok-mirror.mirror
    c.entries_on-written.new.mirror c.in_ok-mirror.ensures.opened c.close_mirror.ensures
    (mirror_entries_says c.args.size) g.met.R.Dsk.Disk.only_now g.met.R.Room.modelled_file
    (inr c.entries_on-written.ensures.stays.tiles)
