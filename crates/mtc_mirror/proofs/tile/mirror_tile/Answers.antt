use Rattle.std.proofs.Common.{◌≡◌, ◌∙◌, None, Some, arith, sym}
use Rattle.std.proofs.lemmas.Result.{err_from_is_err_and}
use Rattle.mtc_command.specs.Answers.{ending_of, stop_ending}
use Rattle.mtc_mirror.specs.MirrorOutcomes.{mirror_tile_says}
use Rattle.mtc_mirror.proofs.Served.{mirror_serves, nothing_serves, unopened_serves}
use Rattle.mtc_mirror.proofs.tile.mirror_tile.Goals as goal

pub open_mirror-requires : goal.open_mirror-requires
open_mirror-requires g c = record {
  opened = c.requires;
  named = c.deref.ensures ∙ c.in_ok-name.ensures;
  empty = λ slot key holds.
      let none : None ≡ Some key = sym (c.in_ok-pool.ensures.empty slot) ∙ holds.held in
      absurd cc;
}

pub close_mirror-requires : goal.close_mirror-requires
close_mirror-requires g c =
    let is = c.in_ok-mirror.ensures.opened.devices in
    record {
      both = omega (arith, is.header.opened.opened, is.beside.opened);
      named = c.deref-2.ensures ∙ c.in_ok-name.ensures;
    }

pub tile_on-answer-requires : goal.tile_on-answer-requires
tile_on-answer-requires g c =
    let is = c.in_ok-mirror.ensures.opened.is in
    record { sound = is.sound; end = is.end; view = c.law_sound.ensures.view; all = is.all }

pub returns-in_err-name : goal.returns-in_err-name
returns-in_err-name g c =
    let refused = err_from_is_err_and c.from_residual.result c.from_residual.ensures.1 in
    rw (refused.1, refused.2) (nothing_serves g.R.Room g.R.Dsk.Disk c.args.journal.now
    g.H.TreeHash.hash mirror_tile_says c.args.room.now g.met.R.Dsk.Disk.only_now)

pub returns-in_err-pool : goal.returns-in_err-pool
returns-in_err-pool g c =
    let refused = err_from_is_err_and c.from_residual-in_err-pool.result
    c.from_residual-in_err-pool.ensures.1 in
    rw (refused.1, refused.2) (nothing_serves g.R.Room g.R.Dsk.Disk c.args.journal.now
    g.H.TreeHash.hash mirror_tile_says c.args.room.now g.met.R.Dsk.Disk.only_now)

pub returns-in_err-mirror : goal.returns-in_err-mirror
returns-in_err-mirror g c =
    let refused = err_from_is_err_and c.from_residual-in_err-mirror.result
    c.from_residual-in_err-mirror.ensures.1 in
    rw (refused.1, refused.2) (unopened_serves g.R.Room g.R.Dsk.Disk c.args.journal.now
    g.H.TreeHash.hash mirror_tile_says c.args.room.now c.open_mirror.new.room
    (stop_ending c.in_err-mirror.field-0.0) g.met.R.Dsk.Disk.only_now g.met.R.Room.modelled_file
    c.in_err-mirror.ensures.stops)

pub returns : goal.returns
returns g c =
    mirror_serves g.R.Room g.R.Dsk.Disk c.args.journal.now c.args.room.now c.open_mirror.new.room
    c.close_mirror.new.room c.in_ok-mirror.mirror c.tile_on-answer.new.mirror
    c.in_ok-mirror.ensures.opened c.close_mirror.ensures mirror_tile_says
    g.met.R.Dsk.Disk.reads_crash_state g.met.R.Room.modelled_file c.tile_on-answer.ensures.valid
    c.tile_on-answer.ensures.stores (ending_of c.tile_on-answer.result)
    c.tile_on-answer.ensures.works
