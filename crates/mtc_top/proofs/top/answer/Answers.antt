use Rattle.std.proofs.Common.{◌++◌, IfSome, IsErr, Result, subst, sym}
use Rattle.mtc_words.specs.Commands.{CommandValue, command_value}
use Rattle.mtc_words.specs.declared.error.WordError.{WordError}
use Rattle.mtc_command.specs.Served.{HasDone, OfEach, done_with}
use Rattle.mtc_command.specs.Stored.{StoresBeside}
use Rattle.mtc_command.specs.Valid.{KeepsValid}
use Rattle.mtc_command.specs.Works.{ModelsNew}
use Rattle.mtc_authority.specs.StoredTiles.{MakesTilesWhole}
use Rattle.mtc_tiled.specs.Headers.{SparesTiles}
use Rattle.mtc_mirror_steps.specs.SecondStands.{SecondStands}
use Rattle.mtc_plans.specs.Cited.{command_outcome}
use Rattle.mtc_top.specs.Cited.{spoken_outcome}
use Rattle.mtc_top.specs.Ended.{HasCarriedOut}
use Rattle.mtc_top.specs.Facts.{facts, facts_of}
use Rattle.mtc_top.proofs.Ended.{in_words}
use Rattle.mtc_top.proofs.top.answer.Goals as goal

pub returns-in-Ok-clause-valid : goal.returns-in-Ok-clause-valid
returns-in-Ok-clause-valid g c =
    subst (λ (said : Result CommandValue WordError). KeepsValid g.R.Room g.R.Dsk.Disk
    (facts g.H.TreeHash.hash said).Valid (facts g.H.TreeHash.hash said).journals
    (spoken_outcome g.H.TreeHash.hash said (g.R.Room.file c.args.room.now)) c.args.room.now
    c.carry_out.new.room) (sym c.in-Ok.ensures.exact) c.carry_out.ensures.valid

pub returns-in-Ok-clause-done : goal.returns-in-Ok-clause-done
returns-in-Ok-clause-done g c =
    let room = c.args.room.now in
    let command = command_value c.in-Ok.command in
    let its = facts_of g.H.TreeHash.hash command in
    subst (λ (said : Result CommandValue WordError).
    let asked = facts g.H.TreeHash.hash said in
    HasCarriedOut g.O.Sink c.args.out.now c.carry_out.new.out asked.streams (λ ending.
    HasDone g.R.Room g.R.Dsk.Disk (IsErr said)
    (asked.journals ++ (asked.besides ++ asked.inputs)) asked.journals asked.besides
    (spoken_outcome g.H.TreeHash.hash said (g.R.Room.file c.args.room.now)) c.args.room.now
    c.carry_out.new.room ending
    × (IfSome asked.makes (λ name. ModelsNew g.R.Room g.R.Dsk.Disk name c.args.room.now
    c.carry_out.new.room ending) × IfSome asked.whole (λ name. MakesTilesWhole g.H.TreeHash.hash
    g.R.Room g.R.Dsk.Disk c.args.room.now c.carry_out.new.room name ending)))
    c.carry_out.result) (sym c.in-Ok.ensures.exact)
    (in_words g.R.Room g.R.Dsk.Disk command (its.journals ++ (its.besides ++ its.inputs))
    its.journals its.besides
    (command_outcome g.H.TreeHash.hash command (g.R.Room.file room)) room c.carry_out.new.room
    g.O.Sink c.args.out.now c.carry_out.new.out its.streams
    (λ ending. IfSome its.makes
    (λ name. ModelsNew g.R.Room g.R.Dsk.Disk name room c.carry_out.new.room ending)
    × IfSome its.whole (λ name. MakesTilesWhole g.H.TreeHash.hash g.R.Room g.R.Dsk.Disk room
    c.carry_out.new.room name ending))
    c.carry_out.result c.carry_out.ensures.done)

pub returns-in-Ok-clause-spares : goal.returns-in-Ok-clause-spares
returns-in-Ok-clause-spares g c =
    subst (λ (said : Result CommandValue WordError).
    OfEach (λ name did. SparesTiles g.R.Room c.args.room.now c.carry_out.new.room name)
    (done_with (facts g.H.TreeHash.hash said).journals
    (spoken_outcome g.H.TreeHash.hash said (g.R.Room.file c.args.room.now)).journals))
    (sym c.in-Ok.ensures.exact) c.carry_out.ensures.spares

pub returns-in-Ok-clause-second : goal.returns-in-Ok-clause-second
returns-in-Ok-clause-second g c =
    subst (λ (said : Result CommandValue WordError). g.R.Room.is_modelled c.args.room.now
    → SecondStands g.R.Room g.R.Dsk.Disk c.args.room.now c.carry_out.new.room
    (done_with (facts g.H.TreeHash.hash said).journals
    (spoken_outcome g.H.TreeHash.hash said (g.R.Room.file c.args.room.now)).journals))
    (sym c.in-Ok.ensures.exact) c.carry_out.ensures.second

pub returns-in-Ok-clause-stores : goal.returns-in-Ok-clause-stores
returns-in-Ok-clause-stores g c =
    subst (λ (said : Result CommandValue WordError).
    let asked = facts g.H.TreeHash.hash said in
    StoresBeside asked.goes asked.Valid g.R.Room g.R.Dsk.Disk c.args.room.now c.carry_out.new.room
    asked.journals asked.besides
    (spoken_outcome g.H.TreeHash.hash said (g.R.Room.file c.args.room.now)))
    (sym c.in-Ok.ensures.exact) c.carry_out.ensures.stores
