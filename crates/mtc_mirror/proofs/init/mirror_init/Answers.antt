use Rattle.std.proofs.Common.{[], ◌∷◌, IsOk, inl, refl, subst, sym}
use Rattle.std.proofs.lemmas.Result.{err_from_is_err_and}
use Rattle.byte_formats.specs.Types.{Text}
use Rattle.mirror_core.specs.Records.{mirror_record}
use Rattle.mtc_command.specs.Answers.{ending_of, no_memory}
use Rattle.mtc_command.specs.Served.{HasServed}
use Rattle.mtc_command.specs.Steps.{starts, with_fresh}
use Rattle.mtc_command.proofs.Begins.{begins_of}
use Rattle.mtc_command.proofs.Served.{stopped}
use Rattle.mtc_command.proofs.Valid.{gives_same, new_valid, same_valid}
use Rattle.mtc_mirror.specs.MirrorOutcomes.{mirror_init_outcome, mirror_line}
use Rattle.mtc_mirror.specs.Works.{IsMirror}
use Rattle.mtc_mirror.proofs.init.mirror_init.Goals as goal

pub returns-clause-serves : goal.returns-clause-serves
returns-clause-serves g c =
    let name = c.args.journal.now in
    let record_of = mirror_record c.args.id in
    let served = λ (first text : Text). HasServed g.R.Room g.R.Dsk.Disk (name ∷ []) name
    (with_fresh name (g.R.Room.file c.args.room.now name) (starts first text))
    c.args.room.now c.make_journal.new.room (ending_of c.make_journal.result) in
    subst (served record_of) c.in_ok-text.ensures
    (subst (λ (first : Text). served first c.in_ok-text.text) c.in_ok-first.ensures.body
    (c.make_journal.ensures.serves (name ∷ []) (inl refl)))

pub returns-in_err-text-clause-valid : goal.returns-in_err-text-clause-valid
returns-in_err-text-clause-valid g c = λ h.
    same_valid g.R.Room g.R.Dsk.Disk (IsMirror h) (c.args.journal.now ∷ [])
    (mirror_init_outcome c.args.journal.now c.args.id (g.R.Room.file c.args.room.now))
    c.args.room.now g.met.R.Dsk.Disk.only_now

pub returns-in_err-first-clause-valid : goal.returns-in_err-first-clause-valid
returns-in_err-first-clause-valid g c = λ h.
    same_valid g.R.Room g.R.Dsk.Disk (IsMirror h) (c.args.journal.now ∷ [])
    (mirror_init_outcome c.args.journal.now c.args.id (g.R.Room.file c.args.room.now))
    c.args.room.now g.met.R.Dsk.Disk.only_now

pub returns-clause-valid : goal.returns-clause-valid
returns-clause-valid g c = λ h.
    let name = c.args.journal.now in
    let record_of = mirror_record c.args.id in
    let text = mirror_line c.args.id in
    new_valid g.R.Room g.R.Dsk.Disk (IsMirror h) name record_of text
    (g.R.Room.file c.args.room.now name) c.args.room.now c.make_journal.new.room
    (subst IsOk (sym (c.in_ok-first.ensures.valid h)) refl)

pub returns-clause-begins : goal.returns-clause-begins
returns-clause-begins g c = begins_of g.R.Room g.R.Dsk.Disk _ _ _ _ _ _
    c.make_journal.ensures.begins

pub returns-in_err-text-clause-serves : goal.returns-in_err-text-clause-serves
returns-in_err-text-clause-serves g c =
    let name = c.args.journal.now in
    let old = c.args.room.now in
    let refused = err_from_is_err_and c.from_residual.result
    c.from_residual.ensures.1 in
    rw (refused.1, refused.2) (stopped g.R.Room g.R.Dsk.Disk (name ∷ []) (name ∷ []) []
    (mirror_init_outcome name c.args.id (g.R.Room.file old)) old old
    (gives_same g.R.Room old) g.met.R.Dsk.Disk.only_now no_memory tt tt)

pub returns-in_err-first-clause-serves : goal.returns-in_err-first-clause-serves
returns-in_err-first-clause-serves g c =
    let name = c.args.journal.now in
    let old = c.args.room.now in
    let refused = err_from_is_err_and c.from_residual-in_err-first.result
    c.from_residual-in_err-first.ensures.1 in
    rw (refused.1, refused.2) (stopped g.R.Room g.R.Dsk.Disk (name ∷ []) (name ∷ []) []
    (mirror_init_outcome name c.args.id (g.R.Room.file old)) old old
    (gives_same g.R.Room old) g.met.R.Dsk.Disk.only_now no_memory tt tt)
