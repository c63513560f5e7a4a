use Rattle.std.proofs.Common.{rules, [], ◌∷◌, IsOk, inl, refl, subst, sym}
use Rattle.std.proofs.lemmas.Result.{err_from_is_err_and}
use Rattle.byte_formats.specs.Types.{Text}
use Rattle.journal_core.specs.Packed.{first_body}
use Rattle.mtc_command.specs.Answers.{ending_of, no_memory}
use Rattle.mtc_command.specs.Served.{HasServed}
use Rattle.mtc_command.specs.Steps.{Outcome}
use Rattle.mtc_command.specs.Valid.{KeepsValid}
use Rattle.mtc_command.proofs.Begins.{begins_of}
use Rattle.mtc_command.proofs.Served.{stopped}
use Rattle.mtc_command.proofs.Valid.{new_valid, same_valid}
use Rattle.mtc_cosigner.specs.InitOutcome.{init_says}
use Rattle.mtc_cosigner.specs.Works.{IsCosigner}
use Rattle.mtc_cosigner.proofs.Begun.{begun_so}
use Rattle.mtc_cosigner.proofs.init_cosigner.init_with.Goals as goal

pub returns-in_err-text-in-Some-clause-serves : goal.returns-in_err-text-in-Some-clause-serves
returns-in_err-text-in-Some-clause-serves g c =
    let p = err_from_is_err_and c.from_residual.result c.from_residual.ensures.1 in
    rw (p.1, p.2) (stopped g.R.Room g.R.Dsk.Disk _ _ _ _ _ _ (search rules)
    g.met.R.Dsk.Disk.only_now no_memory tt tt)

pub returns-in_err-first-in-Some-clause-serves : goal.returns-in_err-first-in-Some-clause-serves
returns-in_err-first-in-Some-clause-serves g c =
    let p = err_from_is_err_and c.from_residual-in_err-first-in-Some.result
    c.from_residual-in_err-first-in-Some.ensures.1 in
    rw (p.1, p.2) (stopped g.R.Room g.R.Dsk.Disk _ _ _ _ _ _ (search rules)
    g.met.R.Dsk.Disk.only_now no_memory tt tt)

pub returns-in_ok-first-in-Some-clause-serves : goal.returns-in_ok-first-in-Some-clause-serves
returns-in_ok-first-in-Some-clause-serves g c =
    let name = c.args.journal.now in
    let file = c.args.file.now in
    let secret = c.args.secret.now in
    let long = c.in-Some.ensures.0 in
    let same = c.in-Some.ensures.1 in
    begun_so (λ (o : Outcome). HasServed g.R.Room g.R.Dsk.Disk (name ∷ (file ∷ [])) name o
    c.args.room.now c.make_journal.new.room (ending_of c.make_journal.result))
    name file secret c.in-Some.secret (g.R.Room.file c.args.room.now name) c.args.settings.now
    (first_body c.in_ok-first-in-Some.first) c.in_ok-text-in-Some.text long same
    c.in_ok-first-in-Some.ensures.body c.in_ok-text-in-Some.ensures
    (c.make_journal.ensures.serves (name ∷ (file ∷ [])) (inl refl))

pub returns-in_err-text-in-Some-clause-valid : goal.returns-in_err-text-in-Some-clause-valid
returns-in_err-text-in-Some-clause-valid g c = λ h.
    same_valid g.R.Room g.R.Dsk.Disk (IsCosigner h) (c.args.journal.now ∷ [])
    (init_says c.args.journal.now c.args.settings.now c.args.file.now
    (g.R.Room.file c.args.room.now c.args.journal.now) c.args.secret.now) c.args.room.now
    g.met.R.Dsk.Disk.only_now

pub returns-in_err-first-in-Some-clause-valid : goal.returns-in_err-first-in-Some-clause-valid
returns-in_err-first-in-Some-clause-valid g c = λ h.
    same_valid g.R.Room g.R.Dsk.Disk (IsCosigner h) (c.args.journal.now ∷ [])
    (init_says c.args.journal.now c.args.settings.now c.args.file.now
    (g.R.Room.file c.args.room.now c.args.journal.now) c.args.secret.now) c.args.room.now
    g.met.R.Dsk.Disk.only_now

pub returns-in-None-clause-valid : goal.returns-in-None-clause-valid
returns-in-None-clause-valid g c = λ h.
    same_valid g.R.Room g.R.Dsk.Disk (IsCosigner h) (c.args.journal.now ∷ [])
    (init_says c.args.journal.now c.args.settings.now c.args.file.now
    (g.R.Room.file c.args.room.now c.args.journal.now) c.args.secret.now) c.args.room.now
    g.met.R.Dsk.Disk.only_now

pub returns-in_ok-first-in-Some-clause-valid : goal.returns-in_ok-first-in-Some-clause-valid
returns-in_ok-first-in-Some-clause-valid g c = λ h.
    let name = c.args.journal.now in
    let file = c.args.file.now in
    let secret = c.args.secret.now in
    let s = c.args.settings.now in
    let first = first_body c.in_ok-first-in-Some.first in
    let at = g.R.Room.file c.args.room.now name in
    let long = c.in-Some.ensures.0 in
    let same = c.in-Some.ensures.1 in
    let sound : IsCosigner h (first ∷ []) = subst (λ (body : Text). IsCosigner h (body ∷ []))
    (sym c.in_ok-first-in-Some.ensures.body)
    (subst IsOk (sym (c.in_ok-first-in-Some.ensures.valid h)) refl) in
    begun_so (λ (o : Outcome). KeepsValid g.R.Room g.R.Dsk.Disk (IsCosigner h) (name ∷ []) o
    c.args.room.now c.make_journal.new.room) name file secret c.in-Some.secret at s first
    c.in_ok-text-in-Some.text long same c.in_ok-first-in-Some.ensures.body
    c.in_ok-text-in-Some.ensures
    (new_valid g.R.Room g.R.Dsk.Disk (IsCosigner h) name first c.in_ok-text-in-Some.text at
    c.args.room.now c.make_journal.new.room sound)

pub returns-in_ok-first-in-Some-clause-begins : goal.returns-in_ok-first-in-Some-clause-begins
returns-in_ok-first-in-Some-clause-begins g c = begins_of g.R.Room g.R.Dsk.Disk _ _ _ _ _ _
    c.make_journal.ensures.begins
