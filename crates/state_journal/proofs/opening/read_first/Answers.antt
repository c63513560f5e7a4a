use Rattle.std.proofs.Common.{ap, subst, sym, ◌∙◌, Ok, Err}
use Rattle.journal_core.specs.Openings.{opening_disk, Nexts}
use Rattle.journal_core.proofs.FoldSteps.{cause_first, missing_first}
use Rattle.state_journal.specs.Causes.{HasReadOn, IsLeftAt}
use Rattle.state_journal.specs.Machines.{fold_of}
use Rattle.state_journal.specs.declared.error.StateOpenError.{StateOpenError}
use Rattle.state_journal.specs.declared.error.StateOpenError.TheVariants.{BadRecord, Open}
use Rattle.state_journal.proofs.Refusals.{left_at, misread, stepped, stopped}
use Rattle.state_journal.proofs.Taken.{cause_begun, taken_first}
use Rattle.state_journal.proofs.opening.read_first.Goals as goal

pub returns-in-Ok-clause-taken : goal.returns-in-Ok-clause-taken
returns-in-Ok-clause-taken g c =
    let old = c.args.opening.now in
    let new = c.next.follows.lender-at-none in
    let read = subst (Nexts old new) (c.in-Ok-Some.is
    ∙ ap Ok c.in-Ok-Some.field-0-is) c.next.follows.holds-at-none in
    taken_first g.M.StateMachine old new c.in-Ok-Some.body.now read.0 read.1 c.in-Ok.machine
    c.requires.list c.requires.place c.in-Ok.ensures.begins c.in-Ok.ensures.within

pub returns-in-Ok-clause-read : goal.returns-in-Ok-clause-read
returns-in-Ok-clause-read g c =
    let old = c.args.opening.now in
    let new = c.next.follows.lender-at-none in
    let read = subst (Nexts old new) (c.in-Ok-Some.is
    ∙ ap Ok c.in-Ok-Some.field-0-is) c.next.follows.holds-at-none in
    stepped (fold_of g.M.StateMachine) old new _ _ read.2

pub returns-in-Err-begin-clause-read : goal.returns-in-Err-begin-clause-read
returns-in-Err-begin-clause-read g c =
    let old = c.args.opening.now in
    let new = c.next.follows.lender-at-none in
    let read = subst (Nexts old new) (c.in-Ok-Some.is
    ∙ ap Ok c.in-Ok-Some.field-0-is) c.next.follows.holds-at-none in
    subst (λ (why : StateOpenError). HasReadOn g.D.Disk (fold_of g.M.StateMachine)
    (opening_disk old) (opening_disk new) (Err why)) (sym c.refusal_at.ensures)
    (misread (fold_of g.M.StateMachine) old new _ _ read.2
    (cause_begun g.M.StateMachine old new c.in-Ok-Some.body.now read.0 read.1 read.2.only_reads
    c.in-Err-begin.field-0.why c.requires.list c.in-Err-begin.ensures.begins))

pub returns-in-Ok-None-clause-read : goal.returns-in-Ok-None-clause-read
returns-in-Ok-None-clause-read g c =
    let old = c.args.opening.now in
    let new = c.next.follows.lender-at-none in
    let ended = subst (Nexts old new) (c.in-Ok-None.is
    ∙ ap Ok c.in-Ok-None.field-0-is) c.next.follows.holds-at-none in
    misread (fold_of g.M.StateMachine) old new _ _ ended.1
    (missing_first (fold_of g.M.StateMachine) old new ended.0 ended.1.only_reads c.requires.list)

pub returns-in-Err-clause-read : goal.returns-in-Err-clause-read
returns-in-Err-clause-read g c =
    let old = c.args.opening.now in
    let new = c.next.follows.lender-at-none in
    let refused = subst (Nexts old new) c.in-Err.is c.next.follows.holds-at-none in
    stopped (fold_of g.M.StateMachine) old new c.in-Err.why refused.1
    (cause_first (fold_of g.M.StateMachine) old new c.in-Err.why c.requires.list
    c.requires.continues.1 refused.1)

pub returns-in-Ok-clause-rest : goal.returns-in-Ok-clause-rest
returns-in-Ok-clause-rest g c = c.in-Ok.ensures.rest

pub returns-in-Err-begin-clause-rest : goal.returns-in-Err-begin-clause-rest
returns-in-Err-begin-clause-rest g c = λ was is.
    let m = g.M.StateMachine in
    let e = c.in-Err-begin.field-0 in
    subst (IsLeftAt m.Becomes m.Stops was e.rest) (sym c.refusal_at.ensures)
    (left_at m.Becomes m.Stops was e.rest (g.met.M.StateMachine.becomes_stops was e.rest) 0 e.why
    (c.in-Err-begin.ensures.rest was is))

pub returns-in-Ok-None-clause-rest : goal.returns-in-Ok-None-clause-rest
returns-in-Ok-None-clause-rest g c = λ was is.
    let m = g.M.StateMachine in
    subst (λ rest. IsLeftAt m.Becomes m.Stops was rest (BadRecord 0)) (sym c.return_rest.ensures)
    (g.met.M.StateMachine.becomes_stops was (m.rest_of c.args.seed) is, λ other. is)

pub returns-in-Err-clause-rest : goal.returns-in-Err-clause-rest
returns-in-Err-clause-rest g c = λ was is.
    let m = g.M.StateMachine in
    subst (λ rest. IsLeftAt m.Becomes m.Stops was rest (Open c.in-Err.why))
    (sym c.return_rest-in-Err.ensures)
    (g.met.M.StateMachine.becomes_stops was (m.rest_of c.args.seed) is, λ other. is)
