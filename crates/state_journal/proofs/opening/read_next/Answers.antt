use Rattle.std.proofs.Common.{ap, subst, sym, ◌∙◌, Ok, Err, arith, length}
use Rattle.journal_core.specs.Openings.{opening_disk, Nexts}
use Rattle.journal_core.proofs.FoldSteps.{cause_next}
use Rattle.state_journal.specs.Causes.{HasReadOn, IsLeftAt}
use Rattle.state_journal.specs.Machines.{fold_of}
use Rattle.state_journal.specs.declared.error.StateOpenError.{StateOpenError}
use Rattle.state_journal.proofs.Refusals.{left_at, misread, stepped, stopped}
use Rattle.state_journal.proofs.Taken.{cause_taken, taken_all, taken_next}
use Rattle.state_journal.proofs.opening.read_next.Goals as goal

-- the record is not so far that eight bytes don't hold the offset after it
pub take-requires-clause-fits : goal.take-requires-clause-fits
take-requires-clause-fits g c =
    let old = c.args.opening.now in
    let new = c.next.follows.lender-at-none in
    let read = subst (Nexts old new) (c.in-Ok-Some.is
    ∙ ap Ok c.in-Ok-Some.field-0-is) c.next.follows.holds-at-none in
    omega (arith, read.1.few, ap length read.0)

pub returns-in-Ok-clause-more : goal.returns-in-Ok-clause-more
returns-in-Ok-clause-more g c =
    let old = c.args.opening.now in
    let new = c.next.follows.lender-at-none in
    let read = subst (Nexts old new) (c.in-Ok-Some.is
    ∙ ap Ok c.in-Ok-Some.field-0-is) c.next.follows.holds-at-none in
    taken_next g.M.StateMachine old new c.in-Ok-Some.body.now read.0 read.1 c.args.machine.now
    c.take.new.self c.place-place.result c.place-place.ensures.value c.requires
    c.in-Ok.ensures.takes c.in-Ok.ensures.within

pub returns-in-Ok-clause-read : goal.returns-in-Ok-clause-read
returns-in-Ok-clause-read g c =
    let old = c.args.opening.now in
    let new = c.next.follows.lender-at-none in
    let read = subst (Nexts old new) (c.in-Ok-Some.is
    ∙ ap Ok c.in-Ok-Some.field-0-is) c.next.follows.holds-at-none in
    stepped (fold_of g.M.StateMachine) old new _ _ read.2

pub returns-in-Err-take-clause-read : goal.returns-in-Err-take-clause-read
returns-in-Err-take-clause-read g c =
    let old = c.args.opening.now in
    let new = c.next.follows.lender-at-none in
    let read = subst (Nexts old new) (c.in-Ok-Some.is
    ∙ ap Ok c.in-Ok-Some.field-0-is) c.next.follows.holds-at-none in
    subst (λ (why : StateOpenError). HasReadOn g.D.Disk (fold_of g.M.StateMachine)
    (opening_disk old) (opening_disk new) (Err why)) (sym c.refusal_at.ensures)
    (misread (fold_of g.M.StateMachine) old new _ _ read.2
    (cause_taken g.M.StateMachine old new c.in-Ok-Some.body.now read.0 read.1 read.2.only_reads
    c.args.machine.now c.read_count-number.result c.in-Err-take.why c.read_count-number.ensures
    c.requires.folded c.in-Err-take.ensures.takes))

pub returns-in-Ok-None-clause-more : goal.returns-in-Ok-None-clause-more
returns-in-Ok-None-clause-more g c =
    let old = c.args.opening.now in
    let new = c.next.follows.lender-at-none in
    let ended = subst (Nexts old new) (c.in-Ok-None.is
    ∙ ap Ok c.in-Ok-None.field-0-is) c.next.follows.holds-at-none in
    taken_all g.M.StateMachine old new c.args.machine.now ended.0 ended.1.only_reads c.requires

pub returns-in-Ok-None-clause-read : goal.returns-in-Ok-None-clause-read
returns-in-Ok-None-clause-read g c =
    let old = c.args.opening.now in
    let new = c.next.follows.lender-at-none in
    let ended = subst (Nexts old new) (c.in-Ok-None.is
    ∙ ap Ok c.in-Ok-None.field-0-is) c.next.follows.holds-at-none in
    stepped (fold_of g.M.StateMachine) old new _ _ ended.1

pub returns-in-Err-clause-read : goal.returns-in-Err-clause-read
returns-in-Err-clause-read g c =
    let old = c.args.opening.now in
    let new = c.next.follows.lender-at-none in
    let refused = subst (Nexts old new) c.in-Err.is c.next.follows.holds-at-none in
    stopped (fold_of g.M.StateMachine) old new c.in-Err.why refused.1
    (cause_next (fold_of g.M.StateMachine) old new (g.M.StateMachine.state c.args.machine.now)
    c.in-Err.why c.requires.folded refused.1)

pub returns-in-Ok-clause-rest : goal.returns-in-Ok-clause-rest
returns-in-Ok-clause-rest g c = c.in-Ok.ensures.rest

pub returns-in-Err-take-clause-rest : goal.returns-in-Err-take-clause-rest
returns-in-Err-take-clause-rest g c = λ was is.
    let m = g.M.StateMachine in
    let rest = m.rest c.take.new.self in
    subst (IsLeftAt m.Becomes m.Stops was rest) (sym c.refusal_at.ensures)
    (left_at m.Becomes m.Stops was rest (g.met.M.StateMachine.becomes_stops was rest)
    c.read_count-number.result c.in-Err-take.why (c.in-Err-take.ensures.rest was is))

pub returns-in-Ok-None-clause-rest : goal.returns-in-Ok-None-clause-rest
returns-in-Ok-None-clause-rest g c = λ was is. is

pub returns-in-Err-clause-rest : goal.returns-in-Err-clause-rest
returns-in-Err-clause-rest g c = λ was is.
    (g.met.M.StateMachine.becomes_stops was _ is, λ other. is)
