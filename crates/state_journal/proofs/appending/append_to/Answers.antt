use Rattle.std.proofs.Common.{ℕ, ◌+◌, ◌-◌, Result, ap, arith, length, subst}
use Rattle.std.proofs.lemmas.Bool.{ltb-false}
use Rattle.byte_formats.proofs.Values.{err_is}
use Rattle.journal_core.specs.Format.{most_bytes}
use Rattle.journal_core.specs.Words.{end_of, is_broken}
use Rattle.journal_core.specs.declared.error.AppendError.{AppendError}
use Rattle.state_journal.specs.Machines.{HasTakenAppended}
use Rattle.state_journal.proofs.Answered.{answered_so}
use Rattle.state_journal.proofs.Appended.{has_appended, made_next, made_still, not_appended}
use Rattle.state_journal.proofs.Appended.{records_stay}
use Rattle.state_journal.proofs.Refusals.{on_err}
use Rattle.state_journal.proofs.appending.append_to.Goals as goal

pub returns-in_err-append-clause-made : goal.returns-in_err-append-clause-made
returns-in_err-append-clause-made g c =
    made_still g.M.StateMachine c.args.journal.now c.append.new.self c.args.machine.now
    c.args.body.now c.in_err-append.field-0.0 c.in_err-append.ensures c.requires.made

pub returns-in_err-append-clause-appends : goal.returns-in_err-append-clause-appends
returns-in_err-append-clause-appends g c = λ next is.
    subst (λ (r : Result (Unit {0}) AppendError). HasTakenAppended g.M.StateMachine
    c.args.body.now c.args.journal.now c.args.machine.now c.append.new.self c.args.machine.now r
    next)
    (err_is c.from_residual.result c.in_err-append.field-0.0 c.from_residual.ensures.1)
    (not_appended g.M.StateMachine c.args.journal.now c.append.new.self c.args.machine.now
    c.args.body.now c.in_err-append.field-0.0 next c.in_err-append.ensures)

pub returns-in_err-append-clause-records : goal.returns-in_err-append-clause-records
returns-in_err-append-clause-records g c =
    on_err c.from_residual.result _ (records_stay g.M.StateMachine c.args.journal.now
    c.append.new.self c.args.machine.now c.args.body.now c.in_err-append.field-0.0
    c.in_err-append.ensures c.requires.made)

-- the file doesn't pass 2^33 bytes with the record
pub take-requires-clause-fits : goal.take-requires-clause-fits
take-requires-clause-fits g c =
    let end = end_of c.args.journal.now + 5 + length c.args.body.now in
    let answer = answered_so (is_broken c.args.journal.now) most_bytes end _
    c.in_ok-append.ensures.broken c.in_ok-append.ensures.full in
    omega (arith, c.end-place.ensures, ltb-false most_bytes end answer.1)

pub returns-clause-made : goal.returns-clause-made
returns-clause-made g c =
    made_next g.M.StateMachine c.args.journal.now c.append.new.self c.args.machine.now
    c.take.new.self (c.end-place.result - 1) c.args.body.now
    (ap (λ (n : ℕ). n - 1) c.end-place.ensures) c.in_ok-append.ensures c.in-Ok.ensures.takes
    c.in-Ok.ensures.within c.requires.made

pub returns-clause-appends : goal.returns-clause-appends
returns-clause-appends g c = λ next is.
    has_appended g.M.StateMachine c.args.journal.now c.append.new.self c.args.machine.now
    c.take.new.self (c.end-place.result - 1) c.args.body.now next c.in_ok-append.ensures
    c.in-Ok.ensures.takes is

pub returns-clause-rest : goal.returns-clause-rest
returns-clause-rest g c = c.take.ensures.still c.requires.capacity
