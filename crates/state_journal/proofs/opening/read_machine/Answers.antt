use Rattle.std.proofs.Common.{subst, sym}
use Rattle.journal_core.specs.Openings.{opening_disk}
use Rattle.state_journal.specs.Causes.{IsLeftAt}
use Rattle.state_journal.specs.Machines.{fold_of}
use Rattle.state_journal.proofs.Refusals.{after_err, after_ok}
use Rattle.state_journal.proofs.opening.read_machine.Goals as goal

pub returns-in-Ok-read_rest-clause-read : goal.returns-in-Ok-read_rest-clause-read
returns-in-Ok-read_rest-clause-read g c =
    let first = c.in-Ok.ensures.read in
    after_ok g.D.Disk (fold_of g.M.StateMachine) (opening_disk c.args.opening.now)
    (opening_disk c.read_first.new.opening) (opening_disk c.read_rest.new.opening)
    first.only_reads first.fine tt _ c.in-Ok-read_rest.ensures.read

pub returns-in-Err-read_rest-clause-read : goal.returns-in-Err-read_rest-clause-read
returns-in-Err-read_rest-clause-read g c =
    let first = c.in-Ok.ensures.read in
    after_err g.D.Disk (fold_of g.M.StateMachine) (opening_disk c.args.opening.now)
    (opening_disk c.read_first.new.opening) (opening_disk c.read_rest.new.opening)
    first.only_reads first.fine c.in-Err-read_rest.why c.in-Err-read_rest.ensures.read

pub returns-in-Ok-read_rest-clause-rest : goal.returns-in-Ok-read_rest-clause-rest
returns-in-Ok-read_rest-clause-rest g c = λ was is.
    c.in-Ok-read_rest.ensures.rest was (c.in-Ok.ensures.rest was is)

pub returns-in-Err-read_rest-clause-rest : goal.returns-in-Err-read_rest-clause-rest
returns-in-Err-read_rest-clause-rest g c = λ was is.
    let m = g.M.StateMachine in
    subst (λ rest. IsLeftAt m.Becomes m.Stops was rest c.in-Err-read_rest.why)
    (sym c.into_rest.ensures)
    (c.in-Err-read_rest.ensures.rest was (c.in-Ok.ensures.rest was is))
