use Rattle.std.proofs.Common.{Result, refl, subst, ◌∙◌}
use Rattle.std.specs.Prelude.{MatchResult}
use Rattle.byte_formats.proofs.Values.{err_is}
use Rattle.disk_core.proofs.Times.{nothing_read, only_read_on}
use Rattle.journal_core.specs.Openings.{opening_disk}
use Rattle.state_journal.specs.Causes.{HasReadOn, IsLeftAt}
use Rattle.state_journal.specs.Machines.{fold_of}
use Rattle.state_journal.specs.declared.error.StateOpenError.{StateOpenError}
use Rattle.state_journal.proofs.Refusals.{after_err, after_ok}
use Rattle.state_journal.proofs.opening.read_rest.Goals as goal

pub records-init : goal.records-init
records-init g c = record {
  taken = c.requires;
  rest = λ was is. is;
  only_reads = nothing_read g.D.Disk _ (g.met.D.Disk.only_now _);
  fine = refl;
}

pub records-preserved : goal.records-preserved
records-preserved g c =
    let so_far = c.records.invariant in
    record {
      taken = rw c.if-not-branch.false at c.in_ok-read_next.ensures.more;
      rest = λ was is. c.in_ok-read_next.ensures.rest was (so_far.rest was is);
      only_reads = only_read_on g.D.Disk _ _ _ so_far.only_reads
          c.in_ok-read_next.ensures.read.only_reads;
      fine = c.in_ok-read_next.ensures.read.fine ∙ so_far.fine;
    }

pub returns-in_err-read_next-clause-rest : goal.returns-in_err-read_next-clause-rest
returns-in_err-read_next-clause-rest g c = λ was is.
    let m = g.M.StateMachine in
    let rest = m.rest c.read_next.new.machine in
    subst (λ (r : Result (Unit {0}) StateOpenError). MatchResult r (λ _. m.Becomes was rest)
    (λ why. IsLeftAt m.Becomes m.Stops was rest why))
    (err_is c.from_residual.result c.in_err-read_next.field-0.0 c.from_residual.ensures.1)
    (c.in_err-read_next.ensures.rest was (c.records.invariant.rest was is))

pub returns-then-not-branch-clause-rest : goal.returns-then-not-branch-clause-rest
returns-then-not-branch-clause-rest g c = λ was is.
    c.in_ok-read_next.ensures.rest was (c.records.invariant.rest was is)

pub returns-in_err-read_next-clause-read : goal.returns-in_err-read_next-clause-read
returns-in_err-read_next-clause-read g c =
    let old = opening_disk c.args.opening.now in
    let new = opening_disk c.read_next.new.opening in
    subst (HasReadOn g.D.Disk (fold_of g.M.StateMachine) old new)
    (err_is c.from_residual.result c.in_err-read_next.field-0.0 c.from_residual.ensures.1)
    (after_err g.D.Disk (fold_of g.M.StateMachine) old (opening_disk c.records.opening) new
    c.records.invariant.only_reads c.records.invariant.fine c.in_err-read_next.field-0.0
    c.in_err-read_next.ensures.read)

pub returns-then-not-branch-clause-read : goal.returns-then-not-branch-clause-read
returns-then-not-branch-clause-read g c =
    after_ok g.D.Disk (fold_of g.M.StateMachine) (opening_disk c.args.opening.now)
    (opening_disk c.records.opening) (opening_disk c.read_next.new.opening)
    c.records.invariant.only_reads c.records.invariant.fine _ tt c.in_ok-read_next.ensures.read
