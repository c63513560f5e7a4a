use Rattle.mtc_laws.proofs.KilledRuns.{journals_die, logs_die}
use Rattle.mtc_laws.proofs.killed.law_killed_runs_have_died.Goals as goal

pub returns-clause-journals : goal.returns-clause-journals
returns-clause-journals g c =
    journals_die g.H.TreeHash.hash g.O.Sink g.E.Sink c.law_runs_may_be_killed.ensures.journals

pub returns-clause-logs : goal.returns-clause-logs
returns-clause-logs g c =
    logs_die g.H.TreeHash.hash g.O.Sink g.E.Sink c.law_runs_may_be_killed.ensures.logs
