use Rattle.file_events.proofs.Owners.{executions_hold, journal_executions, runs_are_events}
use Rattle.file_events.proofs.laws.law_executions_are_of_owners.Goals as goal

pub returns-clause-executions : goal.returns-clause-executions
returns-clause-executions g c = journal_executions g.P.Programs.program g.J.JournalRules.valid

pub returns-clause-hold : goal.returns-clause-hold
returns-clause-hold g c = executions_hold g.P.Programs.program g.J.JournalRules.valid

pub returns-clause-events : goal.returns-clause-events
returns-clause-events g c = runs_are_events g.P.Programs.program g.J.JournalRules.valid
