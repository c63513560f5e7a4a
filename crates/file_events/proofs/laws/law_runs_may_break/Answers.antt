use Rattle.file_events.proofs.Owners.{journal_breaks, log_runs_break, mirror_runs_break}
use Rattle.file_events.proofs.laws.law_runs_may_break.Goals as goal

pub returns-clause-journal : goal.returns-clause-journal
returns-clause-journal g c = journal_breaks g.P.Programs.program g.J.JournalRules.valid

pub returns-clause-log : goal.returns-clause-log
returns-clause-log g c = λ name tiles.
    log_runs_break g.P.Programs.program g.J.JournalRules.goes g.J.JournalRules.plain
    g.J.JournalRules.valid name tiles g.P.Programs.how_of

pub returns-clause-mirror : goal.returns-clause-mirror
returns-clause-mirror g c = mirror_runs_break g.P.Programs.program g.J.JournalRules.agrees
    g.J.JournalRules.computed g.J.JournalRules.neutral g.J.JournalRules.valid
    g.C.JournalRules.valid
