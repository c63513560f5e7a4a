use Rattle.file_events.proofs.Histories.{executions_are_histories, histories_continue}
use Rattle.file_events.proofs.laws.law_executions_are_histories.Goals as goal

pub returns-clause-on : goal.returns-clause-on
returns-clause-on g c =
    histories_continue g.D.Disk.may_leave g.J.JournalRules.valid g.J.JournalRules.reaches

pub returns-clause-begins : goal.returns-clause-begins
returns-clause-begins g c =
    executions_are_histories g.D.Disk.may_leave g.J.JournalRules.valid g.J.JournalRules.reaches
