use Rattle.file_events.proofs.Owners.{executions_agree}
use Rattle.file_events.proofs.laws.law_mirrors_agree.Goals as goal

pub returns : goal.returns
returns g c = executions_agree g.P.Programs.program g.M.JournalRules.agrees
    g.M.JournalRules.computed g.M.JournalRules.neutral g.M.JournalRules.valid
    g.C.JournalRules.valid
