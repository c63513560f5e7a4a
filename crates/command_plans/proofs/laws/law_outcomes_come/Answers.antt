use Rattle.command_plans.proofs.Coming.{outcomes_come}
use Rattle.command_plans.proofs.laws.law_outcomes_come.Goals as goal

pub returns : goal.returns
returns g c = outcomes_come g.K.JournalKinds.kinds
