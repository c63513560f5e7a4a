use Rattle.mtc_plans.proofs.Planned.{outcome_planned}
use Rattle.mtc_plans.proofs.laws.law_commands_have_plans.Goals as goal

pub returns : goal.returns
returns c = outcome_planned
