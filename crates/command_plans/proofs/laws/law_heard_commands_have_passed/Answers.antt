use Rattle.command_plans.proofs.Facts.{heard_passed}
use Rattle.command_plans.proofs.laws.law_heard_commands_have_passed.Goals as goal

pub returns : goal.returns
returns g c = heard_passed g.K.JournalKinds.kinds
