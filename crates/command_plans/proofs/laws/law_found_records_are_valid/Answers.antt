use Rattle.command_plans.proofs.Facts.{found_valid}
use Rattle.command_plans.proofs.laws.law_found_records_are_valid.Goals as goal

pub returns : goal.returns
returns g c = found_valid g.K.JournalKinds.kinds
