use Rattle.world_core.proofs.Premises.{was_judged}
use Rattle.world_core.proofs.laws.law_what_is_read_can_be_audited.Goals as goal

pub returns : goal.returns
returns c = was_judged
