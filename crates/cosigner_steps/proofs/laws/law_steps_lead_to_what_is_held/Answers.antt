use Rattle.cosigner_steps.proofs.Holding.{held_at_last}
use Rattle.cosigner_steps.proofs.laws.law_steps_lead_to_what_is_held.Goals as goal

pub returns : goal.returns
returns c = held_at_last
