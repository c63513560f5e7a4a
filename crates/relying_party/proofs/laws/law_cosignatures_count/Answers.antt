use Rattle.policy_core.proofs.Sets.{signed_counts}
use Rattle.relying_party.proofs.laws.law_cosignatures_count.Goals as goal

pub returns : goal.returns
returns c = signed_counts
