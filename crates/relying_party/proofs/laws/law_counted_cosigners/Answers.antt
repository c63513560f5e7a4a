use Rattle.policy_core.proofs.Sets.{set_has, none_unnamed, signed_as_encoded}
use Rattle.relying_party.proofs.laws.law_counted_cosigners.Goals as goal

pub returns : goal.returns
returns c = record { set = set_has; none = none_unnamed; signed = signed_as_encoded }
