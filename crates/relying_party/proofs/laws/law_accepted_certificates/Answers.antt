use Rattle.policy_core.proofs.Judgements.{accepted_only, accepted_again, by_accepted}
use Rattle.relying_party.proofs.laws.law_accepted_certificates.Goals as goal

pub returns : goal.returns
returns c = record { only = accepted_only; again = accepted_again; ways = by_accepted }
