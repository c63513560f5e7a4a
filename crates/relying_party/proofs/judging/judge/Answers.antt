use Rattle.std.proofs.Common.{rules}
use Rattle.policy_core.specs.Judgement.{judgement}
use Rattle.relying_party.proofs.judging.judge.Goals as goal

pub returns : goal.returns
unfolding judgement
returns g c = search rules
