use Rattle.std.proofs.Common.{rules}
use Rattle.policy_core.specs.Judgement.{judged}
use Rattle.relying_party.proofs.judging.judge_cert.Goals as goal

pub returns-in_err-proof : goal.returns-in_err-proof
unfolding judged
returns-in_err-proof g c = search rules

pub returns-in_err-hash : goal.returns-in_err-hash
unfolding judged
returns-in_err-hash g c = search rules

pub returns : goal.returns
unfolding judged
returns g c = search rules
