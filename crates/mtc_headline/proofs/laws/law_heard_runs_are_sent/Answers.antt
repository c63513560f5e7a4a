use Rattle.mtc_headline.proofs.Sent.{heard_sent}
use Rattle.mtc_headline.proofs.laws.law_heard_runs_are_sent.Goals as goal

pub returns : goal.returns
returns c = heard_sent
