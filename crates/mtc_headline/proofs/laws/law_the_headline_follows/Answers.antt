use Rattle.mtc_headline.proofs.Follows.{headline_follows}
use Rattle.mtc_headline.proofs.laws.law_the_headline_follows.Goals as goal

pub returns : goal.returns
returns g c = headline_follows g.H.TreeHash.hash g.P.Programs.program
