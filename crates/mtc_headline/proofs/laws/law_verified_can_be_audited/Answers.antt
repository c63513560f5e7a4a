use Rattle.mtc_headline.proofs.Judged.{verified_audited}
use Rattle.mtc_headline.proofs.laws.law_verified_can_be_audited.Goals as goal

pub returns : goal.returns
returns g c = verified_audited g.H.TreeHash.hash g.R.Room g.R.Dsk.Disk g.O.Sink g.E.Sink
