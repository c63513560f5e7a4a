use Rattle.mtc_headline.proofs.Judged.{good_answer}
use Rattle.mtc_headline.proofs.laws.law_good_runs_answer.Goals as goal

pub returns : goal.returns
returns g c = good_answer g.H.TreeHash.hash g.R.Room g.R.Dsk.Disk g.O.Sink g.E.Sink
