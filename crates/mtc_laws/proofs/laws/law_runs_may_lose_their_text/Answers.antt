use Rattle.mtc_laws.proofs.RunLaws.{prefixes_are_runs}
use Rattle.mtc_laws.proofs.laws.law_runs_may_lose_their_text.Goals as goal

pub returns : goal.returns
returns g c =
    prefixes_are_runs g.H.TreeHash.hash g.R.Room g.R.Dsk.Disk g.O.Sink g.E.Sink
