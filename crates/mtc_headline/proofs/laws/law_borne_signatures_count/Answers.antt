use Rattle.mtc_headline.proofs.Borne.{borne_count}
use Rattle.mtc_top.specs.Executions.{program}
use Rattle.mtc_headline.proofs.laws.law_borne_signatures_count.Goals as goal

pub returns : goal.returns
returns g c = borne_count g.H.TreeHash.hash
    (program g.H.TreeHash.hash g.R.Room g.R.Dsk.Disk g.O.Sink g.E.Sink)
    c.law_printed_signatures_count.ensures
