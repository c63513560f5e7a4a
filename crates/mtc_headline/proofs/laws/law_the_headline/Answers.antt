use Rattle.mtc_headline.proofs.Follows.{headline_follows}
use Rattle.mtc_top.specs.Executions.{program}
use Rattle.mtc_headline.proofs.laws.law_the_headline.Goals as goal

pub returns : goal.returns
returns g c = headline_follows g.H.TreeHash.hash
    (program g.H.TreeHash.hash g.R.Room g.R.Dsk.Disk g.O.Sink g.E.Sink)
    c.law_the_whole_promise.ensures c.law_printed_is_recorded.ensures
    c.law_verified_can_be_audited.ensures c.law_held_is_read.ensures
    c.law_one_key_signs_one_text.ensures c.law_good_runs_answer.ensures
