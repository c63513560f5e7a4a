use Rattle.quarrel_core.specs.Conflicts.{quarrel_of}
use Rattle.mtc_relying.proofs.Audited.{modelled_meets}
use Rattle.mtc_relying.proofs.Quarrels.{quarrel_meets}
use Rattle.mtc_relying.specs.QuarrelOutcome.{quarrel_by}
use Rattle.mtc_relying.specs.Views.{quarrel_reply}
use Rattle.mtc_relying.proofs.quarrel.found.Goals as goal

pub returns : goal.returns
returns g c =
    let h = g.H.TreeHash.hash in
    let steps = c.args.kept.now.steps in
    let is = c.in_ok-found.ensures in
    let reply = quarrel_reply c.in_ok-found.found in
    modelled_meets (quarrel_by h steps (quarrel_of steps)).answer reply c.answer_to.result
    (quarrel_meets h steps c.in_ok-found.found is) c.answer_to.ensures
