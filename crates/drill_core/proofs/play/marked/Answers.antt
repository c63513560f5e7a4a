use Rattle.std.proofs.Common.{◌∙◌, subst}
use Rattle.issuance_log.specs.Folds.{LogState}
use Rattle.drill_core.specs.LightStores.{IsDue}
use Rattle.drill_core.proofs.play.marked.Goals as goal

pub returns-clause-log : goal.returns-clause-log
returns-clause-log g c = c.in_ok-count.ensures.same.shown ∙ c.in_ok-log.ensures.state

pub returns-clause-stops : goal.returns-clause-stops
returns-clause-stops g c = c.in_ok-count.ensures.same.stops ∙ c.in_ok-log.ensures.stops

pub returns-clause-accepted : goal.returns-clause-accepted
returns-clause-accepted g c = λ due. c.in_ok-count.ensures.accepted
    (subst (λ (l : LogState). IsDue g.H.TreeHash.hash l) c.in_ok-count.ensures.same.shown due)
