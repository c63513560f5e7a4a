use Rattle.std.proofs.Common.{◌≡◌, Some, refl, sym, ◌∙◌, subst}
use Rattle.hss_keys.specs.Keys.{signing_state}
use Rattle.cosigner_core.specs.Folds.{CosignerState, next_state, with_progress}
use Rattle.cosigner_core.specs.Views.{step_said}
use Rattle.cosigner_core.proofs.Taken.{shows_progress, takes_on}
use Rattle.cosigner_core.proofs.contents.Contents.take.Goals as goal

pub invariant_of-self : goal.invariant_of-self
invariant_of-self g c =
    let i = c.self.inside in
    let s : CosignerState = record {
      id = i.settings.id;
      log = i.settings.log;
      held = i.progress.held;
      key = signing_state i.settings.lms i.settings.low i.settings.ots i.secret i.progress.children
          i.progress.next;
    } in
    (takes_on g.H.TreeHash.hash s c.terms.result i.progress c.in-Some.progress c.args.body.now
    (step_said c.in_ok-step.step) c.self.invariant.counts
    (shows_progress s i.progress refl c.self.invariant.shown) c.terms.ensures
    c.in_ok-step.ensures.found (sym c.after.ensures ∙ c.in-Some.is)).key

pub returns-in-Some-clause-takes : goal.returns-in-Some-clause-takes
returns-in-Some-clause-takes g c =
    let i = c.self.inside in
    let s : CosignerState = record {
      id = i.settings.id;
      log = i.settings.log;
      held = i.progress.held;
      key = signing_state i.settings.lms i.settings.low i.settings.ots i.secret i.progress.children
          i.progress.next;
    } in
    let P : CosignerState → Type 0 = λ t. next_state g.H.TreeHash.hash t c.args.body.now
    ≡ Some (with_progress s c.in-Some.progress) in
    subst P c.self.view_is
    (takes_on g.H.TreeHash.hash s c.terms.result i.progress c.in-Some.progress c.args.body.now
    (step_said c.in_ok-step.step) c.self.invariant.counts
    (shows_progress s i.progress refl c.self.invariant.shown) c.terms.ensures
    c.in_ok-step.ensures.found (sym c.after.ensures ∙ c.in-Some.is)).next
