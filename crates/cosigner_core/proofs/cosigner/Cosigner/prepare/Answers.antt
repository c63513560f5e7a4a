use Rattle.std.proofs.Common.{◌<◌, subst, sym}
use Rattle.hss_keys.specs.Keys.{SigningState, most_children}
use Rattle.cosigner_core.specs.Words.{cosigner_state}
use Rattle.cosigner_core.proofs.Children.{needs_tree}
use Rattle.cosigner_core.proofs.cosigner.Cosigner.prepare.Goals as goal

pub prepare-requires : goal.prepare-requires
prepare-requires g c =
    let needs = needs_tree (cosigner_state c.args.self.now) c.test_child.ensures.counts
    c.in_ok-test_child.ensures.tests.0 in
    subst (λ (k : SigningState). k.children < most_children k.key.top.lms k.key.low)
    (sym c.args.self.now.same) needs.room
