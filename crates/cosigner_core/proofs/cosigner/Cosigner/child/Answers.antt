use Rattle.std.proofs.Common.{◌≡◌, ◌<◌, IfSome, subst, sym}
use Rattle.hss_keys.specs.Keys.{SigningState, keys_there, lower_key, most_children}
use Rattle.cosigner_core.specs.Keyless.{keyless_owner}
use Rattle.cosigner_core.specs.Words.{cosigner_state}
use Rattle.cosigner_core.proofs.Children.{child_valid, needs_tree}
use Rattle.cosigner_core.proofs.Keeps.{made_of}
use Rattle.cosigner_core.proofs.cosigner.Cosigner.child.Goals as goal

pub returns-in_err-lower-clause-valid : goal.returns-in_err-lower-clause-valid
returns-in_err-lower-clause-valid g c =
    let it = c.args.self.now.keyless in
    let old = keyless_owner it in
    child_valid g.H.TreeHash.hash old.state c.prepare.ensures.counts old.records _
    (made_of g.H.TreeHash.hash old.state it.journal it.is_durable)

pub adopt-requires-clause-room : goal.adopt-requires-clause-room
adopt-requires-clause-room g c =
    let needs = needs_tree (cosigner_state c.args.self.now) c.prepare.ensures.counts
    c.in_ok-lower.ensures.prepares.0 in
    subst (λ (k : SigningState). k.children < most_children k.key.top.lms k.key.low)
    (sym c.args.self.now.same) needs.room

pub adopt-requires-clause-used : goal.adopt-requires-clause-used
adopt-requires-clause-used g c =
    let needs = needs_tree (cosigner_state c.args.self.now) c.prepare.ensures.counts
    c.in_ok-lower.ensures.prepares.0 in
    subst (λ (k : SigningState). k.next ≡ keys_there k.key.top.lms k.key.low k.children)
    (sym c.args.self.now.same) needs.used

pub adopt-requires-clause-prepared : goal.adopt-requires-clause-prepared
adopt-requires-clause-prepared g c =
    subst (λ (k : SigningState). IfSome k.key.low
    (λ low. c.in_ok-lower.lower ≡ lower_key k.key.top low k.children))
    (sym c.args.self.now.same) c.in_ok-lower.ensures.prepares.1
