use Rattle.std.proofs.Common.{refl, sym, ◌∙◌}
use Rattle.cert_fields.specs.Views.{parts}
use Rattle.mtc_proof.specs.Views.{proof_parts}
use Rattle.std.proofs.Common.{Some}
use Rattle.world_core.proofs.Decided.{own_inside, same_interval, sign_decides}
use Rattle.world_core.proofs.by_cosigners.by_sign.Goals as goal

pub is_own-requires : goal.is_own-requires
is_own-requires g c =
    own_inside g.H.TreeHash.hash c.args.items.now.entries c.args.kept.now.steps c.args.place
    c.args.accepted.now _ _ c.requires.path c.requires.allowed c.requires.within c.requires.sign
    c.requires.whole

pub decide-requires-clause-interval : goal.decide-requires-clause-interval
decide-requires-clause-interval g c =
    same_interval g.H.TreeHash.hash c.args.items.now c.args.accepted.now c.args.kept.now.steps
    c.as_slice-steps.result.now c.args.place c.index-steps-place.result
    c.entries.result _ _ c.in_ok-find_signed.field-0 c.requires.allowed
    c.requires.within c.requires.sign c.requires.whole c.as_slice-steps.ensures
    c.index-steps-place.is c.entries.ensures c.in-Same.is (c.in_ok-find_signed.ensures {u = tt})

pub returns-in-Pair : goal.returns-in-Pair
returns-in-Pair g c =
    sign_decides g.H.TreeHash.hash (record {
      accepted = c.args.accepted.now;
      cert = parts c.args.cert.now;
      proof = proof_parts c.args.proof.now;
      store = c.args.store.now;
      items = c.args.items.now;
      kept = Some c.args.kept.now;
    }) c.args.kept.now c.entries.result c.as_slice-steps.result.now c.in-Pair.one
    c.in-Pair.other c.in_ok-find_signed.field-0 _ refl c.entries.ensures c.as_slice-steps.ensures
    c.in-Pair.is (sym (c.in_ok-is_own.ensures {u = tt}) ∙ c.if-branch.false)
    (c.in_ok-find_signed.ensures {u = tt})
