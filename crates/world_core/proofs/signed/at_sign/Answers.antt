use Rattle.std.proofs.Common.{length, subst, sym}
use Rattle.tree_core.specs.Tree.{tree_hash}
use Rattle.tree_proofs.specs.Consistency.{Checks}
use Rattle.cosigner_steps.proofs.Holding.{found_at}
use Rattle.world_core.proofs.Walks.{found_of, ok_still, sign_found, sign_ready}
use Rattle.world_core.proofs.signed.at_sign.Goals as goal

pub in_consistency-requires : goal.in_consistency-requires
in_consistency-requires g c =
    let h = g.H.TreeHash.hash in
    subst (λ items. Checks h c.in-Sign.start c.in-Sign.end (length items) c.in-Sign.hash
    (tree_hash h items) c.as_slice.result.now) (sym c.prefix.ensures)
    (sign_ready h c.args.entries.now c.args.steps.now c.args.place c.in-Sign.index
    c.in-Sign.start c.in-Sign.end c.in-Sign.hash c.in-Sign.proof c.as_slice.result.now
    c.held_by-held.result c.requires.allowed c.requires.within
    (found_at c.args.steps.now c.args.place _ _ c.requires.step c.in-Sign.is) c.requires.prefix
    c.held_by-held.ensures c.as_slice.ensures)

pub returns : goal.returns
returns g c =
    ok_still _ _ c.in_consistency.result
    (λ f found. sign_found g.H.TreeHash.hash c.args.entries.now c.args.steps.now c.args.step.now
    c.args.place c.in-Sign.index c.in-Sign.start c.in-Sign.end c.in-Sign.hash c.in-Sign.proof
    c.as_slice.result.now c.held_by-held.result c.requires.allowed c.requires.within
    c.requires.step c.in-Sign.is c.requires.prefix c.held_by-held.ensures c.as_slice.ensures f
    (found_of g.H.TreeHash.hash _ _ _ _ _ _ _ c.prefix.ensures found))
    c.in_consistency.ensures
