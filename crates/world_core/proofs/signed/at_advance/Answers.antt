use Rattle.std.proofs.Common.{length, subst, sym}
use Rattle.tree_core.specs.Tree.{tree_hash}
use Rattle.tree_proofs.specs.Consistency.{Checks}
use Rattle.cosigner_steps.proofs.Holding.{either_keeps, found_at}
use Rattle.world_core.proofs.Walks.{advance_found, advance_ready, advance_within, found_of}
use Rattle.world_core.proofs.Walks.{not_same, ok_still}
use Rattle.world_core.proofs.signed.at_advance.Goals as goal

pub prefix-requires : goal.prefix-requires
prefix-requires g c =
    advance_within g.H.TreeHash.hash c.args.entries.now c.args.steps.now c.args.place
    c.in-Advance.size c.in-Advance.root c.in-Advance.proof c.requires.within
    (found_at c.args.steps.now c.args.place _ _ c.index-steps-place.is c.in-Advance.is)
    c.requires.next

pub in_consistency-requires : goal.in_consistency-requires
in_consistency-requires g c =
    let h = g.H.TreeHash.hash in
    subst (λ items. Checks h 0 c.held_by-before.result.size (length items)
    c.held_by-before.result.root (tree_hash h items) c.as_slice.result.now) (sym c.prefix.ensures)
    (advance_ready h c.args.entries.now c.args.steps.now c.args.place
    c.in-Advance.size c.in-Advance.root c.in-Advance.proof c.as_slice.result.now
    c.held_by-before.result c.requires.allowed c.requires.within
    (found_at c.args.steps.now c.args.place _ _ c.index-steps-place.is c.in-Advance.is)
    c.requires.apart c.requires.next c.held_by-before.ensures c.as_slice.ensures)

pub unreachable-requires : goal.unreachable-requires
unreachable-requires g c =
    not_same g.H.TreeHash.hash c.args.entries.now c.args.steps.now c.args.place
    c.index-steps-place.result (either_keeps c.index-steps-place.result c.in-Sign.is)
    c.requires.within c.index-steps-place.is c.requires.apart c.requires.next

pub returns : goal.returns
returns g c =
    ok_still _ _ c.in_consistency.result
    (λ f found. advance_found g.H.TreeHash.hash c.args.entries.now c.args.steps.now c.args.place
    c.in-Advance.size c.in-Advance.root c.in-Advance.proof c.as_slice.result.now
    c.held_by-before.result c.requires.allowed c.requires.within
    (found_at c.args.steps.now c.args.place _ _ c.index-steps-place.is c.in-Advance.is)
    c.requires.apart c.requires.next c.held_by-before.ensures c.as_slice.ensures f
    (found_of g.H.TreeHash.hash _ _ _ _ _ _ _ c.prefix.ensures found))
    c.in_consistency.ensures
