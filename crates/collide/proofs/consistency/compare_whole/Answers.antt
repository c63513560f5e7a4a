use Rattle.std.proofs.Common.{◌≡◌, length, Some, refl, rules}
use Rattle.tree_proofs.specs.Open.{open_of}
use Rattle.collide.proofs.OpenSteps.{proof_whole}
use Rattle.collide.proofs.consistency.compare_whole.Goals as goal

pub returns : goal.returns
returns g c =
    let items = g.L.EntryList.texts c.args.items.now in
    let h = g.H.TreeHash.hash in
    let is : open_of h c.args.start c.args.end (length items) c.args.known
    c.args.node.now c.args.proof.now ≡ Some c.in-Some.given = search rules in
    proof_whole h items c.args.start c.args.end (length items)
    c.args.known c.args.node.now c.args.proof.now _ c.in-Some.given
    refl c.requires.first c.requires.last
    c.list_hash.ensures refl is
