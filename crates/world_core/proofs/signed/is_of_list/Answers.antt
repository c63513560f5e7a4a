use Rattle.std.proofs.Common.{ap, ◌∙◌}
use Rattle.tree_core.specs.Tree.{tree_hash}
use Rattle.world_core.proofs.Walks.{list_tested}
use Rattle.world_core.proofs.signed.is_of_list.Goals as goal

pub returns-in-Sign : goal.returns-in-Sign
returns-in-Sign g c =
    list_tested g.H.TreeHash.hash c.args.entries.now c.args.step.now c.in-Sign.index
    c.in-Sign.start c.in-Sign.end c.in-Sign.hash c.in-Sign.proof c.eq.result c.list_hash.result
    c.in-Sign.is
    (c.list_hash.ensures ∙ ap (tree_hash g.H.TreeHash.hash) c.part_between.ensures) c.eq.ensures
