use Rattle.std.proofs.Common.{[], ap, ◌∙◌}
use Rattle.tree_core.specs.Tree.{pair_hash, root_of}
use Rattle.tree_proofs.proofs.Splits.{root-more, root-none, root-one}
use Rattle.tree_proofs.proofs.tree.+root_over.Goals as goal

pub returns-in-empty : goal.returns-in-empty
returns-in-empty g t c =
    c.end.ensures [] c.begin.ensures ∙ root-none g.H.TreeHash.hash c.args.leaves.now
    c.in-empty.len_below

pub returns-in-len1 : goal.returns-in-len1
returns-in-len1 g t c =
    root-one g.H.TreeHash.hash c.args.leaves.now c.in-len1.len_at_least c.in-len1.len_below

pub returns-in_default : goal.returns-in_default
returns-in_default g t c =
    c.pair.ensures
    ∙ ap (λ l. pair_hash g.H.TreeHash.hash l c.root_over-in_default.result) c.root_over.ensures
    ∙ ap (pair_hash g.H.TreeHash.hash (root_of g.H.TreeHash.hash c.split_at.result.0.now))
    c.root_over-in_default.ensures
    ∙ root-more g.H.TreeHash.hash c.args.leaves.now _ _ _ c.in_default.len_at_least
    c.split.ensures.value
    c.split_at.ensures.front c.split_at.ensures.back
