use Rattle.std.proofs.Common.{ℕ, ◌<◌, ap, subst, ◌∙◌}
use Rattle.tree_core.specs.Tree.{tree_hash}
use Rattle.world_core.proofs.Decided.{there_short}
use Rattle.world_core.proofs.wanted.hash_there.Goals as goal

pub returns-then-wanted-size : goal.returns-then-wanted-size
returns-then-wanted-size g c =
    c.list_hash.ensures ∙ ap (tree_hash g.H.TreeHash.hash) c.part_between.ensures

pub returns-then-wanted-size-2 : goal.returns-then-wanted-size-2
returns-then-wanted-size-2 g c =
    c.list_hash-then-wanted-size-2.ensures
    ∙ ap (tree_hash g.H.TreeHash.hash) c.after.ensures
    ∙ there_short g.H.TreeHash.hash c.args.entries.now c.args.wanted.now
    (subst (λ (n : ℕ). n < c.args.wanted.now.end) c.len-size.ensures c.if-wanted-size.false)
