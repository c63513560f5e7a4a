use Rattle.std.proofs.Common.{ℕ, ◌≤◌, ap, subst, ◌∙◌}
use Rattle.tree_core.specs.Tree.{tree_hash}
use Rattle.world_core.proofs.Walks.{prefix_tested}
use Rattle.world_core.proofs.prefix.has_prefix.Goals as goal

pub returns : goal.returns
returns g c =
    prefix_tested g.H.TreeHash.hash (g.L.EntryList.texts c.args.entries.now) c.args.held.now
    c.eq.result c.list_hash.result
    (subst (λ (n : ℕ). c.args.held.now.size ≤ n) c.len.ensures c.if-held-len.false)
    (c.list_hash.ensures ∙ ap (tree_hash g.H.TreeHash.hash) c.prefix.ensures) c.eq.ensures
