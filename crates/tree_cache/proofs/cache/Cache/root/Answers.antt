use Rattle.std.proofs.Common.{sym, ◌∙◌, arith}
use Rattle.tree_cache.proofs.Fulls.{root-none}
use Rattle.tree_proofs.proofs.Aligned.{first_valid}
use Rattle.tree_cache.proofs.cache.Cache.root.Goals as goal

pub returns-then-size-eq0 : goal.returns-then-size-eq0
returns-then-size-eq0 g c =
    c.end.ensures _ c.begin.ensures
    ∙ sym (root-none g.H.TreeHash.hash c.args.self.now.leaves
    (sym c.size-size.ensures ∙ c.if-size-eq0.true))

pub node_of-requires-clause-valid : goal.node_of-requires-clause-valid
node_of-requires-clause-valid g c =
    let some = c.if-size-eq0.false in
    first_valid c.size-size.result (omega arith)
