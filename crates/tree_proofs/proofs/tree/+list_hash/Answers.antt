use Rattle.std.proofs.Common.{[], ◌∙◌, ap, arith, sym}
use Rattle.tree_core.specs.Tree.{leaf_hash, pair_hash, tree_hash}
use Rattle.tree_proofs.proofs.Halving.{halves_hash}
use Rattle.tree_proofs.proofs.Splits.{tree-none, tree-one}
use Rattle.tree_proofs.proofs.tree.+list_hash.Goals as goal

pub returns-in-0 : goal.returns-in-0
returns-in-0 g t c =
    c.end.ensures [] c.begin.ensures
    ∙ tree-none g.H.TreeHash.hash (g.L.EntryList.texts c.args.entries.now)
    (omega (arith, c.len.ensures, c.in-0.is))

pub returns-in-1 : goal.returns-in-1
returns-in-1 g t c =
    c.leaf.ensures
    ∙ ap (leaf_hash g.H.TreeHash.hash) c.entry.ensures
    ∙ tree-one g.H.TreeHash.hash (g.L.EntryList.texts c.args.entries.now)
    (sym c.len.ensures ∙ c.in-1.is)

pub returns-in_default : goal.returns-in_default
returns-in_default g t c =
    let h = g.H.TreeHash.hash in
    c.pair.ensures
    ∙ ap (λ l. pair_hash h l c.list_hash-in_default.result) c.list_hash.ensures
    ∙ ap (pair_hash h (tree_hash h (g.L.EntryList.texts c.halves-left.result.0)))
    c.list_hash-in_default.ensures
    ∙ sym (halves_hash h _ _ _ c.halves-left.ensures)
