use Rattle.std.proofs.Common.{◌∙◌, ap}
use Rattle.std.proofs.lemmas.List.{map-id}
use Rattle.tree_core.specs.Tree.{tree_hash}
use Rattle.tree_proofs.proofs.tree.root.Goals as goal

pub returns : goal.returns
returns g c =
    c.list_hash.ensures ∙ ap (tree_hash g.H.TreeHash.hash) (map-id c.args.entries.now)
