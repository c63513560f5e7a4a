use Rattle.std.proofs.Common.{◌∙◌, ap}
use Rattle.tree_core.specs.Split.{split_of}
use Rattle.tree_proofs.proofs.Halving.{halves_at}
use Rattle.tree_proofs.proofs.tree.halves.Goals as goal

pub returns : goal.returns
returns g c =
    halves_at (g.L.EntryList.texts c.args.entries.now) _ _ _ c.requires
    (c.split-middle.ensures.value ∙ ap split_of c.len.ensures) c.prefix.ensures c.after.ensures
