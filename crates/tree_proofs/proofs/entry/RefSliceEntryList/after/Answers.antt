use Rattle.std.proofs.Common.{sym, ◌∙◌, ap}
use Rattle.std.specs.Prelude.{map}
use Rattle.std.proofs.lemmas.List.{drop-map}
use Rattle.tree_proofs.proofs.entry.RefSliceEntryList.after.Goals as goal

pub returns : goal.returns
returns g c =
    ap (map g.T.AsEntry.entry) c.split_at.ensures.back
    ∙ sym (drop-map g.T.AsEntry.entry c.args.count c.args.self.now.now)
