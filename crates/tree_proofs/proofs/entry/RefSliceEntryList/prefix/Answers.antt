use Rattle.std.proofs.Common.{sym}
use Rattle.std.proofs.lemmas.List.{take-map}
use Rattle.tree_proofs.proofs.entry.RefSliceEntryList.prefix.Goals as goal

pub returns : goal.returns
returns g c = sym (take-map g.T.AsEntry.entry c.args.count c.args.self.now.now)
