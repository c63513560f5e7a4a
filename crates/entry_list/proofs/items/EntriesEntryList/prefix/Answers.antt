use Rattle.std.proofs.Common.{ap, sym, take, ◌∙◌}
use Rattle.std.proofs.lemmas.List.{take-map}
use Rattle.entry_list.specs.Offsets.{entry_from}
use Rattle.entry_list.proofs.items.EntriesEntryList.prefix.Goals as goal

pub returns : goal.returns
returns c =
    sym (take-map (entry_from c.self.inside.file.now) c.args.count c.self.inside.offsets.now)
    ∙ ap (take c.args.count) c.self.view_is
