use Rattle.std.proofs.Common.{ap, drop, sym, ◌∙◌}
use Rattle.std.specs.Prelude.{map}
use Rattle.std.proofs.lemmas.List.{drop-map}
use Rattle.entry_list.specs.Offsets.{entry_from}
use Rattle.entry_list.proofs.items.EntriesEntryList.after.Goals as goal

pub returns : goal.returns
returns c =
    ap (map (entry_from c.self.inside.file.now)) c.split_at.ensures.back
    ∙ sym (drop-map (entry_from c.self.inside.file.now) c.args.count c.self.inside.offsets.now)
    ∙ ap (drop c.args.count) c.self.view_is
