use Rattle.std.proofs.Common.{map, ◌∙◌}
use Rattle.toml_fields.proofs.Trees.{has_only-view}
use Rattle.toml_fields.proofs.table.keys_are_among.Goals as goal

pub returns : goal.returns
returns c = c.all_among.ensures ∙ has_only-view (map (λ n. n.now) c.args.names.now)
    c.args.table.now.entries
