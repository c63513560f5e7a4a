use Rattle.std.proofs.Common.{rules}
use Rattle.toml.specs.View.{table_view}
use Rattle.toml_fields.proofs.Trees.{tree_of-some, tree_of-none}
use Rattle.toml_fields.proofs.tree.read_tree.Goals as goal

pub returns-in-Ok-clause-ok : goal.returns-in-Ok-clause-ok
returns-in-Ok-clause-ok c = tree_of-some c.args.text.now (table_view c.in-Ok.tree)
    c.in-Ok.ensures.ok.0 c.in-Ok.ensures.ok.1

pub returns-else-is_memory-clause-refused : goal.returns-else-is_memory-clause-refused
returns-else-is_memory-clause-refused c =
    λ _. tree_of-none c.args.text.now (c.in-Err.ensures.refused
    (λ m. search (c.if-is_memory.ensures.1 m, rules)))
