-- Why a text has no tree, in words.
use Rattle.std.specs.Prelude.{codes}
use Rattle.byte_formats.specs.Types.{Text}
use Rattle.toml_fields.specs.declared.tree.TreeError.{TreeError}
use Rattle.toml_fields.specs.declared.tree.TreeError.TheVariants as tree_error

-- Why a text has no tree.
abbrev pub tree_fault_text : TreeError → Text
tree_fault_text tree_error.NotToml = codes "NotToml"
tree_fault_text tree_error.Memory = codes "Memory"
