-- Why files of entries are refused, in words.
use Rattle.std.specs.Prelude.{◌++◌, codes}
use Rattle.std.specs.Fmt.{decimal}
use Rattle.byte_formats.specs.Types.{Text}
use Rattle.entry_list.specs.declared.error.ItemsError.{ItemsError}
use Rattle.entry_list.specs.declared.error.ItemsError.TheVariants as items_error

-- Why a file is no list of entries.
abbrev pub items_fault_text : ItemsError → Text
items_fault_text (items_error.Short offset) = codes "Short " ++ decimal offset
items_fault_text (items_error.BadItem number) = codes "BadItem " ++ decimal number
items_fault_text items_error.Memory = codes "Memory"
