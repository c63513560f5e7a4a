-- What a history refuses, in words.
use Rattle.std.specs.Prelude.{◌++◌, codes}
use Rattle.std.specs.Fmt.{decimal}
use Rattle.byte_formats.specs.Types.{Text}
use Rattle.party_history.specs.declared.error.HistoryError.{HistoryError}
use Rattle.party_history.specs.declared.error.HistoryError.TheVariants as history_error

-- Why a list of steps has no states.
abbrev pub history_fault_text : HistoryError → Text
history_fault_text (history_error.NotAStep number) = codes "NotAStep " ++ decimal number
history_fault_text history_error.Memory = codes "Memory"
