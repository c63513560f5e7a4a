-- Why the journal of a state machine is not opened, in words.
use Rattle.std.specs.Prelude.{◌++◌, codes}
use Rattle.std.specs.Fmt.{decimal}
use Rattle.byte_formats.specs.Types.{Text}
use Rattle.journal_core.specs.declared.error.OpenError.TheVariants as open_error
use Rattle.state_journal.specs.declared.error.StateOpenError.{StateOpenError}
use Rattle.state_journal.specs.declared.error.StateOpenError.TheVariants as state_open_error

-- Why the journal of a state machine is not opened.
abbrev pub state_open_text : StateOpenError → Text
state_open_text (state_open_error.BadRecord number) = codes "BadRecord " ++ decimal number
state_open_text (state_open_error.Open open_error.NotJournal) = codes "NotJournal"
state_open_text (state_open_error.Open (open_error.BadLength offset)) =
    codes "BadLength " ++ decimal offset
state_open_text (state_open_error.Open (open_error.CutShort offset)) =
    codes "CutShort " ++ decimal offset
state_open_text (state_open_error.Open open_error.Failed) = codes "Failed"
state_open_text (state_open_error.Open open_error.Memory) = codes "Memory"
