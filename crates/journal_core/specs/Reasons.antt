-- What the calls of a journal refuse, in words.
use Rattle.std.specs.Prelude.{◌++◌, codes}
use Rattle.std.specs.Fmt.{decimal}
use Rattle.byte_formats.specs.Types.{Text}
use Rattle.journal_core.specs.declared.error.StartError.{StartError}
use Rattle.journal_core.specs.declared.error.StartError.TheVariants as start_error
use Rattle.journal_core.specs.declared.error.OpenError.{OpenError}
use Rattle.journal_core.specs.declared.error.OpenError.TheVariants as open_error
use Rattle.journal_core.specs.declared.error.AppendError.{AppendError}
use Rattle.journal_core.specs.declared.error.AppendError.TheVariants as append_error
use Rattle.journal_core.specs.declared.error.CopyError.{CopyError}
use Rattle.journal_core.specs.declared.error.CopyError.TheVariants as copy_error

-- Why a journal was not started.
abbrev pub start_fault_text : StartError → Text
start_fault_text start_error.Memory = codes "Memory"
start_fault_text start_error.Failed = codes "Failed"
start_fault_text start_error.NotEmpty = codes "NotEmpty"

-- Why a file is not read as a journal.
abbrev pub open_fault_text : OpenError → Text
open_fault_text open_error.NotJournal = codes "NotJournal"
open_fault_text (open_error.BadLength offset) = codes "BadLength " ++ decimal offset
open_fault_text (open_error.CutShort offset) = codes "CutShort " ++ decimal offset
open_fault_text open_error.Failed = codes "Failed"
open_fault_text open_error.Memory = codes "Memory"

-- Why a record was not appended.
abbrev pub append_fault_text : AppendError → Text
append_fault_text append_error.Broken = codes "Broken"
append_fault_text append_error.Full = codes "JournalFull"
append_fault_text append_error.Failed = codes "Failed"

-- Why records were not copied.
abbrev pub copy_fault_text : CopyError → Text
copy_fault_text copy_error.Read = codes "Read"
copy_fault_text copy_error.Write = codes "Write"
