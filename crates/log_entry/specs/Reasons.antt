-- Why bytes aren't an entry, in words.
use Rattle.std.specs.Prelude.{◌++◌, codes}
use Rattle.std.specs.Fmt.{decimal}
use Rattle.byte_formats.specs.Types.{Text}
use Rattle.der_core.specs.Reasons.{cert_fault_text}
use Rattle.log_entry.specs.declared.fault.EntryError.{EntryError}
use Rattle.log_entry.specs.declared.fault.EntryError.TheVariants as entry_error

-- Why bytes aren't an entry.
abbrev pub entry_fault_text : EntryError → Text
entry_fault_text entry_error.Short = codes "Short"
entry_fault_text (entry_error.UnknownType number) = codes "UnknownType " ++ decimal number
entry_fault_text (entry_error.Body fault) = cert_fault_text fault
entry_fault_text entry_error.BadHashLength = codes "BadHashLength"
entry_fault_text entry_error.NullHasBody = codes "NullHasBody"
