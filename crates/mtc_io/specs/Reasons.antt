-- Why reading fails, in words.
use Rattle.std.specs.Prelude.{codes}
use Rattle.byte_formats.specs.Types.{Text}
use Rattle.mtc_io.specs.declared.source.ReadError.{ReadError}
use Rattle.mtc_io.specs.declared.source.ReadError.TheVariants as read_error

-- Why a source wasn't read to its end.
abbrev pub read_fault_text : ReadError → Text
read_fault_text read_error.Failed = codes "Failed"
read_fault_text read_error.TooLong = codes "TooLong"
read_fault_text read_error.Memory = codes "Memory"
