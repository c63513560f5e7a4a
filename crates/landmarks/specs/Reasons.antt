-- Why lists of landmarks are refused, in words.
use Rattle.std.specs.Prelude.{◌++◌, codes}
use Rattle.std.specs.Fmt.{decimal}
use Rattle.byte_formats.specs.Types.{Text}
use Rattle.landmarks.specs.declared.error.ListError.{ListError}
use Rattle.landmarks.specs.declared.error.ListError.TheVariants as list_error

-- Why a file is no list of landmarks.
abbrev pub list_fault_text : ListError → Text
list_fault_text (list_error.BadLine number) = codes "BadLine " ++ decimal number
list_fault_text (list_error.NotFalling number) = codes "NotFalling " ++ decimal number
list_fault_text list_error.TooManyActive = codes "TooManyActive"
list_fault_text list_error.BeyondLog = codes "BeyondLog"
list_fault_text list_error.Memory = codes "Memory"
