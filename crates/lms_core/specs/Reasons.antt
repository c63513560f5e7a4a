-- Why signatures are refused, in words.
use Rattle.std.specs.Prelude.{codes}
use Rattle.byte_formats.specs.Types.{Text}
use Rattle.lms_core.specs.declared.refusals.SigError.{SigError}
use Rattle.lms_core.specs.declared.refusals.SigError.TheVariants as sig_error

-- Why a signature is refused.
abbrev pub sig_fault_text : SigError → Text
sig_fault_text sig_error.BadKey = codes "BadKey"
sig_fault_text sig_error.BadLength = codes "BadLength"
sig_fault_text sig_error.TypeDiffers = codes "TypeDiffers"
sig_fault_text sig_error.BadIndex = codes "BadIndex"
sig_fault_text sig_error.WrongRoot = codes "WrongRoot"
