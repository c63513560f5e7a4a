-- Why the texts of a monitor and its runs are refused, in words.
use Rattle.std.specs.Prelude.{◌++◌, codes}
use Rattle.std.specs.Fmt.{decimal}
use Rattle.byte_formats.specs.Types.{Text}
use Rattle.hex.specs.Hex.{encode_lower}
use Rattle.monitor_core.specs.declared.error.MonitorError.{MonitorError}
use Rattle.monitor_core.specs.declared.error.MonitorError.TheVariants as run_error
use Rattle.monitor_core.specs.declared.error.TextError.{TextError}
use Rattle.monitor_core.specs.declared.error.TextError.TheVariants as text_error

-- Why a file has no state, or no domains.
abbrev pub text_fault_text : TextError → Text
text_fault_text (text_error.BadLine number) = codes "BadLine " ++ decimal number
text_fault_text text_error.Memory = codes "Memory"

-- Why a run is refused.
abbrev pub run_fault_text : MonitorError → Text
run_fault_text run_error.WrongLog = codes "WrongLog"
run_fault_text (run_error.NotNewer size) = codes "NotNewer " ++ decimal size
run_fault_text (run_error.ItemCount have want) =
    codes "ItemCount" ++ (codes " " ++ (decimal have ++ (codes " " ++ decimal want)))
run_fault_text run_error.BadProof = codes "BadProof"
run_fault_text (run_error.RootDiffers wanted found) =
    codes "RootDiffers" ++ (codes " " ++ (encode_lower wanted ++ (codes " " ++ encode_lower found)))
run_fault_text run_error.Memory = codes "Memory"
