-- What a cosigner refuses, in words.
use Rattle.std.specs.Prelude.{◌++◌, codes}
use Rattle.std.specs.Fmt.{decimal}
use Rattle.byte_formats.specs.Types.{Text}
use Rattle.journal_core.specs.Reasons.{append_fault_text}
use Rattle.cosigner_core.specs.declared.error.ChildError.{ChildError}
use Rattle.cosigner_core.specs.declared.error.ChildError.TheVariants as child_error
use Rattle.cosigner_core.specs.declared.error.CosignError.{CosignError}
use Rattle.cosigner_core.specs.declared.error.CosignError.TheVariants as cosign_error
use Rattle.cosigner_core.specs.declared.fault.FormError.{FormError}
use Rattle.cosigner_core.specs.declared.fault.FormError.TheVariants as form_error
use Rattle.cosigner_core.specs.declared.error.ReadExportError.{ReadExportError}
use Rattle.cosigner_core.specs.declared.error.ReadExportError.TheVariants as read_export_error

-- Why a cosigner takes no step: its state doesn't allow it, or its journal is full.
abbrev pub step_fault_text : CosignError → Text
step_fault_text cosign_error.WrongLog = codes "WrongLog"
step_fault_text (cosign_error.NotNewer held) = codes "NotNewer " ++ decimal held
step_fault_text cosign_error.BadSubtree = codes "BadSubtree"
step_fault_text (cosign_error.Beyond held) = codes "Beyond " ++ decimal held
step_fault_text cosign_error.BadProof = codes "BadProof"
step_fault_text cosign_error.NeedsChild = codes "NeedsChild"
step_fault_text cosign_error.Exhausted = codes "Exhausted"
step_fault_text (cosign_error.Append why) = append_fault_text why

-- Why a cosigner makes no further lower tree: its key doesn't need or allow one, its journal is
-- full, or memory was refused.
abbrev pub child_fault_text : ChildError → Text
child_fault_text child_error.OneLevel = codes "OneLevel"
child_fault_text (child_error.ChildLeft left) = codes "ChildLeft " ++ decimal left
child_fault_text child_error.Exhausted = codes "Exhausted"
child_fault_text (child_error.Append why) = append_fault_text why
child_fault_text child_error.Memory = codes "Memory"

-- Why a file is no request.
abbrev pub form_fault_text : FormError → Text
form_fault_text (form_error.Short offset) = codes "Short " ++ decimal offset
form_fault_text form_error.HashLength = codes "HashLength"
form_fault_text form_error.Trailing = codes "Trailing"
form_fault_text form_error.EmptyId = codes "EmptyId"

-- Why a file is no export of a cosigner.
abbrev pub export_fault_text : ReadExportError → Text
export_fault_text (read_export_error.Short offset) = codes "Short " ++ decimal offset
export_fault_text read_export_error.BadKey = codes "BadKey"
export_fault_text read_export_error.BadId = codes "BadId"
export_fault_text (read_export_error.BadRecord number) = codes "BadRecord " ++ decimal number
export_fault_text read_export_error.Memory = codes "Memory"
