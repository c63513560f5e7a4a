-- Why a mirror has a cosigner take no step, in words.
use Rattle.std.specs.Prelude.{◌++◌, codes}
use Rattle.std.specs.Fmt.{decimal}
use Rattle.byte_formats.specs.Types.{Text}
use Rattle.cosigner_core.specs.Reasons.{step_fault_text}
use Rattle.hex.specs.Hex.{encode_lower}
use Rattle.mirror_cosigner.specs.declared.error.MirrorStepError.{MirrorStepError}
use Rattle.mirror_cosigner.specs.declared.error.MirrorStepError.TheVariants as mirror_step

-- Why no step is taken.
abbrev pub mirror_step_text : MirrorStepError → Text
mirror_step_text (mirror_step.Beyond size) = codes "Beyond " ++ decimal size
mirror_step_text (mirror_step.NotMine held own) =
    codes "NotMine" ++ (codes " " ++ (encode_lower held ++ (codes " " ++ encode_lower own)))
mirror_step_text mirror_step.BadSubtree = codes "BadSubtree"
mirror_step_text mirror_step.Failed = codes "Failed"
mirror_step_text (mirror_step.Cosign why) = step_fault_text why
