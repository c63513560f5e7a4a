-- The outcome of what a mirror asks of a cosigner: the mirror's journal is only read.
use Rattle.std.proofs.Common.{◌≡◌, Option, None, Some, refl}
use Rattle.byte_formats.specs.Types.{HashFunction, Text}
use Rattle.cosigner_core.specs.Openings.{FoundCosigner}
use Rattle.mirror_core.specs.Openings.{FoundMirror}
use Rattle.mirror_cosigner.specs.declared.error.MirrorStepError.{MirrorStepError}
use Rattle.mtc_command.specs.Made.{reads}
use Rattle.mtc_command.specs.Served.{first_journaled, rest_journaled}
use Rattle.mtc_mirror_steps.specs.StepOutcomes.{mirror_request_says, mirror_stepped}
use Rattle.mtc_mirror_steps.specs.declared.work.MirrorRequest.{MirrorRequest}
use Rattle.mtc_mirror_steps.specs.declared.work.MirrorRequest.TheVariants.{Advance, Cosign}
use Rattle.mtc_mirror_steps.proofs.Together.{ReadsSecond}

stepped_reads : (cosigner : FoundCosigner) (mirror : FoundMirror) (body text : Text)
    (why : Option MirrorStepError)
    → first_journaled (rest_journaled (mirror_stepped cosigner mirror body text why).journals)
    ≡ reads mirror.records
stepped_reads cosigner mirror body text None = refl
stepped_reads cosigner mirror body text (Some why) = refl

pub request_reads : (h : HashFunction) (request : MirrorRequest)
    → ReadsSecond (mirror_request_says h request)
request_reads h (Advance size) cosigner mirror = stepped_reads cosigner mirror _ _ _
request_reads h (Cosign start end) cosigner mirror = stepped_reads cosigner mirror _ _ _
