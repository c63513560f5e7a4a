-- The outcomes of `mirror-advance S M SIZE` and `mirror-cosign S M START END`.
use Rattle.std.specs.Prelude.{ℕ, false, List, [], ◌∷◌, ◌++◌, Option, None}
use Rattle.byte_formats.specs.Types.{HashFunction, Text}
use Rattle.journal_core.specs.Format.{end_offset}
use Rattle.cosigner_core.specs.Openings.{FoundCosigner}
use Rattle.cosigner_core.specs.Records.{advance_record, sign_record}
use Rattle.mirror_core.specs.Openings.{FoundMirror}
use Rattle.mirror_cosigner.specs.Reasons.{mirror_step_text}
use Rattle.mirror_cosigner.specs.Refusals.{mirror_advance_refusal, mirror_cosign_refusal}
use Rattle.mirror_cosigner.specs.Requests.{advance_by_mirror, subtree_by_mirror}
use Rattle.mirror_cosigner.specs.declared.error.MirrorStepError.{MirrorStepError}
use Rattle.mirror_cosigner.specs.declared.error.MirrorStepError.TheVariants as mirror_step
use Rattle.mtc_command.specs.Answers.{Ending, refused, replied, room_failed, tiles_name}
use Rattle.mtc_command.specs.Made.{reads}
use Rattle.mtc_command.specs.Steps.{Files, Outcome}
use Rattle.mtc_command.specs.declared.answer.Stopped.{Stopped}
use Rattle.mtc_command.specs.declared.answer.Stopped.TheVariants.{NotAllowed}
use Rattle.mtc_cosigner.specs.CosignerOutcomes.{advanced_text, cosigned_text, step_ending}
use Rattle.mtc_cosigner.specs.CosignerOutcomes.{step_stopped, stepped_by}
use Rattle.mtc_cosigner.specs.Works.{cosigner_outcome}
use Rattle.mtc_mirror.specs.Works.{mirror_outcome}
use Rattle.mtc_mirror_steps.specs.declared.work.MirrorRequest.{MirrorRequest}
use Rattle.mtc_mirror_steps.specs.declared.work.MirrorRequest.TheVariants.{Advance, Cosign}

-- ---- refusals

-- Which kind of refusal it is where a mirror has a cosigner take no step.
abbrev pub mirror_step_stopped : MirrorStepError → Stopped
mirror_step_stopped (mirror_step.Cosign why) = step_stopped why
mirror_step_stopped why = NotAllowed

-- What comes of it in a command on these journals of a cosigner and a mirror: it is refused, unless
-- the device of the cosigner or that of the mirror's tiles failed.
abbrev pub mirror_step_ending : Text → Text → MirrorStepError → Ending
mirror_step_ending cosigner mirror mirror_step.Failed = room_failed (tiles_name mirror)
mirror_step_ending cosigner mirror (mirror_step.Cosign why) = step_ending cosigner why
mirror_step_ending cosigner mirror why =
    replied (refused (mirror_step_stopped why) None (mirror_step_text why))

-- ---- over a cosigner and a mirror that were found

-- A second journal is only read, where these records were found.
abbrev pub with_second : List Text → Outcome → Outcome
with_second list outcome =
    record { answer = outcome.answer; journals = outcome.journals ++ (reads list ∷ []) }

-- The cosigner has this record more and its text goes to standard output, unless the mirror or the
-- cosigner refuses. The mirror is only read.
abbrev pub mirror_stepped : FoundCosigner → FoundMirror → Text → Text → Option MirrorStepError
    → Outcome
mirror_stepped cosigner mirror body text why = with_second mirror.records
    (stepped_by mirror_step_stopped mirror_step_text cosigner body text why)

-- The cosigner holds the root of so many of the first items of the mirror.
abbrev pub mirror_advance_says : HashFunction → ℕ → FoundCosigner → FoundMirror → Outcome
mirror_advance_says h size cosigner mirror =
    let request = advance_by_mirror h mirror.state cosigner.state.held size in
    mirror_stepped cosigner mirror (advance_record request.size request.root request.proof)
    (advanced_text size)
    (mirror_advance_refusal h mirror.state cosigner.state false (end_offset cosigner.records) size)

-- The cosigner signs this subtree of the items of the mirror.
abbrev pub mirror_cosign_says : HashFunction → ℕ → ℕ → FoundCosigner → FoundMirror → Outcome
mirror_cosign_says h start end cosigner mirror =
    let request = subtree_by_mirror h mirror.state cosigner.state.held start end in
    mirror_stepped cosigner mirror
    (sign_record cosigner.state.key.next request.start request.end request.hash request.proof)
    (cosigned_text cosigner.state request)
    (mirror_cosign_refusal h mirror.state cosigner.state false (end_offset cosigner.records) start
    end)

-- What a mirror asks of a cosigner.
abbrev pub mirror_request_says : HashFunction → MirrorRequest → FoundCosigner → FoundMirror
    → Outcome
mirror_request_says h (Advance size) = mirror_advance_says h size
mirror_request_says h (Cosign start end) = mirror_cosign_says h start end

-- ---- over the files

-- The journal of the cosigner is opened, then that of the mirror with the file of its tiles, and
-- then comes the step.
abbrev pub mirror_step_outcome : HashFunction → Text → Text
    → (FoundCosigner → FoundMirror → Outcome) → Files → Outcome
mirror_step_outcome h cosigner mirror says files = cosigner_outcome h cosigner (files cosigner)
    (λ found. mirror_outcome h mirror (files mirror) (files (tiles_name mirror)) (says found))

-- The outcome of `mirror-advance S M SIZE`.
unfoldable pub mirror_advance_outcome : HashFunction → Text → Text → ℕ → Files → Outcome
mirror_advance_outcome h cosigner mirror size =
    mirror_step_outcome h cosigner mirror (mirror_advance_says h size)

-- The outcome of `mirror-cosign S M START END`.
unfoldable pub mirror_cosign_outcome : HashFunction → Text → Text → ℕ → ℕ → Files → Outcome
mirror_cosign_outcome h cosigner mirror start end =
    mirror_step_outcome h cosigner mirror (mirror_cosign_says h start end)
