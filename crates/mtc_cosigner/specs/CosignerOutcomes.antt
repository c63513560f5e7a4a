-- The outcomes of `advance`, `child` and `cosign` over a cosigner that was found.
use Rattle.std.specs.Prelude.{ℕ, false, ◌++◌, codes, Option, Some, None}
use Rattle.std.specs.Fmt.{decimal}
use Rattle.byte_formats.specs.Types.{HashFunction, Text}
use Rattle.cosigner_core.specs.Reasons.{child_fault_text, step_fault_text}
use Rattle.journal_core.specs.Format.{end_offset}
use Rattle.journal_core.specs.declared.error.AppendError.TheVariants as append_error
use Rattle.mtc_proof.specs.Proofs.{signature_text}
use Rattle.cosigner_core.specs.Children.{child_refused, next_child}
use Rattle.cosigner_core.specs.Exports.{export_text}
use Rattle.cosigner_core.specs.Folds.{CosignerState}
use Rattle.cosigner_core.specs.Openings.{FoundCosigner}
use Rattle.cosigner_core.specs.Records.{advance_record, sign_record}
use Rattle.cosigner_core.specs.Refusals.{advance_refused, cosign_refused}
use Rattle.cosigner_core.specs.Requests.{AdvanceParts, SubtreeParts}
use Rattle.cosigner_core.specs.Signatures.{signature_by}
use Rattle.cosigner_core.specs.declared.error.ChildError.{ChildError}
use Rattle.cosigner_core.specs.declared.error.ChildError.TheVariants as child_error
use Rattle.cosigner_core.specs.declared.error.CosignError.{CosignError}
use Rattle.cosigner_core.specs.declared.error.CosignError.TheVariants.{WrongLog, NotNewer}
use Rattle.cosigner_core.specs.declared.error.CosignError.TheVariants.{BadSubtree, Beyond, BadProof}
use Rattle.cosigner_core.specs.declared.error.CosignError.TheVariants.{NeedsChild, Exhausted}
use Rattle.cosigner_core.specs.declared.error.CosignError.TheVariants.{Append}
use Rattle.mtc_command.specs.Answers.{Ending, no_memory, replied, room_failed, refused}
use Rattle.mtc_command.specs.Steps.{Outcome, appends, says_on, stops_on}
use Rattle.mtc_command.specs.declared.answer.Said.TheVariants.{Done}
use Rattle.mtc_command.specs.declared.answer.Stopped.{Stopped}
use Rattle.mtc_command.specs.declared.answer.Stopped.TheVariants.{NotAllowed}
use Rattle.mtc_command.specs.declared.answer.Stopped.TheVariants.{Beyond as OverLimit}

-- Which kind of refusal that is.
abbrev pub step_stopped : CosignError → Stopped
step_stopped WrongLog = NotAllowed
step_stopped (NotNewer held) = NotAllowed
step_stopped BadSubtree = NotAllowed
step_stopped (Beyond held) = NotAllowed
step_stopped BadProof = NotAllowed
step_stopped NeedsChild = NotAllowed
step_stopped Exhausted = NotAllowed
step_stopped (Append why) = OverLimit

-- What comes of a step that isn't taken.
abbrev pub step_ending : Text → CosignError → Ending
step_ending file (Append append_error.Failed) = room_failed file
step_ending file why = replied (refused (step_stopped why) None (step_fault_text why))

-- A record more and its text, unless it is refused. Parameters say which kind of refusal each is,
-- and its text.
abbrev pub stepped_by : {E : Type 0} → (E → Stopped) → (E → Text) → FoundCosigner → Text → Text
    → Option E → Outcome
stepped_by stopped fault_text found body text None = appends found.records body text
stepped_by stopped fault_text found body text (Some why) =
    stops_on found.records (stopped why) (fault_text why)

-- The same of a step.
abbrev pub stepped : FoundCosigner → Text → Text → Option CosignError → Outcome
stepped found body text why = stepped_by step_stopped step_fault_text found body text why

-- The line of a cosigner that holds a log of this size.
abbrev pub advanced_text : ℕ → Text
advanced_text size = codes "advanced " ++ (decimal size ++ codes "\n")

abbrev pub advance_says : HashFunction → AdvanceParts → FoundCosigner → Outcome
advance_says h r found =
    stepped found (advance_record r.size r.root r.proof) (advanced_text r.size)
    (advance_refused h found.state false (end_offset found.records) r)

-- A signature with the id of its cosigner, by the next one-time key.
abbrev pub cosigned_text : CosignerState → SubtreeParts → Text
cosigned_text s r = signature_text (record {
  cosigner = s.id;
  signature = signature_by s r.start r.end r.hash;
})

abbrev pub cosign_says : HashFunction → SubtreeParts → FoundCosigner → Outcome
cosign_says h r found =
    stepped found (sign_record found.state.key.next r.start r.end r.hash r.proof)
    (cosigned_text found.state r)
    (cosign_refused h found.state false (end_offset found.records) r)

-- Which kind of refusal of a further lower tree that is.
abbrev pub child_stopped : ChildError → Stopped
child_stopped child_error.OneLevel = NotAllowed
child_stopped (child_error.ChildLeft left) = NotAllowed
child_stopped child_error.Exhausted = NotAllowed
child_stopped (child_error.Append why) = OverLimit
child_stopped child_error.Memory = NotAllowed

-- What comes of a further lower tree that isn't made.
abbrev pub child_ending : Text → ChildError → Ending
child_ending file (child_error.Append append_error.Failed) = room_failed file
child_ending file child_error.Memory = no_memory
child_ending file why = replied (refused (child_stopped why) None (child_fault_text why))

-- The line of a cosigner that has a lower tree of this number.
abbrev pub child_line : ℕ → Text
child_line number = codes "child " ++ (decimal number ++ codes "\n")

-- The next lower tree.
abbrev pub child_says : FoundCosigner → Outcome
child_says found =
    stepped_by child_stopped child_fault_text found (next_child found.state)
    (child_line found.state.key.children)
    (child_refused found.state false (end_offset found.records))

-- What others may know of a cosigner.
abbrev pub export_says : FoundCosigner → Outcome
export_says found = says_on found.records Done (export_text found.state found.records)
