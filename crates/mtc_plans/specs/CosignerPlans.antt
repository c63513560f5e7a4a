-- The plans of the commands on the journal of a cosigner.
use Rattle.std.specs.Prelude.{ℕ, false, List, [], ◌∷◌, Option, None}
use Rattle.byte_formats.specs.Types.{HashFunction, Text}
use Rattle.journal_core.specs.Format.{end_offset}
use Rattle.cosigner_core.specs.Children.{child_refused, next_child}
use Rattle.cosigner_core.specs.Exports.{export_text}
use Rattle.cosigner_core.specs.Openings.{FoundCosigner}
use Rattle.cosigner_core.specs.Reading.{advance_in, subtree_in}
use Rattle.cosigner_core.specs.Records.{advance_record, cosigner_record, sign_record}
use Rattle.cosigner_core.specs.Refusals.{advance_refused, cosign_refused}
use Rattle.cosigner_core.specs.Requests.{AdvanceParts, SubtreeParts}
use Rattle.cosigner_core.specs.declared.error.ChildError.{ChildError}
use Rattle.cosigner_core.specs.declared.error.ChildError.TheVariants as child_error
use Rattle.cosigner_core.specs.declared.error.CosignError.{CosignError}
use Rattle.cosigner_core.specs.declared.error.CosignError.TheVariants.{Append}
use Rattle.mtc_command.specs.declared.answer.Said.TheVariants.{Done}
use Rattle.mtc_cosigner.specs.CosignerOutcomes.{advanced_text, child_line, cosigned_text}
use Rattle.cosigner_core.specs.Reasons.{child_fault_text, form_fault_text, step_fault_text}
use Rattle.mtc_cosigner.specs.InitOutcome.{cosigner_settings_of}
use Rattle.mtc_cosigner.specs.KeygenOutcome.{public_line}
use Rattle.command_plans.specs.Plans.{Input, Journal, Judged, Plan, Step, exceeds, forbids}
use Rattle.command_plans.specs.Plans.{in_form, makes, only_reads, opens, prints, works}
use Rattle.mtc_plans.specs.PartyKinds.{cosigner, party_kinds}
use Rattle.mtc_plans.specs.Steps.{StepReport, added_by, deed_new, deed_on, in_secret}
use Rattle.mtc_plans.specs.Steps.{small_file}

-- Why a cosigner takes no step: its state doesn't allow it, or its journal is full.
abbrev pub step_judged : CosignError → Judged
step_judged (Append why) = exceeds (step_fault_text (Append why))
step_judged why = forbids (step_fault_text why)

-- Why it makes no further lower tree: its key doesn't need or allow one, or its journal is full.
abbrev pub child_judged : ChildError → Judged
child_judged (child_error.Append why) = exceeds (child_fault_text (child_error.Append why))
child_judged why = forbids (child_fault_text why)

abbrev pub advance_reported : HashFunction → AdvanceParts → FoundCosigner → StepReport
advance_reported h r found =
    added_by step_judged (advance_record r.size r.root r.proof) (advanced_text r.size)
    (advance_refused h found.state false (end_offset found.records) r)

abbrev pub cosign_reported : HashFunction → SubtreeParts → FoundCosigner → StepReport
cosign_reported h r found =
    added_by step_judged (sign_record found.state.key.next r.start r.end r.hash r.proof)
    (cosigned_text found.state r)
    (cosign_refused h found.state false (end_offset found.records) r)

-- The next lower tree.
abbrev pub child_reported : FoundCosigner → StepReport
child_reported found =
    added_by child_judged (next_child found.state) (child_line found.state.key.children)
    (child_refused found.state false (end_offset found.records))

-- What others may know of a cosigner.
abbrev pub export_reported : FoundCosigner → StepReport
export_reported found = (prints Done (export_text found.state found.records), None)

module _ (h : HashFunction) where
  -- The journal of a cosigner that is there. No file goes with it.
  abbrev pub opens_cosigner : Text → List (Journal (party_kinds h))
  opens_cosigner journal = opens cosigner only_reads journal ∷ []

  -- The work on the cosigner that is found.
  abbrev pub reported_step : {inputs : List Input} (journal : Text) → (FoundCosigner → StepReport)
      → Step inputs (opens_cosigner journal)
  reported_step journal reported = works (λ found. deed_on (reported found.0))

  -- `init-cosigner S ID LOGID HEIGHT WIDTH SECRET`, and `init-cosigner2 S ID LOGID TOP LOW WIDTH
  -- SECRET`: the secret is tested, and then a journal of the cosigner's first record is made.
  abbrev pub init_cosigner_plan : Text → Text → Text → ℕ → Option ℕ → ℕ → Text
      → Plan (party_kinds h)
  init_cosigner_plan journal id log_id top low width file = record {
    inputs = small_file file ∷ [];
    journals = makes cosigner journal ∷ [];
    steps = λ (s, none). let settings = cosigner_settings_of id log_id top low width in
        in_secret s (works (λ nothing. deed_new (cosigner_record settings s.text)
        (prints Done (public_line settings.lms settings.low settings.ots s.text))));
  }

  -- `advance S REQUEST` and `cosign S REQUEST`: the request first, then the journal.
  abbrev pub advance_plan : Text → Text → Plan (party_kinds h)
  advance_plan journal request = record {
    inputs = small_file request ∷ [];
    journals = opens_cosigner journal;
    steps = λ (r, none). in_form r form_fault_text (advance_in r.text)
        (λ request. reported_step journal (advance_reported h request));
  }

  abbrev pub cosign_plan : Text → Text → Plan (party_kinds h)
  cosign_plan journal request = record {
    inputs = small_file request ∷ [];
    journals = opens_cosigner journal;
    steps = λ (r, none). in_form r form_fault_text (subtree_in r.text)
        (λ request. reported_step journal (cosign_reported h request));
  }

  -- `child S`
  abbrev pub child_plan : Text → Plan (party_kinds h)
  child_plan journal = record {
    inputs = [];
    journals = opens_cosigner journal;
    steps = λ none. reported_step journal child_reported;
  }

  -- `export S`
  abbrev pub export_plan : Text → Plan (party_kinds h)
  export_plan journal = record {
    inputs = [];
    journals = opens_cosigner journal;
    steps = λ none. reported_step journal export_reported;
  }
