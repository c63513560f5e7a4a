-- What the commands on the journal of a cosigner have to answer is what comes of their plans.
use Rattle.std.proofs.Common.{◌≡◌, ℕ, false, List, [], ◌∷◌, Option, None, Some, refl}
use Rattle.byte_formats.specs.Types.{HashFunction}
use Rattle.journal_core.specs.Format.{end_offset}
use Rattle.cosigner_core.specs.Children.{child_refused, next_child}
use Rattle.cosigner_core.specs.Openings.{FoundCosigner, cosigner_read}
use Rattle.cosigner_core.specs.Reading.{advance_in, subtree_in}
use Rattle.cosigner_core.specs.Records.{advance_record, cosigner_record, sign_record}
use Rattle.cosigner_core.specs.Refusals.{advance_refused, cosign_refused}
use Rattle.cosigner_core.specs.Requests.{AdvanceParts, SubtreeParts}
use Rattle.cosigner_core.specs.declared.error.ChildError.{ChildError}
use Rattle.cosigner_core.specs.declared.error.ChildError.TheVariants as child_error
use Rattle.cosigner_core.specs.declared.error.CosignError.{CosignError}
use Rattle.cosigner_core.specs.declared.error.CosignError.TheVariants.{Append}
use Rattle.mtc_command.specs.Steps.{Files, Outcome, starts, with_file, with_form, with_fresh}
use Rattle.mtc_cosigner.specs.CosignerOutcomes.{advance_says, advanced_text, cosign_says}
use Rattle.mtc_cosigner.specs.CosignerOutcomes.{child_line, child_says, child_stopped}
use Rattle.mtc_cosigner.specs.CosignerOutcomes.{cosigned_text, export_says, stepped, stepped_by}
use Rattle.cosigner_core.specs.Reasons.{child_fault_text, form_fault_text}
use Rattle.state_journal.specs.Reasons.{state_open_text}
use Rattle.mtc_cosigner.specs.InitOutcome.{cosigner_settings_of, init_cosigner_outcome}
use Rattle.mtc_cosigner.specs.KeygenOutcome.{public_line}
use Rattle.mtc_cosigner.specs.Works.{advance_outcome, child_outcome, cosign_outcome}
use Rattle.mtc_cosigner.specs.Works.{cosigner_outcome, export_outcome}
use Rattle.command_plans.specs.Outcomes.{outcome_of, step_outcome}
use Rattle.command_plans.specs.Plans.{Input, makes}
use Rattle.command_plans.proofs.Forms.{bytes_same, form_same}
use Rattle.mtc_plans.specs.CosignerPlans.{advance_plan, advance_reported}
use Rattle.mtc_plans.specs.CosignerPlans.{child_judged, child_plan, child_reported, cosign_plan}
use Rattle.mtc_plans.specs.CosignerPlans.{cosign_reported}
use Rattle.mtc_plans.specs.CosignerPlans.{export_plan, export_reported, init_cosigner_plan}
use Rattle.mtc_plans.specs.CosignerPlans.{opens_cosigner, reported_step, step_judged}
use Rattle.mtc_plans.specs.PartyKinds.{cosigner, party_kinds}
use Rattle.mtc_plans.specs.Steps.{StepReport, added_by, small_file}
use Rattle.mtc_plans.proofs.Reading.{secret_same}
use Rattle.mtc_plans.proofs.Texts.{first_read, reported_on}

stepped_same : (found : FoundCosigner) (body text : List ℕ) (why : Option CosignError)
    → stepped found body text why
    ≡ reported_on found.records (added_by step_judged body text why)
stepped_same found body text None = refl
stepped_same found body text (Some (Append why)) = refl
stepped_same found body text (Some why) = refl

child_by : (found : FoundCosigner) (body text : List ℕ) (why : Option ChildError)
    → stepped_by child_stopped child_fault_text found body text why
    ≡ reported_on found.records (added_by child_judged body text why)
child_by found body text None = refl
child_by found body text (Some (child_error.Append why)) = refl
child_by found body text (Some why) = refl

child_same : (found : FoundCosigner)
    → child_says found ≡ reported_on found.records (child_reported found)
child_same found =
    child_by found (next_child found.state) (child_line found.state.key.children)
    (child_refused found.state false (end_offset found.records))

module _ (h : HashFunction) where
  advance_same : (r : AdvanceParts) (found : FoundCosigner)
      → advance_says h r found ≡ reported_on found.records (advance_reported h r found)
  advance_same r found =
      stepped_same found (advance_record r.size r.root r.proof) (advanced_text r.size)
      (advance_refused h found.state false (end_offset found.records) r)

  cosign_same : (r : SubtreeParts) (found : FoundCosigner)
      → cosign_says h r found ≡ reported_on found.records (cosign_reported h r found)
  cosign_same r found =
      stepped_same found (sign_record found.state.key.next r.start r.end r.hash r.proof)
      (cosigned_text found.state r)
      (cosign_refused h found.state false (end_offset found.records) r)

  module _ (files : Files) (inputs : List Input) where
    opened_same : (journal : List ℕ) (says : FoundCosigner → Outcome)
        (reported : FoundCosigner → StepReport)
        → ((found : FoundCosigner) → says found ≡ reported_on found.records (reported found))
        → cosigner_outcome h journal (files journal) says
        ≡ step_outcome {inputs = inputs} (opens_cosigner h journal)
        (reported_step h journal reported) files
    opened_same journal says reported same = λ i. with_file journal (files journal) (λ bytes.
        with_form state_open_text journal (cosigner_read h bytes) (λ found. same found i))

module _ (h : HashFunction) (files : Files) where
  pub export_plans : (journal : List ℕ)
      → export_outcome h journal files ≡ outcome_of (export_plan h journal) files
  unfolding export_outcome
  export_plans journal = opened_same h files [] journal export_says export_reported (λ found. refl)

  pub child_plans : (journal : List ℕ)
      → child_outcome h journal files ≡ outcome_of (child_plan h journal) files
  unfolding child_outcome
  child_plans journal = opened_same h files [] journal child_says child_reported child_same

  pub advance_plans : (journal request : List ℕ)
      → advance_outcome h journal request files ≡ outcome_of (advance_plan h journal request) files
  unfolding advance_outcome
  advance_plans journal request =
      let one = small_file request in
      bytes_same 16777216 request (files request) _ _
      (λ b. form_same (opens_cosigner h journal) files (first_read one [] b) form_fault_text
      (advance_in b) _ _
      (λ r. opened_same h files (one ∷ []) journal (advance_says h r) (advance_reported h r)
      (advance_same h r)))

  pub cosign_plans : (journal request : List ℕ)
      → cosign_outcome h journal request files ≡ outcome_of (cosign_plan h journal request) files
  unfolding cosign_outcome
  cosign_plans journal request =
      let one = small_file request in
      bytes_same 16777216 request (files request) _ _
      (λ b. form_same (opens_cosigner h journal) files (first_read one [] b) form_fault_text
      (subtree_in b) _ _
      (λ r. opened_same h files (one ∷ []) journal (cosign_says h r) (cosign_reported h r)
      (cosign_same h r)))

  pub init_cosigner_plans : (journal id log_id : List ℕ) (top : ℕ) (low : Option ℕ) (width : ℕ)
      (file : List ℕ) → init_cosigner_outcome journal id log_id top low width file files
      ≡ outcome_of (init_cosigner_plan h journal id log_id top low width file) files
  init_cosigner_plans journal id log_id top low width file =
      let one = small_file file in
      let s = cosigner_settings_of id log_id top low width in
      let next : List ℕ → Outcome = λ b.
      starts (cosigner_record s b) (public_line s.lms s.low s.ots b) in
      bytes_same 16777216 file (files file) _ _
      (λ b. secret_same (party_kinds h) files (one ∷ []) (makes cosigner journal ∷ [])
      (first_read one [] b)
      (with_fresh journal (files journal) (next b))
      _ refl)
