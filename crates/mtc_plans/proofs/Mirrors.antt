-- What the commands on the journal of a mirror have to answer is what comes of their plans; and so
-- of those by which a mirror has a cosigner take a step.
use Rattle.std.proofs.Common.{◌≡◌, ◌+◌, ℕ, nat_lt, false, List, [], ◌∷◌, length, Option, None, Some}
use Rattle.std.proofs.Common.{refl}
use Rattle.byte_formats.specs.Types.{HashFunction}
use Rattle.journal_core.specs.Format.{end_offset}
use Rattle.entry_list.specs.Reading.{items_in}
use Rattle.entry_list.specs.Reasons.{items_fault_text}
use Rattle.state_journal.specs.Reasons.{state_open_text}
use Rattle.cosigner_core.specs.Openings.{FoundCosigner, cosigner_read}
use Rattle.cosigner_core.specs.Records.{advance_record, sign_record}
use Rattle.cosigner_core.specs.declared.error.CosignError.TheVariants as cosign_error
use Rattle.issuance_log.specs.Records.{tiles_record}
use Rattle.mirror_core.specs.Folds.{view_in_mirror}
use Rattle.mirror_core.specs.Openings.{FoundMirror, mirror_read}
use Rattle.mirror_core.specs.Reasons.{mirror_open_text}
use Rattle.mirror_core.specs.Records.{mirror_batch_record}
use Rattle.mirror_core.specs.Refusals.{first_difference, full_mirror_size, mirror_tile_refusal}
use Rattle.mirror_core.specs.Refusals.{next_batch, pairs_of, take_refusal}
use Rattle.mirror_core.specs.Written.{mirrored_file}
use Rattle.mirror_core.specs.declared.error.MirrorError.{MirrorError}
use Rattle.mirror_core.specs.declared.error.MirrorError.TheVariants as mirror_error
use Rattle.mirror_cosigner.specs.Refusals.{mirror_advance_refusal, mirror_cosign_refusal}
use Rattle.mirror_cosigner.specs.Requests.{advance_by_mirror, subtree_by_mirror}
use Rattle.mirror_cosigner.specs.declared.error.MirrorStepError.{MirrorStepError}
use Rattle.mirror_cosigner.specs.declared.error.MirrorStepError.TheVariants.{Cosign}
use Rattle.mtc_command.specs.Answers.{said, tiles_name}
use Rattle.mtc_command.specs.Steps.{Files, Outcome, held_in, with_file, with_form}
use Rattle.mtc_command.specs.declared.answer.Said.TheVariants.{Done}
use Rattle.mtc_cosigner.specs.CosignerOutcomes.{advanced_text, cosigned_text}
use Rattle.mtc_mirror.specs.Commands.{mirror_entries_outcome, mirror_take_outcome}
use Rattle.mtc_mirror.specs.Commands.{mirror_tile_outcome}
use Rattle.mtc_mirror.specs.MirrorOutcomes.{mirror_entries_reply, mirror_entries_says}
use Rattle.mtc_mirror.specs.MirrorOutcomes.{mirror_init_outcome, mirror_tile_says, mirror_tiled_by}
use Rattle.mtc_mirror.specs.MirrorOutcomes.{mirror_taken_by, mirrored_line, not_mirrored, take_says}
use Rattle.mtc_mirror.specs.Works.{first_bad_in_mirror, mirror_outcome, mirror_tested_says}
use Rattle.mtc_mirror_steps.specs.StepOutcomes.{mirror_advance_outcome, mirror_advance_says}
use Rattle.mtc_mirror_steps.specs.StepOutcomes.{mirror_cosign_outcome, mirror_cosign_says}
use Rattle.mtc_mirror_steps.specs.StepOutcomes.{mirror_step_outcome, mirror_stepped}
use Rattle.mtc_tiled.specs.BadTiles.{tiled_line}
use Rattle.command_plans.specs.Outcomes.{opened_did, outcome_of, step_outcome, wanted_of}
use Rattle.command_plans.specs.Outcomes.{with_beside}
use Rattle.command_plans.specs.Plans.{Beside, Input, changes, only_reads}
use Rattle.command_plans.proofs.Forms.{bytes_same, form_same}
use Rattle.mtc_plans.specs.MirrorPlans.{both_plan, mirror_advance_plan, mirror_advance_reported}
use Rattle.mtc_plans.specs.MirrorPlans.{mirror_cosign_plan, mirror_cosign_reported}
use Rattle.mtc_plans.specs.MirrorPlans.{mirror_entries_judged, mirror_entries_plan}
use Rattle.mtc_plans.specs.MirrorPlans.{mirror_init_plan, mirror_judged, mirror_step_judged}
use Rattle.mtc_plans.specs.MirrorPlans.{mirror_take_plan, mirror_tile_plan, mirror_tile_reported}
use Rattle.mtc_plans.specs.MirrorPlans.{mirror_work_step, opens_mirror, take_reported}
use Rattle.mtc_plans.specs.PartyKinds.{mirror, party_kinds}
use Rattle.mtc_plans.specs.Steps.{StepReport, added_by, list_file}
use Rattle.mtc_plans.proofs.Logs.{missing_same}
use Rattle.mtc_plans.proofs.Texts.{either_same, first_read, on_list, reported_on}

-- ---- on a mirror that was found

taken_by : (found : FoundMirror) (items : List (List ℕ × List ℕ)) (why : Option MirrorError)
    → mirror_taken_by items (view_in_mirror found.state) found.records why
    ≡ reported_on found.records (added_by mirror_judged
    (mirror_batch_record (next_batch (view_in_mirror found.state).size items))
    (mirrored_line ((view_in_mirror found.state).size
    + length (next_batch (view_in_mirror found.state).size items))) why)
taken_by found items None = refl
taken_by found items (Some (mirror_error.TooLarge size)) = refl
taken_by found items (Some (mirror_error.Append why)) = refl
taken_by found items (Some why) = refl

take_same : (items : List (List ℕ × List ℕ)) (found : FoundMirror)
    → take_says items found ≡ reported_on found.records (take_reported items found)
take_same items found = taken_by found items
    (take_refusal (first_difference found.state.items items) (length found.state.items) false
    (end_offset found.records) items)

stored_by : (found : FoundMirror) (why : Option MirrorError)
    → mirror_tiled_by (view_in_mirror found.state) found.records why
    ≡ reported_on found.records (added_by mirror_judged
    (tiles_record (full_mirror_size (view_in_mirror found.state)))
    (tiled_line (full_mirror_size (view_in_mirror found.state))) why)
stored_by found None = refl
stored_by found (Some (mirror_error.TooLarge size)) = refl
stored_by found (Some (mirror_error.Append why)) = refl
stored_by found (Some why) = refl

tile_same : (found : FoundMirror)
    → mirror_tile_says found ≡ reported_on found.records (mirror_tile_reported found)
tile_same found = stored_by found
    (mirror_tile_refusal (view_in_mirror found.state) false (end_offset found.records))

entries_same : (size : ℕ) (found : FoundMirror) → mirror_entries_says size found
    ≡ reported_on found.records (mirror_entries_judged size found.state, None)
entries_same size found = on_list found.records (mirror_entries_reply size found.state)
    (mirror_entries_judged size found.state)
    (either_same (nat_lt (length found.state.items) size)
    (not_mirrored (mirror_error.Beyond (length found.state.items)))
    (said Done (mirrored_file size found.state)) _ _ refl refl)

-- ---- on a cosigner and a mirror that were found

-- over two open journals with these records, of which the second one is only read
abbrev reported_on_both : List (List ℕ) → List (List ℕ) → StepReport → Outcome
reported_on_both list second reported = record {
  answer = wanted_of reported.0;
  journals = opened_did list reported.1 ∷ (opened_did second None ∷ []);
}

stepped_both : (signer : FoundCosigner) (found : FoundMirror) (body text : List ℕ)
    (why : Option MirrorStepError) → mirror_stepped signer found body text why
    ≡ reported_on_both signer.records found.records (added_by mirror_step_judged body text why)
stepped_both signer found body text None = refl
stepped_both signer found body text (Some (Cosign (cosign_error.Append why))) = refl
stepped_both signer found body text (Some (Cosign why)) = refl
stepped_both signer found body text (Some why) = refl

module _ (h : HashFunction) where
  advance_same : (size : ℕ) (signer : FoundCosigner) (found : FoundMirror)
      → mirror_advance_says h size signer found
      ≡ reported_on_both signer.records found.records (mirror_advance_reported h size signer found)
  advance_same size signer found =
      let r = advance_by_mirror h found.state signer.state.held size in
      stepped_both signer found (advance_record r.size r.root r.proof) (advanced_text size)
      (mirror_advance_refusal h found.state signer.state false (end_offset signer.records) size)

  cosign_same : (start end : ℕ) (signer : FoundCosigner) (found : FoundMirror)
      → mirror_cosign_says h start end signer found
      ≡ reported_on_both signer.records found.records
      (mirror_cosign_reported h start end signer found)
  cosign_same start end signer found =
      let r = subtree_by_mirror h found.state signer.state.held start end in
      stepped_both signer found (sign_record signer.state.key.next r.start r.end r.hash r.proof)
      (cosigned_text signer.state r)
      (mirror_cosign_refusal h found.state signer.state false (end_offset signer.records) start end)

  module _ (files : Files) where
    tested_same : (journal : List ℕ) (says : FoundMirror → Outcome) (found : FoundMirror)
        (other : Outcome) → says found ≡ other
        → mirror_tested_says h journal says (held_in (files (tiles_name journal))) found
        ≡ with_beside (party_kinds h) mirror found.state (Some (tiles_name journal)) files other
    tested_same journal says found other same = missing_same journal
        (first_bad_in_mirror h found.state (held_in (files (tiles_name journal)))) (says found)
        other same

    opened_same : (inputs : List Input) (beside : Beside) (journal : List ℕ)
        (says : FoundMirror → Outcome) (reported : FoundMirror → StepReport)
        → ((found : FoundMirror) → says found ≡ reported_on found.records (reported found))
        → mirror_outcome h journal (files journal) (files (tiles_name journal)) says
        ≡ step_outcome {inputs = inputs} (opens_mirror h beside journal)
        (mirror_work_step h beside journal reported) files
    opened_same inputs beside journal says reported same = λ i.
        with_file journal (files journal) (λ bytes.
        with_form mirror_open_text journal (mirror_read h bytes) (λ found.
        tested_same journal says found (reported_on found.records (reported found)) (same found) i))

    both_same : (signer journal : List ℕ) (says : FoundCosigner → FoundMirror → Outcome)
        (reported : FoundCosigner → FoundMirror → StepReport)
        → ((one : FoundCosigner) (found : FoundMirror)
        → says one found ≡ reported_on_both one.records found.records (reported one found))
        → mirror_step_outcome h signer journal says files
        ≡ outcome_of (both_plan h signer journal reported) files
    both_same signer journal says reported same = λ i.
        with_file signer (files signer) (λ bytes.
        with_form state_open_text signer (cosigner_read h bytes) (λ one.
        with_file journal (files journal) (λ held.
        with_form mirror_open_text journal (mirror_read h held) (λ found.
        tested_same journal (says one) found
        (reported_on_both one.records found.records (reported one found)) (same one found) i))))

-- ---- the commands

module _ (h : HashFunction) (files : Files) where
  pub mirror_init_plans : (journal id : List ℕ)
      → mirror_init_outcome journal id files ≡ outcome_of (mirror_init_plan h journal id) files
  mirror_init_plans journal id = refl

  pub mirror_take_plans : (journal entries : List ℕ)
      → mirror_take_outcome h journal entries files
      ≡ outcome_of (mirror_take_plan h journal entries) files
  mirror_take_plans journal entries =
      let one = list_file entries in
      bytes_same 8589934592 entries (files entries) _ _
      (λ b. form_same (opens_mirror h only_reads journal) files (first_read one [] b)
      items_fault_text (items_in h b) _ _
      (λ items. opened_same h files (one ∷ []) only_reads journal (take_says (pairs_of items))
      (take_reported (pairs_of items)) (take_same (pairs_of items))))

  pub mirror_tile_plans : (journal : List ℕ)
      → mirror_tile_outcome h journal files ≡ outcome_of (mirror_tile_plan h journal) files
  mirror_tile_plans journal =
      opened_same h files [] changes journal mirror_tile_says mirror_tile_reported tile_same

  pub mirror_entries_plans : (journal : List ℕ) (size : ℕ)
      → mirror_entries_outcome h journal size files
      ≡ outcome_of (mirror_entries_plan h journal size) files
  mirror_entries_plans journal size =
      opened_same h files [] only_reads journal (mirror_entries_says size)
      (λ found. (mirror_entries_judged size found.state, None)) (entries_same size)

  pub mirror_advance_plans : (signer journal : List ℕ) (size : ℕ)
      → mirror_advance_outcome h signer journal size files
      ≡ outcome_of (mirror_advance_plan h signer journal size) files
  unfolding mirror_advance_outcome
  mirror_advance_plans signer journal size =
      both_same h files signer journal (mirror_advance_says h size)
      (mirror_advance_reported h size) (advance_same h size)

  pub mirror_cosign_plans : (signer journal : List ℕ) (start end : ℕ)
      → mirror_cosign_outcome h signer journal start end files
      ≡ outcome_of (mirror_cosign_plan h signer journal start end) files
  unfolding mirror_cosign_outcome
  mirror_cosign_plans signer journal start end =
      both_same h files signer journal (mirror_cosign_says h start end)
      (mirror_cosign_reported h start end) (cosign_same h start end)
