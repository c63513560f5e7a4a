-- The plans of the commands on the journal of a mirror, and of those by which a mirror has a
-- cosigner take a step, on the journals of both.
use Rattle.std.specs.Prelude.{ℕ, ◌+◌, nat_lt, false, List, [], ◌∷◌, length, None}
use Rattle.std.specs.Prelude.{if◌then◌else◌}
use Rattle.byte_formats.specs.Types.{HashFunction, Text}
use Rattle.journal_core.specs.Format.{end_offset}
use Rattle.issuance_log.specs.Records.{tiles_record}
use Rattle.entry_list.specs.Reading.{items_in}
use Rattle.entry_list.specs.Reasons.{items_fault_text}
use Rattle.cosigner_core.specs.Openings.{FoundCosigner}
use Rattle.cosigner_core.specs.Records.{advance_record, sign_record}
use Rattle.mirror_core.specs.Folds.{MirrorState, view_in_mirror}
use Rattle.mirror_core.specs.Openings.{FoundMirror}
use Rattle.mirror_core.specs.Reasons.{mirror_fault_text}
use Rattle.mirror_core.specs.Records.{mirror_batch_record, mirror_record}
use Rattle.mirror_core.specs.Refusals.{first_difference, full_mirror_size, mirror_tile_refusal}
use Rattle.mirror_core.specs.Refusals.{next_batch, pairs_of, take_refusal}
use Rattle.mirror_core.specs.Written.{mirrored_file}
use Rattle.mirror_core.specs.declared.error.MirrorError.{MirrorError}
use Rattle.mirror_core.specs.declared.error.MirrorError.TheVariants as mirror_error
use Rattle.mirror_cosigner.specs.Reasons.{mirror_step_text}
use Rattle.mirror_cosigner.specs.Refusals.{mirror_advance_refusal, mirror_cosign_refusal}
use Rattle.mirror_cosigner.specs.Requests.{advance_by_mirror, subtree_by_mirror}
use Rattle.mirror_cosigner.specs.declared.error.MirrorStepError.{MirrorStepError}
use Rattle.mirror_cosigner.specs.declared.error.MirrorStepError.TheVariants.{Cosign}
use Rattle.mtc_command.specs.declared.answer.Said.TheVariants.{Done}
use Rattle.mtc_cosigner.specs.CosignerOutcomes.{advanced_text, cosigned_text}
use Rattle.mtc_mirror.specs.MirrorOutcomes.{mirror_line, mirrored_line}
use Rattle.mtc_tiled.specs.BadTiles.{tiled_line}
use Rattle.command_plans.specs.Plans.{Beside, Deed, Input, Journal, Judged, Plan, Step, changes}
use Rattle.command_plans.specs.Plans.{exceeds, forbids, in_form, makes, only_reads, opens, prints}
use Rattle.command_plans.specs.Plans.{works}
use Rattle.mtc_plans.specs.CosignerPlans.{step_judged}
use Rattle.mtc_plans.specs.PartyKinds.{cosigner, mirror, party_kinds}
use Rattle.mtc_plans.specs.Steps.{StepReport, added_by, beyond_size, deed_new, deed_on, list_file}

-- ---- on a mirror that was found

-- Why a mirror does nothing: a limit doesn't allow it, or else its items don't.
abbrev pub mirror_judged : MirrorError → Judged
mirror_judged (mirror_error.TooLarge size) =
    exceeds (mirror_fault_text (mirror_error.TooLarge size))
mirror_judged (mirror_error.Append why) = exceeds (mirror_fault_text (mirror_error.Append why))
mirror_judged why = forbids (mirror_fault_text why)

-- One Batch more, with as many of the new ones of these items as it holds.
abbrev pub take_reported : List (Text × Text) → FoundMirror → StepReport
take_reported items found =
    let size = (view_in_mirror found.state).size in
    added_by mirror_judged (mirror_batch_record (next_batch size items))
    (mirrored_line (size + length (next_batch size items)))
    (take_refusal (first_difference found.state.items items) (length found.state.items) false
    (end_offset found.records) items)

-- The tiles that the entries fill are stored.
abbrev pub mirror_tile_reported : FoundMirror → StepReport
mirror_tile_reported found =
    let view = view_in_mirror found.state in
    added_by mirror_judged (tiles_record (full_mirror_size view))
    (tiled_line (full_mirror_size view))
    (mirror_tile_refusal view false (end_offset found.records))

-- So many of the first items, where the mirror has them.
abbrev pub mirror_entries_judged : ℕ → MirrorState → Judged
mirror_entries_judged size s =
    if nat_lt (length s.items) size then beyond_size (length s.items)
    else prints Done (mirrored_file size s)

-- ---- on a cosigner and a mirror that were found

-- Why a mirror has a cosigner take no step: its items don't allow it, or the cosigner refuses.
abbrev pub mirror_step_judged : MirrorStepError → Judged
mirror_step_judged (Cosign why) = step_judged why
mirror_step_judged why = forbids (mirror_step_text why)

-- The cosigner holds the root of so many of the first items.
abbrev pub mirror_advance_reported : HashFunction → ℕ → FoundCosigner → FoundMirror → StepReport
mirror_advance_reported h size signer found =
    let request = advance_by_mirror h found.state signer.state.held size in
    added_by mirror_step_judged (advance_record request.size request.root request.proof)
    (advanced_text size)
    (mirror_advance_refusal h found.state signer.state false (end_offset signer.records) size)

-- The cosigner signs this subtree of the items.
abbrev pub mirror_cosign_reported : HashFunction → ℕ → ℕ → FoundCosigner → FoundMirror → StepReport
mirror_cosign_reported h start end signer found =
    let request = subtree_by_mirror h found.state signer.state.held start end in
    added_by mirror_step_judged
    (sign_record signer.state.key.next request.start request.end request.hash request.proof)
    (cosigned_text signer.state request)
    (mirror_cosign_refusal h found.state signer.state false (end_offset signer.records) start end)

module _ (h : HashFunction) where
  -- ---- plans on one journal

  -- The journal of a mirror that is there.
  abbrev pub opens_mirror : Beside → Text → List (Journal (party_kinds h))
  opens_mirror beside journal = opens mirror beside journal ∷ []

  -- The work on the mirror that is found.
  abbrev pub mirror_work_step : {inputs : List Input} (beside : Beside) (journal : Text)
      → (FoundMirror → StepReport) → Step inputs (opens_mirror beside journal)
  mirror_work_step beside journal reported = works (λ found. deed_on (reported found.0))

  -- `mirror-init M LOGID`: a new journal of the mirror's first record.
  abbrev pub mirror_init_plan : Text → Text → Plan (party_kinds h)
  mirror_init_plan journal id = record {
    inputs = [];
    journals = makes mirror journal ∷ [];
    steps = λ none. works (λ nothing. deed_new (mirror_record id) (prints Done (mirror_line id)));
  }

  -- `mirror-take M ENTRIES`: the items are read, and then the mirror takes the new ones.
  abbrev pub mirror_take_plan : Text → Text → Plan (party_kinds h)
  mirror_take_plan journal entries = record {
    inputs = list_file entries ∷ [];
    journals = opens_mirror only_reads journal;
    steps = λ (e, none). in_form e items_fault_text (items_in h e.text)
        (λ items. mirror_work_step only_reads journal (take_reported (pairs_of items)));
  }

  -- `mirror-tile M`
  abbrev pub mirror_tile_plan : Text → Plan (party_kinds h)
  mirror_tile_plan journal = record {
    inputs = [];
    journals = opens_mirror changes journal;
    steps = λ none. mirror_work_step changes journal mirror_tile_reported;
  }

  -- `mirror-entries M SIZE`
  abbrev pub mirror_entries_plan : Text → ℕ → Plan (party_kinds h)
  mirror_entries_plan journal size = record {
    inputs = [];
    journals = opens_mirror only_reads journal;
    steps = λ none. mirror_work_step only_reads journal
        (λ found. (mirror_entries_judged size found.state, None));
  }

  -- ---- plans on two journals

  -- The journal of a cosigner that is there, and then that of a mirror.
  abbrev pub opens_both : Text → Text → List (Journal (party_kinds h))
  opens_both signer journal = opens cosigner only_reads signer ∷ opens_mirror only_reads journal

  -- What is answered over both, and the record that is added to the first one, if one is. The
  -- second one is only read.
  abbrev pub deed_on_first : (signer journal : Text) → StepReport
      → Deed (opens_both signer journal)
  deed_on_first signer journal reported =
      record { answer = reported.0; does = (reported.1, (None, tt)) }

  -- The step that the mirror has the cosigner take.
  abbrev pub both_plan : Text → Text → (FoundCosigner → FoundMirror → StepReport)
      → Plan (party_kinds h)
  both_plan signer journal reported = record {
    inputs = [];
    journals = opens_both signer journal;
    steps = λ none. works (λ founds.
        deed_on_first signer journal (reported founds.0 founds.1.0));
  }

  -- `mirror-advance S M SIZE`
  abbrev pub mirror_advance_plan : Text → Text → ℕ → Plan (party_kinds h)
  mirror_advance_plan signer journal size =
      both_plan signer journal (mirror_advance_reported h size)

  -- `mirror-cosign S M START END`
  abbrev pub mirror_cosign_plan : Text → Text → ℕ → ℕ → Plan (party_kinds h)
  mirror_cosign_plan signer journal start end =
      both_plan signer journal (mirror_cosign_reported h start end)
