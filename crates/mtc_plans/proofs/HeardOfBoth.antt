-- What follows from the text of a command by which a mirror has a cosigner take a step.
use Rattle.std.proofs.Common.{◌≡◌, ◌∙◌, ℕ, false, List, [], ◌∷◌, Option, None, Some, refl, sym, ap}
use Rattle.std.proofs.Common.{subst}
use Rattle.byte_formats.specs.Types.{HashFunction}
use Rattle.journal_core.specs.Format.{end_offset}
use Rattle.cosigner_core.specs.Openings.{FoundCosigner}
use Rattle.cosigner_core.specs.Reasons.{step_fault_text}
use Rattle.cosigner_core.specs.Records.{advance_record, sign_record}
use Rattle.cosigner_core.specs.declared.error.CosignError.TheVariants.{Append}
use Rattle.mirror_core.specs.Openings.{FoundMirror}
use Rattle.mirror_cosigner.specs.Reasons.{mirror_step_text}
use Rattle.mirror_cosigner.specs.Refusals.{mirror_advance_refusal, mirror_cosign_refusal}
use Rattle.mirror_cosigner.specs.Requests.{advance_by_mirror, subtree_by_mirror}
use Rattle.mirror_cosigner.specs.declared.error.MirrorStepError.{MirrorStepError}
use Rattle.mirror_cosigner.specs.declared.error.MirrorStepError.TheVariants.{Cosign}
use Rattle.mtc_command.specs.Answers.{said}
use Rattle.mtc_command.specs.Made.{reads}
use Rattle.mtc_command.specs.Steps.{Files, Outcome}
use Rattle.mtc_command.specs.Wanted.{Meets}
use Rattle.mtc_command.specs.declared.answer.Said.{Said}
use Rattle.mtc_command.specs.declared.answer.Said.TheVariants.{Done}
use Rattle.mtc_command.specs.declared.answer.Stopped.TheVariants.{Beyond, NotAllowed}
use Rattle.mtc_cosigner.specs.CosignerOutcomes.{advanced_text, cosigned_text}
use Rattle.command_plans.specs.Outcomes.{deed_outcome, opened_did, outcome_of, wanted_of}
use Rattle.command_plans.specs.Plans.{Deed, Plan, works}
use Rattle.command_plans.proofs.Facts.{heard_passed, not_refused}
use Rattle.mtc_plans.specs.Heard.{FindsBoth, MirrorAdvancedTextsAreOfRecords}
use Rattle.mtc_plans.specs.Heard.{MirrorCosignedTextsAreOfRecords}
use Rattle.mtc_plans.specs.MirrorPlans.{both_plan, deed_on_first, mirror_advance_reported}
use Rattle.mtc_plans.specs.MirrorPlans.{mirror_cosign_reported, mirror_step_judged}
use Rattle.mtc_plans.specs.PartyKinds.{party_kinds}
use Rattle.mtc_plans.specs.Steps.{StepReport, added_by}
use Rattle.mtc_plans.proofs.Heard.{same_work}

module _ (h : HashFunction) (files : Files) (signer journal : List ℕ)
    (reported : FoundCosigner → FoundMirror → StepReport) where
  abbrev plan : Plan (party_kinds h)
  plan = both_plan h signer journal reported

  -- both journals were found, and this is what was answered and added
  record HasReportedBoth (status : Said) (text : List ℕ) : Type 0 where
    pub both : FindsBoth h files signer journal
    pub did : (outcome_of plan files).journals
        ≡ opened_did both.found.records (reported both.found both.mirrored).1
        ∷ (reads both.mirrored.records ∷ [])
    pub meets : Meets (wanted_of (reported both.found both.mirrored).0) (said status text)

  both_reported : (status : Said) (text : List ℕ)
      → Meets (outcome_of plan files).answer (said status text) → HasReportedBoth status text
  both_reported status text meets =
      let passed = heard_passed (party_kinds h) plan files status text meets in
      let one = passed.founds.0 in
      let other = passed.founds.1.0 in
      let deed : Deed plan.journals = deed_on_first h signer journal (reported one other) in
      let eq : deed ≡ passed.say passed.founds = same_work passed.say
      (λ founds. deed_on_first h signer journal (reported founds.0 founds.1.0)) passed.founds
      (works passed.say) refl passed.works_so in
      record {
        both = record {
          held = passed.are_found.0.bytes;
          there = passed.are_found.0.there;
          found = one;
          is_cosigner = passed.are_found.0.is;
          mirror_held = passed.are_found.1.0.bytes;
          mirror_there = passed.are_found.1.0.there;
          mirrored = other;
          is_mirror = passed.are_found.1.0.is;
        };
        did = ap (λ (o : Outcome). o.journals) passed.is
            ∙ ap (λ (d : Deed plan.journals).
            (deed_outcome plan.journals passed.founds d).journals) (sym eq);
        meets = subst (λ (d : Deed plan.journals). Meets (wanted_of d.answer) (said status text))
            (sym eq) passed.meets;
      }

both_so : (body line : List ℕ) (why : Option MirrorStepError) (status : Said) (text : List ℕ)
    → Meets (wanted_of (added_by mirror_step_judged body line why).0) (said status text)
    → (why ≡ None) × (((added_by mirror_step_judged body line why).1 ≡ Some body)
    × (said status text ≡ said Done line))
both_so body line None status text meets = (refl, (refl, meets))
both_so body line (Some (Cosign (Append why))) status text meets =
    absurd (not_refused status text Beyond None (step_fault_text (Append why)) meets)
both_so body line (Some (Cosign why)) status text meets =
    absurd (not_refused status text NotAllowed None (step_fault_text why) meets)
both_so body line (Some why) status text meets =
    absurd (not_refused status text NotAllowed None (mirror_step_text why) meets)

pub mirror_advanced_so : MirrorAdvancedTextsAreOfRecords
mirror_advanced_so h files signer journal size status text meets =
    let t = both_reported h files signer journal (mirror_advance_reported h size) status text
    meets in
    let found = t.both.found in
    let mirrored = t.both.mirrored in
    let r = advance_by_mirror h mirrored.state found.state.held size in
    let so = both_so (advance_record r.size r.root r.proof) (advanced_text size)
    (mirror_advance_refusal h mirrored.state found.state false (end_offset found.records) size)
    status text t.meets in
    record {
      both = t.both;
      fits = so.0;
      did = t.did ∙ ap (λ (m : Option (List ℕ)).
          opened_did found.records m ∷ (reads mirrored.records ∷ [])) so.1.0;
      reply_is = so.1.1;
    }

pub mirror_cosigned_so : MirrorCosignedTextsAreOfRecords
mirror_cosigned_so h files signer journal start end status text meets =
    let t = both_reported h files signer journal (mirror_cosign_reported h start end) status text
    meets in
    let found = t.both.found in
    let mirrored = t.both.mirrored in
    let r = subtree_by_mirror h mirrored.state found.state.held start end in
    let so = both_so (sign_record found.state.key.next r.start r.end r.hash r.proof)
    (cosigned_text found.state r) (mirror_cosign_refusal h mirrored.state found.state false
    (end_offset found.records) start end) status text t.meets in
    record {
      both = t.both;
      fits = so.0;
      did = t.did ∙ ap (λ (m : Option (List ℕ)).
          opened_did found.records m ∷ (reads mirrored.records ∷ [])) so.1.0;
      reply_is = so.1.1;
    }
