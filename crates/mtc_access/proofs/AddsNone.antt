-- What commands that only ask do with their journals.
use Rattle.std.proofs.Common.{◌≡◌, ℕ, None, refl, subst, sym, true≢false}
use Rattle.std.specs.Prelude.{List, [], Option, Result, Ok, Err}
use Rattle.byte_formats.specs.Types.{HashFunction, Text}
use Rattle.issuance_log.specs.Openings.{FoundLog}
use Rattle.mtc_authority.specs.CertOutcome.{signatures_in}
use Rattle.mtc_authority.specs.declared.work.Work.{Work}
use Rattle.mtc_authority.specs.declared.work.Work.TheVariants.{Cert, Certs, Checkpoint, Consist}
use Rattle.mtc_authority.specs.declared.work.Work.TheVariants.{Landmarks, LightCert, LightCerts}
use Rattle.mtc_authority.specs.declared.work.Work.TheVariants.{Subtree}
use Rattle.mtc_command.specs.Steps.{Files, Outcome}
use Rattle.mtc_proof.specs.Reasons.{proof_fault_text}
use Rattle.mtc_words.specs.Commands.{cert, certs, checkpoint, consist, entries, entries_from}
use Rattle.mtc_words.specs.Commands.{export, landmarks, light_cert, light_certs, mirror_entries}
use Rattle.mtc_words.specs.Commands.{subtree}
use Rattle.command_plans.specs.Comes.{Comes, absent, does, exists, misread, no_party, too_long}
use Rattle.command_plans.specs.Kinds.{Kinds}
use Rattle.command_plans.specs.Outcomes.{journals_did, outcome_of}
use Rattle.command_plans.specs.Plans.{Finds, Input, Journal, Plan, Read, ReadAll, Step, in_form}
use Rattle.command_plans.specs.Plans.{misreads, only_reads, works}
use Rattle.command_plans.proofs.Coming.{outcomes_come}
use Rattle.mtc_plans.specs.LogPlans.{cert_plan, certs_plan, opens_log, work_plan, work_step}
use Rattle.mtc_plans.specs.LogWork.{work_reported}
use Rattle.mtc_plans.specs.PartyKinds.{party_kinds}
use Rattle.mtc_plans.specs.Streams.{AllAddNone}
use Rattle.mtc_plans.proofs.Streams.{streams_add_none}
use Rattle.mtc_access.specs.Asking.{AskingKeepsJournals}

-- What comes of the bytes of the files adds no record, whatever is found in the journals.
abbrev StepAddsNone : {k : Kinds} {inputs : List Input} {journals : List (Journal k)}
    → Step inputs journals → Type 0
StepAddsNone (misreads read reason) = Unit {0}
StepAddsNone {journals = journals} (works say) = (founds : Finds journals)
    → AllAddNone (journals_did journals founds (say founds).does)

-- a file is read by a grammar, and the rest adds none
in_form_adds_none : {k : Kinds} {F E : Type 0} {inputs : List Input} {journals : List (Journal k)}
    (read : Read inputs) (fault_text : E → Text) (form : Result F E)
    (next : F → Step inputs journals) → ((f : F) → StepAddsNone (next f))
    → StepAddsNone (in_form read fault_text form next)
in_form_adds_none read fault_text (Ok f) next adds = adds f
in_form_adds_none read fault_text (Err why) next adds = tt

came_to_none : {k : Kinds} (plan : Plan k) (files : Files) (outcome : Outcome)
    → Comes plan files outcome → ((reads : ReadAll plan.inputs) → StepAddsNone (plan.steps reads))
    → AllAddNone outcome.journals
came_to_none plan files outcome (absent file named none) adds = tt
came_to_none plan files outcome (too_long file long) adds = tt
came_to_none plan files outcome (exists file bytes named there) adds = tt
came_to_none plan files outcome (misread reads are read reason is) adds = tt
came_to_none plan files outcome (no_party file reason any) adds = tt
came_to_none plan files outcome (does reads are say is founds found) adds =
    subst (λ (step : Step plan.inputs plan.journals). StepAddsNone step) is (adds reads) founds

module _ (h : HashFunction) where
  -- a work on a log that reports no record
  work_adds_none : (inputs : List Input) (journal : Text) (work : Work)
      → ((found : FoundLog) → (work_reported h work found).1 ≡ None)
      → StepAddsNone (work_step h {inputs = inputs} only_reads journal work)
  work_adds_none inputs journal work none = λ founds.
      subst (λ (added : Option Text).
      AllAddNone (journals_did (opens_log h only_reads journal) founds (added, tt)))
      (sym (none founds.0)) (tt, tt)

  plan_adds_none : (plan : Plan (party_kinds h)) (files : Files)
      → ((reads : ReadAll plan.inputs) → StepAddsNone (plan.steps reads))
      → AllAddNone (outcome_of plan files).journals
  plan_adds_none plan files =
      came_to_none plan files (outcome_of plan files) (outcomes_come (party_kinds h) plan files)

  asked_adds_none : (journal : Text) (work : Work) (files : Files)
      → ((found : FoundLog) → (work_reported h work found).1 ≡ None)
      → AllAddNone (outcome_of (work_plan h only_reads journal work) files).journals
  asked_adds_none journal work files none = plan_adds_none (work_plan h only_reads journal work)
      files (λ reads. work_adds_none [] journal work none)

  cert_adds_none : (journal : Text) (index start end : ℕ) (file : Text) (files : Files)
      → AllAddNone (outcome_of (cert_plan h journal index start end file) files).journals
  cert_adds_none journal index start end file files =
      plan_adds_none (cert_plan h journal index start end file) files
      (λ reads. in_form_adds_none reads.0 proof_fault_text (signatures_in reads.0.text)
      (λ signatures. work_step h only_reads journal (Cert index start end signatures))
      (λ signatures.
      work_adds_none (cert_plan h journal index start end file).inputs journal
      (Cert index start end signatures) (λ found. refl)))

  certs_add_none : (journal : Text) (first last start end : ℕ) (file : Text) (files : Files)
      → AllAddNone (outcome_of (certs_plan h journal first last start end file) files).journals
  certs_add_none journal first last start end file files =
      plan_adds_none (certs_plan h journal first last start end file) files
      (λ reads. in_form_adds_none reads.0 proof_fault_text (signatures_in reads.0.text)
      (λ signatures. work_step h only_reads journal (Certs first last start end signatures))
      (λ signatures.
      work_adds_none (certs_plan h journal first last start end file).inputs journal
      (Certs first last start end signatures) (λ found. refl)))

pub asking_leaves_all : AskingKeepsJournals
asking_leaves_all h (checkpoint journal) asks = record {
  adds = λ files. asked_adds_none h journal Checkpoint files (λ found. refl);
  makes = refl;
  besides = refl;
}
asking_leaves_all h (entries journal size) asks = record {
  adds = λ files. streams_add_none h (entries journal size) files refl;
  makes = refl;
  besides = refl;
}
asking_leaves_all h (entries_from journal first size) asks = record {
  adds = λ files. streams_add_none h (entries_from journal first size) files refl;
  makes = refl;
  besides = refl;
}
asking_leaves_all h (consist journal old new) asks = record {
  adds = λ files. asked_adds_none h journal (Consist old new) files (λ found. refl);
  makes = refl;
  besides = refl;
}
asking_leaves_all h (subtree journal start end size) asks = record {
  adds = λ files. asked_adds_none h journal (Subtree start end size) files (λ found. refl);
  makes = refl;
  besides = refl;
}
asking_leaves_all h (export journal) asks = record {
  adds = λ files. streams_add_none h (export journal) files refl;
  makes = refl;
  besides = refl;
}
asking_leaves_all h (landmarks journal) asks = record {
  adds = λ files. asked_adds_none h journal Landmarks files (λ found. refl);
  makes = refl;
  besides = refl;
}
asking_leaves_all h (light_cert journal index) asks = record {
  adds = λ files. asked_adds_none h journal (LightCert index) files (λ found. refl);
  makes = refl;
  besides = refl;
}
asking_leaves_all h (light_certs journal first last) asks = record {
  adds = λ files. asked_adds_none h journal (LightCerts first last) files (λ found. refl);
  makes = refl;
  besides = refl;
}
asking_leaves_all h (cert journal index start end file) asks = record {
  adds = λ files. cert_adds_none h journal index start end file files;
  makes = refl;
  besides = refl;
}
asking_leaves_all h (certs journal first last start end file) asks = record {
  adds = λ files. certs_add_none h journal first last start end file files;
  makes = refl;
  besides = refl;
}
asking_leaves_all h (mirror_entries journal size) asks = record {
  adds = λ files. streams_add_none h (mirror_entries journal size) files refl;
  makes = refl;
  besides = refl;
}
asking_leaves_all h other asks = absurd (true≢false (sym asks))
