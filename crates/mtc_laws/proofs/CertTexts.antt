-- What follows from the text of `cert` and of `light-cert`, by their plans.
use Rattle.std.proofs.Common.{◌≡◌, ℕ, List, [], ◌∷◌, Option, None, Some, Ok, refl, sym}
use Rattle.std.proofs.Common.{ap, subst, ◌∙◌}
use Rattle.byte_formats.specs.Types.{HashFunction}
use Rattle.mtc_proof.specs.Reasons.{proof_fault_text}
use Rattle.issuance_log.specs.Folds.{view_in}
use Rattle.issuance_log.specs.Openings.{FoundLog, log_read}
use Rattle.authority_core.specs.Certificates.{cert_refusal, covering_in, light_refusal}
use Rattle.authority_core.specs.declared.writing.error.WriteError.{WriteError}
use Rattle.authority_core.specs.declared.writing.error.WriteError.TheVariants as write_error
use Rattle.mtc_words.specs.Commands.{cert, light_cert}
use Rattle.mtc_command.specs.Answers.{Reply, said}
use Rattle.mtc_command.specs.Made.{reads}
use Rattle.mtc_command.specs.Steps.{Files, Outcome}
use Rattle.mtc_command.specs.Wanted.{Meets}
use Rattle.mtc_command.specs.declared.answer.Said.{Said}
use Rattle.mtc_command.specs.declared.answer.Said.TheVariants.{Done}
use Rattle.mtc_authority.specs.CertOutcome.{certificate_in, light_text}
use Rattle.mtc_authority.specs.CertOutcome.{signatures_in}
use Rattle.mtc_authority.specs.declared.work.Work.{Work}
use Rattle.mtc_authority.specs.declared.work.Work.TheVariants.{Cert, LightCert}
use Rattle.command_plans.specs.Outcomes.{deed_outcome, wanted_of}
use Rattle.command_plans.specs.Plans.{Deed, only_reads, works}
use Rattle.command_plans.proofs.Facts.{heard_passed, not_refused}
use Rattle.mtc_plans.specs.Commands.{planned_outcome}
use Rattle.mtc_plans.specs.Heard.{HoldsSmall, OfSaid}
use Rattle.mtc_plans.specs.LogPlans.{cert_plan, work_plan, work_step}
use Rattle.mtc_plans.specs.LogWork.{work_reported, write_judged}
use Rattle.mtc_plans.specs.PartyKinds.{party_kinds}
use Rattle.mtc_plans.specs.Steps.{deed_on, prints_unless}
use Rattle.mtc_plans.proofs.Heard.{form_passed, same_work}

-- ---- a certificate is no refusal

never_written : (why : WriteError) (status : Said) (text : List ℕ)
    → Meets (wanted_of (write_judged why)) (said status text) → ⊥
never_written write_error.NoSuchEntry status text is = not_refused status text _ _ _ is
never_written write_error.NullEntry status text is = not_refused status text _ _ _ is
never_written write_error.BadSubtree status text is = not_refused status text _ _ _ is
never_written write_error.Outside status text is = not_refused status text _ _ _ is
never_written (write_error.Beyond size) status text is = not_refused status text _ _ _ is
never_written write_error.NotCovered status text is = not_refused status text _ _ _ is
never_written write_error.TooManySignatures status text is = not_refused status text _ _ _ is
never_written write_error.JournalFailed status text is = not_refused status text _ _ _ is
never_written write_error.TilesFailed status text is = not_refused status text _ _ _ is
never_written write_error.Memory status text is = not_refused status text _ _ _ is

written_so : (why : Option WriteError) (certificate : List ℕ) (status : Said) (text : List ℕ)
    → Meets (wanted_of (prints_unless write_judged why certificate)) (said status text)
    → (why ≡ None) × (said status text ≡ said Done certificate)
written_so None certificate status text is = (refl, is)
written_so (Some why) certificate status text is = absurd (never_written why status text is)

-- ---- what each of the two says

-- A log was found, no record is added, and the text is this of it.
pub record WritesSo (h : HashFunction) (files : Files) (journal : List ℕ) (wanted : Outcome)
    (certificate : FoundLog → List ℕ) (reply : Reply) : Type 0 where
  pub held : List ℕ
  pub there : files journal ≡ Some held
  pub found : FoundLog
  pub is_log : log_read h held ≡ Ok found
  pub did : wanted.journals ≡ reads found.records ∷ []
  pub reply_is : reply ≡ said Done (certificate found)

-- The signatures were read too, and nothing refuses the certificate.
pub record CertSaysSo (h : HashFunction) (files : Files) (journal : List ℕ) (index start end : ℕ)
    (file : List ℕ) (reply : Reply) : Type 0 where
  pub bytes : List ℕ
  pub has_bytes : HoldsSmall files file bytes
  pub signatures : List ℕ
  pub asked : signatures_in bytes ≡ Ok signatures
  pub writes : WritesSo h files journal
      (planned_outcome h (cert journal index start end file) files)
      (λ found. certificate_in h index start end signatures found.state) reply
  pub allowed : cert_refusal (view_in writes.found.state) index start end signatures ≡ None

pub cert_says : (h : HashFunction) (files : Files) (journal : List ℕ) (index start end : ℕ)
    (file : List ℕ) → OfSaid (planned_outcome h (cert journal index start end file) files)
    (CertSaysSo h files journal index start end file)
cert_says h files journal index start end file status text meets =
    let plan = cert_plan h journal index start end file in
    let passed = heard_passed (party_kinds h) plan files status text meets in
    let read = passed.read.0 in
    let form = form_passed read proof_fault_text (signatures_in read.text)
    (λ signatures. work_step h only_reads journal (Cert index start end signatures)) passed.say
    passed.works_so in
    let found = passed.founds.0 in
    let work : Work = Cert index start end form.0 in
    let deed : Deed plan.journals = deed_on (work_reported h work found) in
    let eq : deed ≡ passed.say passed.founds = same_work passed.say
    (λ founds. deed_on (work_reported h work founds.0)) passed.founds (works passed.say) refl
    form.1.1 in
    let so = written_so (cert_refusal (view_in found.state) index start end form.0)
    (certificate_in h index start end form.0 found.state) status text
    (subst (λ (d : Deed plan.journals). Meets (wanted_of d.answer) (said status text)) (sym eq)
    passed.meets) in
    record {
      bytes = read.text;
      has_bytes = record { there = passed.are_read.0.there; few = passed.are_read.0.few };
      signatures = form.0;
      asked = form.1.0;
      writes = record {
        held = passed.are_found.0.bytes;
        there = passed.are_found.0.there;
        found = found;
        is_log = passed.are_found.0.is;
        did = ap (λ (o : Outcome). o.journals) passed.is
            ∙ ap (λ (d : Deed plan.journals).
            (deed_outcome plan.journals passed.founds d).journals) (sym eq);
        reply_is = so.1;
      };
      allowed = so.0;
    }

-- Nothing refuses the certificate without signatures.
pub record LightCertSaysSo (h : HashFunction) (files : Files) (journal : List ℕ) (index : ℕ)
    (reply : Reply) : Type 0 where
  pub writes : WritesSo h files journal (planned_outcome h (light_cert journal index) files)
      (λ found. light_text h index found.state (covering_in (view_in found.state) index)) reply
  pub allowed : light_refusal (view_in writes.found.state) index ≡ None

pub light_cert_says : (h : HashFunction) (files : Files) (journal : List ℕ) (index : ℕ)
    → OfSaid (planned_outcome h (light_cert journal index) files)
    (LightCertSaysSo h files journal index)
light_cert_says h files journal index status text meets =
    let plan = work_plan h only_reads journal (LightCert index) in
    let passed = heard_passed (party_kinds h) plan files status text meets in
    let found = passed.founds.0 in
    let deed : Deed plan.journals = deed_on (work_reported h (LightCert index) found) in
    let eq : deed ≡ passed.say passed.founds = same_work passed.say
    (λ founds. deed_on (work_reported h (LightCert index) founds.0)) passed.founds
    (works passed.say) refl passed.works_so in
    let so = written_so (light_refusal (view_in found.state) index)
    (light_text h index found.state (covering_in (view_in found.state) index)) status text
    (subst (λ (d : Deed plan.journals). Meets (wanted_of d.answer) (said status text)) (sym eq)
    passed.meets) in
    record {
      writes = record {
        held = passed.are_found.0.bytes;
        there = passed.are_found.0.there;
        found = found;
        is_log = passed.are_found.0.is;
        did = ap (λ (o : Outcome). o.journals) passed.is
            ∙ ap (λ (d : Deed plan.journals).
            (deed_outcome plan.journals passed.founds d).journals) (sym eq);
        reply_is = so.1;
      };
      allowed = so.0;
    }
