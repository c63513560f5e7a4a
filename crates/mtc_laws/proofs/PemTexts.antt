-- What follows from the text of `certs` and of `light-certs`, by their plans; and of several
-- certificates that nothing refuses.
use Rattle.std.proofs.Common.{◌≡◌, ℕ, zero, suc, ◌+◌, ◌-◌, ◌<◌, ◌≤◌, nat_le, Bool, true, false}
use Rattle.std.proofs.Common.{List, Option, None, Some, Ok, refl, sym, ap, subst, ◌∙◌}
use Rattle.std.proofs.Common.{arith, if◌then◌else◌}
use Rattle.std.proofs.lemmas.Bool.{leb-false}
use Rattle.byte_formats.specs.Types.{HashFunction}
use Rattle.mtc_proof.specs.Reasons.{proof_fault_text}
use Rattle.issuance_log.specs.Folds.{LogView, view_in}
use Rattle.authority_core.specs.Certificates.{cert_refusal, light_refusal}
use Rattle.authority_core.specs.Several.{certs_refusal, light_certs_refusal, or_later}
use Rattle.authority_core.specs.Several.{refusal_from, several_refusal}
use Rattle.authority_core.specs.declared.writing.error.SeveralError.{SeveralError}
use Rattle.authority_core.specs.declared.writing.error.SeveralError.TheVariants as several
use Rattle.authority_core.specs.declared.writing.error.WriteError.{WriteError}
use Rattle.authority_core.specs.declared.writing.error.WriteError.TheVariants as write_error
use Rattle.mtc_words.specs.Commands.{certs, light_certs}
use Rattle.mtc_command.specs.Answers.{Reply, said}
use Rattle.mtc_command.specs.Steps.{Files, Outcome}
use Rattle.mtc_command.specs.Wanted.{Meets}
use Rattle.mtc_command.specs.declared.answer.Said.{Said}
use Rattle.mtc_command.specs.declared.answer.Said.TheVariants.{Done}
use Rattle.mtc_authority.specs.CertOutcome.{signatures_in}
use Rattle.mtc_authority.specs.ListOutcomes.{certs_text, light_certs_text}
use Rattle.mtc_authority.specs.declared.work.Work.{Work}
use Rattle.mtc_authority.specs.declared.work.Work.TheVariants.{Certs, LightCerts}
use Rattle.command_plans.specs.Outcomes.{deed_outcome, wanted_of}
use Rattle.command_plans.specs.Plans.{Deed, only_reads, works}
use Rattle.command_plans.proofs.Facts.{heard_passed, not_refused}
use Rattle.mtc_plans.specs.Commands.{planned_outcome}
use Rattle.mtc_plans.specs.Heard.{HoldsSmall, OfSaid}
use Rattle.mtc_plans.specs.LogPlans.{certs_plan, work_plan, work_step}
use Rattle.mtc_plans.specs.LogWork.{several_judged, work_reported}
use Rattle.mtc_plans.specs.PartyKinds.{party_kinds}
use Rattle.mtc_plans.specs.Steps.{deed_on, prints_unless}
use Rattle.mtc_plans.proofs.Heard.{form_passed, same_work}
use Rattle.mtc_laws.proofs.CertTexts.{WritesSo}

-- ---- certificates are no refusal

never_several : (why : SeveralError) (status : Said) (text : List ℕ)
    → Meets (wanted_of (several_judged why)) (said status text) → ⊥
never_several (several.OfEntry write_error.TooManySignatures index) status text is =
    not_refused status text _ _ _ is
never_several why status text is = not_refused status text _ _ _ is

several_so : (why : Option SeveralError) (wanted : List ℕ) (status : Said) (text : List ℕ)
    → Meets (wanted_of (prints_unless several_judged why wanted)) (said status text)
    → (why ≡ None) × (said status text ≡ said Done wanted)
several_so None wanted status text is = (refl, is)
several_so (Some why) wanted status text is = absurd (never_several why status text is)

later_none : (o : Option WriteError) (index : ℕ) (later : Option SeveralError)
    → or_later o index later ≡ None → (o ≡ None) × (later ≡ None)
later_none None index later is = (refl, is)
later_none (Some why) index later is =
    let wrong : Some (several.OfEntry why index) ≡ None = is in absurd cc

-- nothing refuses the certificate of any of so many indexes
refusal_none : (refusal : ℕ → Option WriteError) (count first : ℕ)
    → refusal_from refusal count first ≡ None → (i : ℕ) → i < count → refusal (first + i) ≡ None
unfolding refusal_from
refusal_none refusal zero first is i below = absurd (omega (arith, below))
refusal_none refusal (suc count) first is zero below =
    let one = later_none (refusal first) first (refusal_from refusal count (first + 1)) is in
    let same : first ≡ first + 0 = omega arith in
    subst (λ (n : ℕ). refusal n ≡ None) same one.0
refusal_none refusal (suc count) first is (suc i) below =
    let one = later_none (refusal first) first (refusal_from refusal count (first + 1)) is in
    let same : (first + 1) + i ≡ first + suc i = omega arith in
    subst (λ (n : ℕ). refusal n ≡ None) same
    (refusal_none refusal count (first + 1) one.1 i (omega (arith, below)))

-- The indexes aren't none, and nothing refuses the certificate of any.
pub record AreUnrefused (refusal : ℕ → Option WriteError) (first last : ℕ) : Type 0 where
  pub some : first < last
  pub each : (index : ℕ) → first ≤ index → index < last → refusal index ≡ None

several_none : (refusal : ℕ → Option WriteError) (first last : ℕ)
    → several_refusal refusal first last ≡ None → AreUnrefused refusal first last
several_none refusal first last is = go (nat_le last first) refl is
  where
    go : (none : Bool) → nat_le last first ≡ none
        → (if none then Some several.NothingNew else refusal_from refusal (last - first) first)
        ≡ None → AreUnrefused refusal first last
    go true test wrong = let not : Some several.NothingNew ≡ None = wrong in absurd cc
    go false test free =
        let some = leb-false last first test in
        record {
          some = some;
          each = λ index from below.
              let same : first + (index - first) ≡ index = omega (arith, from) in
              subst (λ (n : ℕ). refusal n ≡ None) same
              (refusal_none refusal (last - first) first free (index - first)
              (omega (arith, from, below)));
        }

-- ---- what each of the two says

-- The signatures were read, and nothing refuses any of the certificates.
pub record CertsSaySo (h : HashFunction) (files : Files) (journal : List ℕ)
    (first last start end : ℕ) (file : List ℕ) (reply : Reply) : Type 0 where
  pub bytes : List ℕ
  pub has_bytes : HoldsSmall files file bytes
  pub signatures : List ℕ
  pub asked : signatures_in bytes ≡ Ok signatures
  pub writes : WritesSo h files journal
      (planned_outcome h (certs journal first last start end file) files)
      (λ found. certs_text h first last start end signatures found.state) reply
  pub allowed : certs_refusal (view_in writes.found.state) first last start end signatures ≡ None

pub certs_say : (h : HashFunction) (files : Files) (journal : List ℕ) (first last start end : ℕ)
    (file : List ℕ) → OfSaid (planned_outcome h (certs journal first last start end file) files)
    (CertsSaySo h files journal first last start end file)
certs_say h files journal first last start end file status text meets =
    let plan = certs_plan h journal first last start end file in
    let passed = heard_passed (party_kinds h) plan files status text meets in
    let read = passed.read.0 in
    let form = form_passed read proof_fault_text (signatures_in read.text)
    (λ signatures. work_step h only_reads journal (Certs first last start end signatures))
    passed.say passed.works_so in
    let found = passed.founds.0 in
    let work : Work = Certs first last start end form.0 in
    let deed : Deed plan.journals = deed_on (work_reported h work found) in
    let eq : deed ≡ passed.say passed.founds = same_work passed.say
    (λ founds. deed_on (work_reported h work founds.0)) passed.founds (works passed.say) refl
    form.1.1 in
    let so = several_so (certs_refusal (view_in found.state) first last start end form.0)
    (certs_text h first last start end form.0 found.state) status text
    (subst (λ (d : Deed plan.journals). Meets (wanted_of d.answer) (said status text)) (sym eq)
    passed.meets) in
    record {
      bytes = read.text;
      has_bytes = record { there = passed.are_read.0.there; few = passed.are_read.0.few };
      signatures = form.0;
      asked = form.1.0;
      writes = record {
        held = passed.are_found.0.bytes;
        there = passed.are_found.0.there;
        found = found;
        is_log = passed.are_found.0.is;
        did = ap (λ (o : Outcome). o.journals) passed.is
            ∙ ap (λ (d : Deed plan.journals).
            (deed_outcome plan.journals passed.founds d).journals) (sym eq);
        reply_is = so.1;
      };
      allowed = so.0;
    }

-- Nothing refuses any of the certificates without signatures.
pub record LightCertsSaySo (h : HashFunction) (files : Files) (journal : List ℕ)
    (first last : ℕ) (reply : Reply) : Type 0 where
  pub writes : WritesSo h files journal (planned_outcome h (light_certs journal first last) files)
      (λ found. light_certs_text h first last found.state) reply
  pub allowed : light_certs_refusal (view_in writes.found.state) first last ≡ None

pub light_certs_say : (h : HashFunction) (files : Files) (journal : List ℕ) (first last : ℕ)
    → OfSaid (planned_outcome h (light_certs journal first last) files)
    (LightCertsSaySo h files journal first last)
light_certs_say h files journal first last status text meets =
    let plan = work_plan h only_reads journal (LightCerts first last) in
    let passed = heard_passed (party_kinds h) plan files status text meets in
    let found = passed.founds.0 in
    let deed : Deed plan.journals = deed_on (work_reported h (LightCerts first last) found) in
    let eq : deed ≡ passed.say passed.founds = same_work passed.say
    (λ founds. deed_on (work_reported h (LightCerts first last) founds.0)) passed.founds
    (works passed.say) refl passed.works_so in
    let so = several_so (light_certs_refusal (view_in found.state) first last)
    (light_certs_text h first last found.state) status text
    (subst (λ (d : Deed plan.journals). Meets (wanted_of d.answer) (said status text)) (sym eq)
    passed.meets) in
    record {
      writes = record {
        held = passed.are_found.0.bytes;
        there = passed.are_found.0.there;
        found = found;
        is_log = passed.are_found.0.is;
        did = ap (λ (o : Outcome). o.journals) passed.is
            ∙ ap (λ (d : Deed plan.journals).
            (deed_outcome plan.journals passed.founds d).journals) (sym eq);
        reply_is = so.1;
      };
      allowed = so.0;
    }

-- ---- of each of them

pub certs_unrefused : (v : LogView) (first last start end : ℕ) (signatures : List ℕ)
    → certs_refusal v first last start end signatures ≡ None
    → AreUnrefused (λ index. cert_refusal v index start end signatures) first last
unfolding certs_refusal
certs_unrefused v first last start end signatures is =
    several_none (λ (index : ℕ). cert_refusal v index start end signatures) first last is

pub light_certs_unrefused : (v : LogView) (first last : ℕ)
    → light_certs_refusal v first last ≡ None → AreUnrefused (light_refusal v) first last
unfolding light_certs_refusal
light_certs_unrefused v first last is = several_none (light_refusal v) first last is
