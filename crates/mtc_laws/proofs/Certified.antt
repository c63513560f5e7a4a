-- What goes out of `cert` and of `light-cert` is the certificate.
use Rattle.std.proofs.Common.{◌≡◌, ℕ, Bool, true, false, List, [], Option, None, Some, Ok, refl}
use Rattle.std.proofs.Common.{◌∙◌, ap, if◌then◌else◌, ◌==◌, nat_le, is_none}
use Rattle.byte_formats.specs.Offsets.{IsBytes}
use Rattle.byte_formats.specs.Types.{HashFunction}
use Rattle.journal_core.specs.Format.{Represents}
use Rattle.disk_core.specs.declared.disk.Disk.{Ghosts as Disks}
use Rattle.tree_core.specs.declared.spans.Span.{Span}
use Rattle.journal_core.proofs.Standing.{found_stands}
use Rattle.mtc_io.specs.declared.sink.Sink.{Ghosts as Sinks}
use Rattle.mtc_room.specs.declared.room.Room.{Ghosts as Rooms}
use Rattle.issuance_log.specs.Folds.{LogView, log_fold, view_in}
use Rattle.authority_core.specs.Certificates.{cert_refusal, covering_in, light_refusal}
use Rattle.authority_core.specs.declared.writing.error.WriteError.TheVariants.{NoSuchEntry}
use Rattle.authority_core.specs.declared.writing.error.WriteError.TheVariants.{NotCovered}
use Rattle.authority_core.specs.declared.writing.error.WriteError.TheVariants.{NullEntry}
use Rattle.mtc_words.specs.Commands.{cert, light_cert}
use Rattle.mtc_words.specs.Words.{command_of}
use Rattle.mtc_command.specs.Made.{reads}
use Rattle.mtc_command.specs.Answers.{said}
use Rattle.mtc_command.specs.declared.answer.Said.TheVariants.{Done}
use Rattle.mtc_authority.specs.CertOutcome.{certificate_in, light_text, signatures_in}
use Rattle.mtc_laws.specs.AuditLaws.{HoldsText}
use Rattle.mtc_top.specs.Executions.{Run, program}
use Rattle.mtc_laws.proofs.Aliases.{IsHeard, IsRun}
use Rattle.mtc_laws.proofs.HeardRuns.{file_bytes, printed_so}
use Rattle.mtc_laws.proofs.Streams.{plain_command}
use Rattle.mtc_laws.proofs.Printed.{did_so, heard_so}
use Rattle.mtc_laws.specs.CertLaws.{CertificatesArePrinted, LightCertificatesArePrinted}
use Rattle.mtc_laws.specs.CertLaws.{PrintsCertificate}
use Rattle.mtc_laws.proofs.CertTexts.{CertSaysSo, LightCertSaysSo, cert_says, light_cert_says}
use Rattle.mtc_laws.proofs.Aliases.{ModelsFiles}

-- a certificate without signatures that nothing refuses has a subtree
covered_if : (past first : Bool) (o : Option Span)
    → (if past then Some NoSuchEntry else (if first then Some NullEntry
    else (if is_none o then Some NotCovered else None))) ≡ None → (span : Span) × (o ≡ Some span)
covered_if true first o is = let wrong : Some NoSuchEntry ≡ None = is in absurd cc
covered_if false true o is = let wrong : Some NullEntry ≡ None = is in absurd cc
covered_if false false None is = let wrong : Some NotCovered ≡ None = is in absurd cc
covered_if false false (Some span) is = (span, refl)

pub covered : (v : LogView) (index : ℕ) → light_refusal v index ≡ None
    → (span : Span) × (covering_in v index ≡ Some span)
unfolding light_refusal
covered v index is = covered_if (nat_le v.size index) (index == 0) (covering_in v index) is

module _ {R S D O E : Type 0} (h : HashFunction) (rooms : Rooms R S D) (disks : Disks D)
    (outs : Sinks O) (errs : Sinks E)
    (contents : ModelsFiles rooms disks)
    (bytes : (d : D) (b : List ℕ) → disks.contents d ≡ Some b → IsBytes b) where
  -- what a run of either printed, and the bytes in which it found the log
  pub record Certifies (name : List ℕ) (index : ℕ) (span : Span) (signatures : List ℕ) (old : R)
      (run : Run R O E) : Type 0 where
    pub prints : PrintsCertificate h (program h rooms disks outs errs) name index span signatures
        old run
    pub held : List ℕ
    pub there : rooms.file old name ≡ Some held
    pub are : IsBytes held
    pub stands : Represents held prints.list

  -- of `cert`
  pub record CertCertifies (name : List ℕ) (index start end : ℕ) (file : List ℕ) (old : R)
      (run : Run R O E) : Type 0 where
    pub text : List ℕ
    pub has_text : HoldsText (rooms.file old) file 16777216 text
    pub text_is : IsBytes text
    pub signatures : List ℕ
    pub asked : signatures_in text ≡ Ok signatures
    pub certifies : Certifies name index (record { start = start; end = end }) signatures old run
    pub allowed : cert_refusal (view_in certifies.prints.state) index start end signatures ≡ None

  -- of `light-cert`
  pub record LightCertCertifies (name : List ℕ) (index : ℕ) (old : R) (run : Run R O E)
      : Type 0 where
    pub span : Span
    pub certifies : Certifies name index span [] old run
    pub covering : covering_in (view_in certifies.prints.state) index ≡ Some span
    pub allowed : light_refusal (view_in certifies.prints.state) index ≡ None

  pub cert_certifies : (name : List ℕ) (index start end : ℕ) (file : List ℕ) (old : R)
      (run : Run R O E) → rooms.is_modelled old → IsRun h rooms disks outs errs old run
      → command_of run.words ≡ Ok (cert name index start end file) → IsHeard outs run
      → CertCertifies name index start end file old run
  cert_certifies name index start end file old run is_modelled is_run spoken heard =
      let command = cert name index start end file in
      let s = heard_so h rooms disks outs errs old run command spoken is_modelled is_run heard
      (CertSaysSo h (rooms.file old) name index start end file)
      (cert_says h (rooms.file old) name index start end file) in
      let w = s.writes in
      let list = w.found.records in
      let state = w.found.state in
      let are = file_bytes disks (rooms.file old name) (rooms.device old name) w.held bytes
      (contents.0 old name is_modelled) w.there in
      let stands = found_stands (log_fold h) w.held w.found are w.is_log in
      record {
        text = s.bytes;
        has_text = record { there = s.has_bytes.there; few = s.has_bytes.few };
        text_is = file_bytes disks (rooms.file old file) (rooms.device old file) s.bytes bytes
            (contents.0 old file is_modelled) s.has_bytes.there;
        signatures = s.signatures;
        asked = s.asked;
        certifies = record {
          prints = record {
            list = list;
            was_read = did_so h rooms disks outs errs old run command spoken name (reads list) refl
                w.did;
            state = state;
            log_is = stands.1;
            printed = printed_so h rooms disks outs errs old run is_run heard
                (plain_command h command spoken refl)
                (certificate_in h index start end s.signatures state) w.reply_is;
          };
          held = w.held;
          there = w.there;
          are = are;
          stands = stands.0;
        };
        allowed = s.allowed;
      }

  pub light_cert_certifies : (name : List ℕ) (index : ℕ) (old : R) (run : Run R O E)
      → rooms.is_modelled old → IsRun h rooms disks outs errs old run
      → command_of run.words ≡ Ok (light_cert name index) → IsHeard outs run
      → LightCertCertifies name index old run
  light_cert_certifies name index old run is_modelled is_run spoken heard =
      let command = light_cert name index in
      let s = heard_so h rooms disks outs errs old run command spoken is_modelled is_run heard
      (LightCertSaysSo h (rooms.file old) name index)
      (light_cert_says h (rooms.file old) name index) in
      let w = s.writes in
      let list = w.found.records in
      let state = w.found.state in
      let are = file_bytes disks (rooms.file old name) (rooms.device old name) w.held bytes
      (contents.0 old name is_modelled) w.there in
      let stands = found_stands (log_fold h) w.held w.found are w.is_log in
      let c = covered (view_in state) index s.allowed in
      let text = certificate_in h index c.0.start c.0.end [] state in
      record {
        span = c.0;
        certifies = record {
          prints = record {
            list = list;
            was_read = did_so h rooms disks outs errs old run command spoken name (reads list) refl
                w.did;
            state = state;
            log_is = stands.1;
            printed = printed_so h rooms disks outs errs old run is_run heard
                (plain_command h command spoken refl) text
                (w.reply_is ∙ ap (λ (o : Option Span). said Done (light_text h index state o)) c.1);
          };
          held = w.held;
          there = w.there;
          are = are;
          stands = stands.0;
        };
        covering = c.1;
        allowed = s.allowed;
      }

  pub certificates_printed : CertificatesArePrinted h (program h rooms disks outs errs)
  certificates_printed name index start end file old run is_modelled is_run spoken heard =
      let c = cert_certifies name index start end file old run is_modelled is_run spoken heard in
      (c.text, (c.signatures, (c.has_text, c.asked, (c.certifies.prints, c.allowed))))

  pub light_certificates_printed : LightCertificatesArePrinted h
      (program h rooms disks outs errs)
  light_certificates_printed name index old run is_modelled is_run spoken heard =
      let c = light_cert_certifies name index old run is_modelled is_run spoken heard in
      (c.span, (c.certifies.prints, c.covering, c.allowed))
