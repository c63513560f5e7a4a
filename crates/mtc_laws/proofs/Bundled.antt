-- What goes out of `certs` and of `light-certs`.
use Rattle.std.proofs.Common.{◌≡◌, ℕ, List, None, Some, Ok, refl}
use Rattle.byte_formats.specs.Offsets.{IsBytes}
use Rattle.byte_formats.specs.Types.{HashFunction, Text}
use Rattle.disk_core.specs.declared.disk.Disk.{Ghosts as Disks}
use Rattle.journal_core.specs.Format.{Represents}
use Rattle.journal_core.proofs.Standing.{found_stands}
use Rattle.mtc_io.specs.declared.sink.Sink.{Ghosts as Sinks}
use Rattle.mtc_room.specs.declared.room.Room.{Ghosts as Rooms}
use Rattle.issuance_log.specs.Folds.{LogState, log_fold, view_in}
use Rattle.authority_core.specs.Several.{certs_refusal, light_certs_refusal}
use Rattle.mtc_words.specs.Commands.{certs, light_certs}
use Rattle.mtc_words.specs.Words.{command_of}
use Rattle.mtc_command.specs.Made.{reads}
use Rattle.mtc_authority.specs.CertOutcome.{signatures_in}
use Rattle.mtc_authority.specs.ListOutcomes.{certs_text, light_certs_text}
use Rattle.mtc_laws.specs.AuditLaws.{HoldsText}
use Rattle.mtc_laws.specs.PemLaws.{CertificateListsArePrinted, LightListsArePrinted, PrintsOfLog}
use Rattle.mtc_laws.proofs.Aliases.{IsHeard, IsRun}
use Rattle.mtc_laws.proofs.HeardRuns.{file_bytes, printed_so}
use Rattle.mtc_laws.proofs.PemTexts.{CertsSaySo, LightCertsSaySo, certs_say, light_certs_say}
use Rattle.mtc_laws.proofs.Printed.{did_so, heard_so}
use Rattle.mtc_laws.proofs.Streams.{plain_command}
use Rattle.mtc_laws.proofs.Aliases.{ModelsFiles}
use Rattle.mtc_top.specs.Executions.{Run, program}

module _ {R S D O E : Type 0} (h : HashFunction) (rooms : Rooms R S D) (disks : Disks D)
    (outs : Sinks O) (errs : Sinks E)
    (contents : ModelsFiles rooms disks)
    (bytes : (d : D) (b : List ℕ) → disks.contents d ≡ Some b → IsBytes b) where
  -- what a run of either printed, and the bytes in which it found the log
  pub record PrintsFound (name : List ℕ) (wanted : LogState → Text) (old : R) (run : Run R O E)
      : Type 0 where
    pub prints : PrintsOfLog h (program h rooms disks outs errs) name wanted old run
    pub held : List ℕ
    pub there : rooms.file old name ≡ Some held
    pub are : IsBytes held
    pub stands : Represents held prints.list

  -- of `certs`
  pub record CertsArePrinted (name : List ℕ) (first last start end : ℕ) (file : List ℕ) (old : R)
      (run : Run R O E) : Type 0 where
    pub text : List ℕ
    pub has_text : HoldsText (rooms.file old) file 16777216 text
    pub text_is : IsBytes text
    pub signatures : List ℕ
    pub asked : signatures_in text ≡ Ok signatures
    pub found : PrintsFound name (certs_text h first last start end signatures) old run
    pub allowed : certs_refusal (view_in found.prints.state) first last start end signatures ≡ None

  -- of `light-certs`
  pub record LightCertsArePrinted (name : List ℕ) (first last : ℕ) (old : R) (run : Run R O E)
      : Type 0 where
    pub found : PrintsFound name (light_certs_text h first last) old run
    pub allowed : light_certs_refusal (view_in found.prints.state) first last ≡ None

  pub certs_printed : (name : List ℕ) (first last start end : ℕ) (file : List ℕ) (old : R)
      (run : Run R O E) → rooms.is_modelled old → IsRun h rooms disks outs errs old run
      → command_of run.words ≡ Ok (certs name first last start end file) → IsHeard outs run
      → CertsArePrinted name first last start end file old run
  certs_printed name first last start end file old run is_modelled is_run spoken heard =
      let command = certs name first last start end file in
      let s = heard_so h rooms disks outs errs old run command spoken is_modelled is_run heard
      (CertsSaySo h (rooms.file old) name first last start end file)
      (certs_say h (rooms.file old) name first last start end file) in
      let w = s.writes in
      let are = file_bytes disks (rooms.file old name) (rooms.device old name) w.held bytes
      (contents.0 old name is_modelled) w.there in
      let stands = found_stands (log_fold h) w.held w.found are w.is_log in
      record {
        text = s.bytes;
        has_text = record { there = s.has_bytes.there; few = s.has_bytes.few };
        text_is = file_bytes disks (rooms.file old file) (rooms.device old file) s.bytes bytes
            (contents.0 old file is_modelled) s.has_bytes.there;
        signatures = s.signatures;
        asked = s.asked;
        found = record {
          prints = record {
            list = w.found.records;
            was_read = did_so h rooms disks outs errs old run command spoken name
                (reads w.found.records) refl w.did;
            state = w.found.state;
            log_is = stands.1;
            printed = printed_so h rooms disks outs errs old run is_run heard
                (plain_command h command spoken refl)
                (certs_text h first last start end s.signatures w.found.state) w.reply_is;
          };
          held = w.held;
          there = w.there;
          are = are;
          stands = stands.0;
        };
        allowed = s.allowed;
      }

  pub light_certs_printed : (name : List ℕ) (first last : ℕ) (old : R) (run : Run R O E)
      → rooms.is_modelled old → IsRun h rooms disks outs errs old run
      → command_of run.words ≡ Ok (light_certs name first last) → IsHeard outs run
      → LightCertsArePrinted name first last old run
  light_certs_printed name first last old run is_modelled is_run spoken heard =
      let command = light_certs name first last in
      let s = heard_so h rooms disks outs errs old run command spoken is_modelled is_run heard
      (LightCertsSaySo h (rooms.file old) name first last)
      (light_certs_say h (rooms.file old) name first last) in
      let w = s.writes in
      let are = file_bytes disks (rooms.file old name) (rooms.device old name) w.held bytes
      (contents.0 old name is_modelled) w.there in
      let stands = found_stands (log_fold h) w.held w.found are w.is_log in
      record {
        found = record {
          prints = record {
            list = w.found.records;
            was_read = did_so h rooms disks outs errs old run command spoken name
                (reads w.found.records) refl w.did;
            state = w.found.state;
            log_is = stands.1;
            printed = printed_so h rooms disks outs errs old run is_run heard
                (plain_command h command spoken refl)
                (light_certs_text h first last w.found.state) w.reply_is;
          };
          held = w.held;
          there = w.there;
          are = are;
          stands = stands.0;
        };
        allowed = s.allowed;
      }

  pub certificate_lists_printed : CertificateListsArePrinted h (program h rooms disks outs errs)
  certificate_lists_printed name first last start end file old run is_modelled is_run spoken
      heard =
      let c = certs_printed name first last start end file old run is_modelled is_run spoken heard
      in
      (c.text, (c.signatures, (c.has_text, c.asked, (c.found.prints, c.allowed))))

  pub light_lists_printed : LightListsArePrinted h (program h rooms disks outs errs)
  light_lists_printed name first last old run is_modelled is_run spoken heard =
      let c = light_certs_printed name first last old run is_modelled is_run spoken heard in
      (c.found.prints, c.allowed)
