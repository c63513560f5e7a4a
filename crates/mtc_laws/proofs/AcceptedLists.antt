-- Each certificate of a list is accepted.
use Rattle.std.proofs.Common.{◌≡◌, inl, inr, ℕ, ◌+◌, ◌-◌, ◌<◌, ◌≤◌, List, [], length}
use Rattle.std.proofs.Common.{Option, Some, Ok, refl, sym, subst, ap, ◌∙◌, arith}
use Rattle.std.specs.List.{range_with_len}
use Rattle.std.specs.Prelude.{flat_map, map}
use Rattle.std.proofs.lemmas.List.Folds.{flat_map-map}
use Rattle.std.proofs.lemmas.List.FromFn.{get_or-map-range_with_len, length-map-range_with_len}
use Rattle.byte_formats.specs.Offsets.{IsBytes}
use Rattle.byte_formats.specs.Types.{HashFunction, Text}
use Rattle.disk_core.specs.declared.disk.Disk.{Ghosts as Disks}
use Rattle.tree_core.specs.declared.spans.Span.{Span}
use Rattle.mtc_io.specs.declared.sink.Sink.{Ghosts as Sinks}
use Rattle.mtc_room.specs.declared.room.Room.{Ghosts as Rooms}
use Rattle.file_events.specs.Worlds.{Program}
use Rattle.issuance_log.specs.Folds.{view_in}
use Rattle.authority_core.specs.Certificates.{covering_in}
use Rattle.authority_core.specs.Several.{HoldsEach, pem_of}
use Rattle.party_history.specs.declared.start.PartyStart.{PartyStart}
use Rattle.mtc_words.specs.Commands.{certs, light_certs}
use Rattle.mtc_words.specs.Words.{command_of}
use Rattle.mtc_authority.specs.CertOutcome.{certificate_in, light_text}
use Rattle.mtc_authority.specs.ListOutcomes.{certs_text, light_certs_text}
use Rattle.mtc_command.proofs.Made.{OnlyNow, ReadsCrashState}
use Rattle.mtc_laws.specs.Cosigners.{HasWritten}
use Rattle.mtc_laws.specs.AuditLaws.{HoldsText}
use Rattle.mtc_laws.specs.PemLaws.{AsksForCertificates, CertifiesEntry, IsAcceptedAsIssued}
use Rattle.mtc_laws.specs.PemLaws.{ListedCertificatesAreAccepted, LogCertificate}
use Rattle.mtc_laws.specs.PemLaws.{listed_certificate}
use Rattle.mtc_top.specs.Executions.{FileEvent, IsBegun, Run, program}
use Rattle.mtc_laws.proofs.Acceptances.{IsOfLog, accepted_alone, accepted_among, bytes_of}
use Rattle.mtc_laws.proofs.Acceptances.{light_of_log, no_signatures, signatures_are}
use Rattle.mtc_laws.proofs.Acceptances.{unrefused_of_log}
use Rattle.mtc_laws.proofs.Aliases.{IsHeard, IsOwnExecution, IsRun}
use Rattle.mtc_laws.proofs.Audits.{printed_text}
use Rattle.mtc_laws.proofs.Bundled.{certs_printed, light_certs_printed}
use Rattle.mtc_laws.proofs.Certified.{covered}
use Rattle.mtc_laws.proofs.HeardBytes.{done_heard}
use Rattle.mtc_laws.proofs.PemTexts.{certs_unrefused, light_certs_unrefused}
use Rattle.mtc_laws.proofs.Recovered.{modelled_then}
use Rattle.mtc_laws.proofs.SoundLogs.{FirstsKeepToRules}
use Rattle.mtc_laws.proofs.Aliases.{ModelsFiles}
use Rattle.mtc_laws.proofs.Printed.{MirrorsAreSound}

-- what holds of the certificate of each index holds of each in their PEM
holds_each : (P : ℕ → Text → Type 0) (certificate : ℕ → Text) (first last : ℕ) (text : Text)
    → first < last
    → text ≡ flat_map (λ index. pem_of (certificate index)) (range_with_len first (last - first))
    → ((index : ℕ) → first ≤ index → index < last → P index (certificate index))
    → HoldsEach P first last text
holds_each P certificate first last text some is each =
    let count = last - first in
    let long : length (map certificate (range_with_len first count)) ≡ count =
    length-map-range_with_len certificate first count in
    record {
      certificates = map certificate (range_with_len first count);
      count = omega (arith, long, some);
      text_is = is ∙ sym (flat_map-map pem_of certificate (range_with_len first count));
      each = λ i below.
          let few : i < count = omega (arith, long, below) in
          subst (P (first + i))
          (sym (get_or-map-range_with_len certificate first count i (first + i) [] few refl))
          (each (first + i) (omega arith) (omega (arith, few, some)));
    }

module _ {R S D O E : Type 0} (h : HashFunction) (rooms : Rooms R S D) (disks : Disks D)
    (outs : Sinks O) (errs : Sinks E) (crash_state : ReadsCrashState disks) (only : OnlyNow disks)
    (contents : ModelsFiles rooms disks)
    (bytes : (d : D) (b : List ℕ) → disks.contents d ≡ Some b → IsBytes b)
    (sized : (b : Text) → length (h b) ≡ 32) (firsts : FirstsKeepToRules)
    (mirrors : MirrorsAreSound h) where
  abbrev p : Program
  p = program h rooms disks outs errs

  module _ (name : Text) (start : PartyStart) (first : Text) (begins new : R)
      (events : List (FileEvent R O E)) (begun : IsBegun h p name start first begins events)
      (execution : IsOwnExecution h rooms disks outs errs name begins events new) (from to : ℕ)
      (run : Run R O E) (is_modelled : rooms.is_modelled new)
      (is_run : IsRun h rooms disks outs errs new run) (text : Text)
      (wrote : HasWritten h p run text) where
    abbrev IsListed : ℕ → Text → Type 0
    IsListed index written = (c : CertifiesEntry h p name from to new run index written)
        × IsAcceptedAsIssued h p (listed_certificate h p c) written name begins events

    -- a certificate of the log is accepted as issued
    is_accepted : (c : LogCertificate) (written : Text) → IsOfLog h rooms disks outs errs
        crash_state only contents bytes sized firsts mirrors name new c
        → written ≡ bytes_of h rooms disks outs errs crash_state only contents bytes sized firsts
        mirrors c
        → IsAcceptedAsIssued h p c written name begins events
    is_accepted c written k same = record {
      alone = accepted_alone h rooms disks outs errs crash_state only contents bytes sized firsts
          mirrors name start first begins new events begun execution c k written same;
      among = accepted_among h rooms disks outs errs crash_state only contents bytes sized firsts
          mirrors name start first begins new events begun execution c k written same;
    }

    heard : IsHeard outs run
    heard = done_heard run.status (outs.taken run.out) (outs.taken run.out_after) wrote.done

    by_certs : (start_at end_at : ℕ) (file : Text)
        → command_of run.words ≡ Ok (certs name from to start_at end_at file)
        → HoldsEach IsListed from to text
    by_certs start_at end_at file spoken =
        let x = certs_printed h rooms disks outs errs contents bytes name from to start_at end_at
        file new run is_modelled is_run spoken heard in
        let f = x.found in
        let state = f.prints.state in
        let signed = signatures_are h rooms disks outs errs crash_state only contents bytes sized
        firsts mirrors name new is_modelled x.text x.signatures x.text_is x.asked in
        let free = certs_unrefused (view_in state) from to start_at end_at x.signatures x.allowed in
        let same = printed_text (outs.taken run.out) (outs.taken run.out_after) wrote.before text
        (certs_text h from to start_at end_at x.signatures state) wrote.contents wrote.printed
        (f.prints.printed.whole wrote.done) in
        let span : Span = record { start = start_at; end = end_at } in
        holds_each IsListed
        (λ (index : ℕ). certificate_in h index start_at end_at x.signatures state) from to text
        free.some same (λ index above below.
        let written = certificate_in h index start_at end_at x.signatures state in
        let c : LogCertificate = record {
          state = state;
          index = index;
          span = span;
          signatures = x.signatures;
          are = signed.1;
        } in
        let k = unrefused_of_log h rooms disks outs errs crash_state only contents bytes sized
        firsts mirrors name new is_modelled f.held f.prints.list state index start_at end_at
        x.signatures signed.1 f.there f.are f.stands f.prints.log_is (free.each index above below)
        in (
          record {
            span = span;
            signatures = x.signatures;
            are = signed.1;
            list = f.prints.list;
            was_read = f.prints.was_read;
            state = state;
            log_is = f.prints.log_is;
            bytes_are = refl;
            by = inl (
              file,
              (spoken, subst (HoldsText (rooms.file new) file 16777216) signed.0 x.has_text),
            );
          },
          is_accepted c written k refl,
        ))

    by_light_certs : command_of run.words ≡ Ok (light_certs name from to)
        → HoldsEach IsListed from to text
    by_light_certs spoken =
        let x = light_certs_printed h rooms disks outs errs contents bytes name from to new run
        is_modelled is_run spoken heard in
        let f = x.found in
        let state = f.prints.state in
        let free = light_certs_unrefused (view_in state) from to x.allowed in
        let same = printed_text (outs.taken run.out) (outs.taken run.out_after) wrote.before text
        (light_certs_text h from to state) wrote.contents wrote.printed
        (f.prints.printed.whole wrote.done) in
        holds_each IsListed
        (λ (index : ℕ). light_text h index state (covering_in (view_in state) index)) from to text
        free.some same (λ index above below.
        let allowed = free.each index above below in
        let found = covered (view_in state) index allowed in
        let span = found.0 in
        let written = light_text h index state (covering_in (view_in state) index) in
        let are = no_signatures h rooms disks outs errs crash_state only contents bytes sized
        firsts mirrors in
        let c : LogCertificate =
        record { state = state; index = index; span = span; signatures = []; are = are } in
        let is : written ≡ certificate_in h index span.start span.end [] state =
        ap (λ (o : Option Span). light_text h index state o) found.1 in
        let k = light_of_log h rooms disks outs errs crash_state only contents bytes sized firsts
        mirrors name new is_modelled f.held f.prints.list state index span are f.there f.are
        f.stands f.prints.log_is found.1 allowed in (
          record {
            span = span;
            signatures = [];
            are = are;
            list = f.prints.list;
            was_read = f.prints.was_read;
            state = state;
            log_is = f.prints.log_is;
            bytes_are = is;
            by = inr (spoken, (refl, found.1));
          },
          is_accepted c written k is,
        ))

    listed : AsksForCertificates h p name from to run → HoldsEach IsListed from to text
    listed (inl words) = by_certs words.0 words.1.0 words.1.1.0 words.1.1.1
    listed (inr spoken) = by_light_certs spoken

  pub listed_certificates_accepted : ListedCertificatesAreAccepted h p
  listed_certificates_accepted name start first begins new events begun execution from to run text
      is_run asks wrote =
      listed name start first begins new events begun execution from to run
      (modelled_then h rooms disks outs errs crash_state only contents bytes name start first begins
      new events begun execution) is_run text wrote asks
