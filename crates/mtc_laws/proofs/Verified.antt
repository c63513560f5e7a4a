-- A run of `verify` over a certificate that the store accepts.
use Rattle.std.proofs.Common.{◌≡◌, inl, ℕ, List, ◌++◌, Result, Ok, codes, sym, subst, ap, ◌∙◌}
use Rattle.std.specs.Fmt.{decimal}
use Rattle.std.specs.Prelude.{pos}
use Rattle.byte_formats.specs.Types.{HashFunction}
use Rattle.disk_core.specs.declared.disk.Disk.{Ghosts as Disks}
use Rattle.mtc_io.specs.declared.sink.Sink.{Ghosts as Sinks}
use Rattle.mtc_room.specs.declared.room.Room.{Ghosts as Rooms}
use Rattle.policy_core.specs.Files.{store_of}
use Rattle.policy_core.specs.Judgement.{judgement}
use Rattle.policy_core.specs.Reasons.{store_fault_text}
use Rattle.policy_core.specs.declared.answer.Accepted.{Accepted}
use Rattle.policy_core.specs.declared.store.Store.{Store}
use Rattle.mtc_words.specs.Commands.{CommandValue, verify}
use Rattle.mtc_words.specs.Words.{known_word}
use Rattle.mtc_words.specs.declared.error.WordError.{WordError}
use Rattle.mtc_command.specs.Answers.{Reply, out_of, status_of}
use Rattle.mtc_command.specs.Steps.{Files, Outcome, says, with_bytes, with_form}
use Rattle.mtc_command.specs.Wanted.{Meets}
use Rattle.mtc_command.specs.declared.answer.Said.TheVariants.{Done}
use Rattle.mtc_command.proofs.Inputs.{bytes_read}
use Rattle.mtc_relying.specs.VerifyOutcome.{verdict_says, verify_outcome, verify_says}
use Rattle.mtc_plans.proofs.Planned.{outcome_planned}
use Rattle.mtc_laws.specs.AuditLaws.{HoldsText}
use Rattle.mtc_top.specs.Concluded.{Prints}
use Rattle.mtc_top.specs.Executions.{program}
use Rattle.mtc_top.specs.Facts.{facts}
use Rattle.mtc_top.proofs.Runs.{answered, wrote_of}
use Rattle.mtc_laws.specs.CertLaws.{AcceptedIsPrinted}

-- what the command has to reply
verify_asked : (h : HashFunction) (files : Files) (cert store : List ℕ) (unix_time : ℕ)
    (bytes text : List ℕ) (s : Store) (a : Accepted) → HoldsText files cert 16777216 bytes
    → HoldsText files store 16777216 text → store_of text ≡ Ok s
    → judgement h bytes s (pos unix_time) ≡ Ok a
    → verify_outcome h cert store unix_time files
    ≡ says Done (codes "accepted " ++ (decimal a.index ++ codes "\n"))
verify_asked h files cert store unix_time bytes text s a has_cert has_store read judged =
    bytes_read 16777216 cert (files cert) bytes
    (λ b. with_bytes 16777216 store (files store) (verify_says h cert store unix_time b))
    has_cert.there has_cert.few
    ∙ bytes_read 16777216 store (files store) text (verify_says h cert store unix_time bytes)
    has_store.there has_store.few
    ∙ ap (λ r. with_form store_fault_text store r
    (λ x. verdict_says cert (judgement h bytes x (pos unix_time)))) read
    ∙ ap (verdict_says cert) judged

module _ {R S D O E : Type 0} (h : HashFunction) (rooms : Rooms R S D) (disks : Disks D)
    (outs : Sinks O) (errs : Sinks E) where
  pub accepted_printed : AcceptedIsPrinted h (program h rooms disks outs errs)
  accepted_printed bytes store unix_time accepted old run is judged not5 not6 not8 =
      let r = answered h rooms disks outs errs run.words old run.room run.out run.out_after run.err
      run.err_after run.status is.is_run not5 not8 in
      let wrote = wrote_of outs errs (known_word run.words) run.out run.out_after run.err
      run.err_after r.reply run.status r.concludes not6 in
      let asked = ap (λ (q : Result CommandValue WordError). (facts h q).outcome (rooms.file old))
      is.spoken ∙ sym (outcome_planned h (verify is.certificate is.store_name unix_time)
      (rooms.file old)) ∙ verify_asked h (rooms.file old) is.certificate is.store_name unix_time
      bytes is.text store accepted is.has_bytes is.has_store is.store_read judged in
      let meets = subst (λ (w : Outcome). Meets w.answer r.reply) asked
      (r.is (inl is.is_modelled)) in (
        wrote.code ∙ ap status_of meets,
        subst (λ (q : Reply). Prints outs run.out run.out_after (out_of q)) meets wrote.text,
      )
