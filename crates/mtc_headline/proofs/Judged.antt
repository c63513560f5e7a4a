-- What `verify` accepted is what an audit takes as accepted; and how a run that goes well ends.
use Rattle.std.proofs.Common.{◌≡◌, ◌≢◌, inl, inr, ℕ, List, ◌++◌, Result, Ok, Err, codes, refl, sym}
use Rattle.std.proofs.Common.{subst, ap, ◌∙◌, arith}
use Rattle.std.specs.Prelude.{pos, ℤ}
use Rattle.byte_formats.specs.Readings.{◌>>=◌, lifted}
use Rattle.byte_formats.specs.Types.{HashFunction, Text}
use Rattle.byte_formats.proofs.Steps.{bind_ok}
use Rattle.cert_fields.specs.Certificate.{Parts, parts_of}
use Rattle.disk_core.specs.declared.disk.Disk.{Ghosts as Disks}
use Rattle.mtc_io.specs.declared.sink.Sink.{Ghosts as Sinks}
use Rattle.mtc_room.specs.declared.room.Room.{Ghosts as Rooms}
use Rattle.mtc_proof.specs.Proofs.{ProofParts}
use Rattle.mtc_proof.specs.Reading.{proof_in}
use Rattle.policy_core.specs.Files.{store_of}
use Rattle.policy_core.specs.Judgement.{admitted, judged, judgement}
use Rattle.policy_core.specs.Reasons.{store_fault_text}
use Rattle.policy_core.specs.declared.answer.Accepted.{Accepted}
use Rattle.policy_core.specs.declared.refusal.Refusal.{Refusal}
use Rattle.policy_core.specs.declared.refusal.Refusal.TheVariants.{Grammar, ProofGrammar}
use Rattle.policy_core.specs.declared.store.Store.{Store}
use Rattle.mtc_words.specs.Commands.{CommandValue, verify}
use Rattle.mtc_words.specs.Words.{known_word}
use Rattle.mtc_words.specs.declared.error.WordError.{WordError}
use Rattle.mtc_command.specs.Answers.{Reply, status_of}
use Rattle.mtc_command.specs.Steps.{Files, Outcome, with_bytes, with_form}
use Rattle.mtc_command.specs.Wanted.{Meets}
use Rattle.mtc_command.proofs.Inputs.{bytes_read}
use Rattle.mtc_relying.specs.AuditOutcome.{AcceptedParts, accepted_in}
use Rattle.mtc_relying.specs.VerifyOutcome.{verdict_says, verify_outcome, verify_says}
use Rattle.mtc_plans.proofs.Planned.{outcome_planned}
use Rattle.mtc_laws.specs.AuditLaws.{HoldsText}
use Rattle.mtc_laws.specs.CertLaws.{HasVerified}
use Rattle.mtc_laws.proofs.RunLaws.{run_shows}
use Rattle.mtc_top.specs.Executions.{Run, program}
use Rattle.mtc_top.specs.Facts.{facts}
use Rattle.mtc_top.proofs.Runs.{answered, not5_of, wrote_of}
use Rattle.mtc_headline.specs.Endings.{GoodRunsAnswer}
use Rattle.mtc_headline.specs.Joints.{VerifiedCanBeAudited}

-- ---- the judgement

-- what is accepted was read
parts_read : (h : HashFunction) (bytes : Text) (store : Store) (now : ℤ) (a : Accepted)
    → judgement h bytes store now ≡ Ok a → (j : AcceptedParts)
    × (accepted_in h bytes store now ≡ Ok j)
unfolding judgement judged
parts_read h bytes store now a is =
    let c = bind_ok (lifted Grammar (parts_of bytes)) (judged h store now) a is in
    let done = bind_ok (admitted store now c.0) _ a c.2 in
    let p = bind_ok (lifted ProofGrammar (proof_in c.0.proof)) _ a done.2 in
    let j : AcceptedParts = record { accepted = a; cert = c.0; proof = p.0 } in (
      j,
      ap (λ (r : Result Accepted Refusal). r >>= λ b. lifted Grammar (parts_of bytes) >>= λ d.
          lifted ProofGrammar (proof_in d.proof) >>= λ q.
          Ok (record { accepted = b; cert = d; proof = q })) is
          ∙ ap (λ (r : Result Parts Refusal). r >>= λ d.
          lifted ProofGrammar (proof_in d.proof) >>= λ q.
          Ok (record { accepted = a; cert = d; proof = q })) c.1
          ∙ ap (λ (r : Result ProofParts Refusal). r >>= λ q.
          Ok (record { accepted = a; cert = c.0; proof = q })) p.1,
    )

-- a reply with status 0 is that of an acceptance
verdict_ok : (cert : Text) (r : Result Accepted Refusal) (reply : Reply)
    → Meets (verdict_says cert r).answer reply → status_of reply ≡ 0 → (a : Accepted) × (r ≡ Ok a)
verdict_ok cert (Ok a) reply meets zero_ = (a, refl)
verdict_ok cert (Err (Grammar why)) reply meets zero_ =
    let two = sym (ap status_of meets) ∙ zero_ in absurd (omega (arith, two))
verdict_ok cert (Err (ProofGrammar why)) reply meets zero_ =
    let two = sym (ap status_of meets) ∙ zero_ in absurd (omega (arith, two))
verdict_ok cert (Err why) reply meets zero_ =
    let three = sym (ap status_of meets) ∙ zero_ in absurd (omega (arith, three))

-- ---- the command

verify_asked : (h : HashFunction) (files : Files) (cert store : List ℕ) (unix_time : ℕ)
    (bytes text : List ℕ) (s : Store) → HoldsText files cert 16777216 bytes
    → HoldsText files store 16777216 text → store_of text ≡ Ok s
    → verify_outcome h cert store unix_time files
    ≡ verdict_says cert (judgement h bytes s (pos unix_time))
verify_asked h files cert store unix_time bytes text s has_cert has_store read =
    bytes_read 16777216 cert (files cert) bytes
    (λ b. with_bytes 16777216 store (files store) (verify_says h cert store unix_time b))
    has_cert.there has_cert.few
    ∙ bytes_read 16777216 store (files store) text (verify_says h cert store unix_time bytes)
    has_store.there has_store.few
    ∙ ap (λ r. with_form store_fault_text store r
    (λ x. verdict_says cert (judgement h bytes x (pos unix_time)))) read

module _ {R S D O E : Type 0} (h : HashFunction) (rooms : Rooms R S D) (disks : Disks D)
    (outs : Sinks O) (errs : Sinks E) where
  pub verified_audited : VerifiedCanBeAudited h (program h rooms disks outs errs)
  verified_audited bytes store unix_time old run is zero_ =
      let r = answered h rooms disks outs errs run.words old run.room run.out run.out_after run.err
      run.err_after run.status is.is_run (λ five. omega (arith, five, zero_))
      (λ eight. omega (arith, eight, zero_)) in
      let wrote = wrote_of outs errs (known_word run.words) run.out run.out_after run.err
      run.err_after r.reply run.status r.concludes (λ six. omega (arith, six, zero_)) in
      let asked = ap (λ (q : Result CommandValue WordError). (facts h q).outcome (rooms.file old))
      is.spoken ∙ sym (outcome_planned h (verify is.certificate is.store_name unix_time)
      (rooms.file old)) ∙ verify_asked h (rooms.file old) is.certificate is.store_name unix_time
      bytes is.text store is.has_bytes is.has_store is.store_read in
      let a = verdict_ok is.certificate (judgement h bytes store (pos unix_time)) r.reply
      (subst (λ (w : Outcome). Meets w.answer r.reply) asked (r.is (inl is.is_modelled)))
      (sym wrote.code ∙ zero_) in
      parts_read h bytes store (pos unix_time) a.0 a.1

  pub good_answer : GoodRunsAnswer (program h rooms disks outs errs)
  good_answer old run is_run well =
      let shows = run_shows h rooms disks outs errs run.words old run.room run.out run.out_after
      run.err run.err_after run.status is_run in
      let a = shows.complete well.files well.output well.memory in (
        not5_of outs errs (known_word run.words) run.out run.out_after run.err run.err_after
            a.1.reply run.status a.1.concludes,
        a.0,
        well.memory,
      )
