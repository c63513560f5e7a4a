-- A run of `quarrel` over the export of a cosigner that signed one interval with two hashes.
use Rattle.std.proofs.Common.{◌≡◌, inl, ℕ, List, Some, Result, Ok, sym, subst, ap}
use Rattle.std.proofs.Common.{◌∙◌}
use Rattle.std.specs.Prelude.{◌≢◌}
use Rattle.byte_formats.specs.Offsets.{IsBytes}
use Rattle.byte_formats.specs.Types.{HashFunction}
use Rattle.disk_core.specs.declared.disk.Disk.{Ghosts as Disks}
use Rattle.mtc_io.specs.declared.sink.Sink.{Ghosts as Sinks}
use Rattle.mtc_room.specs.declared.room.Room.{Ghosts as Rooms}
use Rattle.mtc_words.specs.Commands.{CommandValue, quarrel}
use Rattle.mtc_words.specs.Words.{command_of, known_word}
use Rattle.mtc_words.specs.declared.error.WordError.{WordError}
use Rattle.cosigner_core.specs.ExportReading.{export_in}
use Rattle.cosigner_core.specs.declared.lists.Export.{Export}
use Rattle.cosigner_core.specs.declared.step.Step.{Step}
use Rattle.cosigner_core.specs.declared.step.Step.TheVariants.{Sign}
use Rattle.quarrel_core.proofs.FoundSigns.{HasQuarrel, signs_found}
use Rattle.mtc_plans.proofs.Planned.{outcome_planned}
use Rattle.mtc_command.specs.Answers.{Reply, said, refused, out_of, status_of}
use Rattle.mtc_command.specs.Steps.{Files, Outcome, with_form}
use Rattle.mtc_command.specs.Wanted.{Meets}
use Rattle.mtc_command.proofs.Inputs.{bytes_read}
use Rattle.mtc_command.proofs.Made.{OnlyNow, ReadsCrashState}
use Rattle.mtc_relying.specs.QuarrelOutcome.{quarrel_by, quarrel_kept, quarrel_outcome}
use Rattle.mtc_relying.specs.QuarrelOutcome.{quarrel_says}
use Rattle.cosigner_core.specs.Reasons.{export_fault_text}
use Rattle.mtc_laws.specs.AuditLaws.{HoldsText}
use Rattle.mtc_top.specs.Concluded.{Prints}
use Rattle.mtc_top.specs.Facts.{facts}
use Rattle.mtc_laws.specs.QuarrelLaws.{Convicts, HasSignedTwice, TwoSignaturesCollide}
use Rattle.mtc_laws.proofs.Audits.{exported_after}
use Rattle.mtc_top.proofs.Runs.{answered, wrote_of}
use Rattle.mtc_top.specs.Executions.{program, Run}
use Rattle.mtc_laws.proofs.Aliases.{IsRun}
use Rattle.mtc_laws.proofs.Aliases.{ModelsFiles}

-- An export in which two signatures are in conflict.
pub record IsInConflict (h : HashFunction) (text : List ℕ) : Type 0 where
  pub export : Export
  pub read : export_in h text ≡ Ok (Some export)
  pub found : HasQuarrel export.steps

-- what is asked for
asked : (h : HashFunction) (files : Files) (kept text : List ℕ)
    → HoldsText files kept 8589934592 text → (is : IsInConflict h text)
    → quarrel_outcome h kept files ≡ quarrel_by h is.export.steps (Some is.found.0)
asked h files kept text holds is =
    bytes_read 8589934592 kept (files kept) text (quarrel_says h kept) holds.there holds.few
    ∙ ap (λ r. with_form export_fault_text kept r (quarrel_kept h)) is.read
    ∙ ap (quarrel_by h is.export.steps) is.found.1

module _ {R S D O E : Type 0} (h : HashFunction) (rooms : Rooms R S D) (disks : Disks D)
    (outs : Sinks O) (errs : Sinks E) where
  by_reply : (run : Run R O E) (steps : List Step) (keys : ℕ × ℕ) (reply : Reply)
      → Meets (quarrel_by h steps (Some keys)).answer reply → run.status ≡ status_of reply
      → Prints outs run.out run.out_after (out_of reply)
      → Convicts h (program h rooms disks outs errs) run
  by_reply run steps keys (said kind out) meets code text = record {
    keys = keys;
    one = meets.1.x;
    other = meets.1.y;
    code = code ∙ ap (λ k. status_of (said k out)) meets.0;
    differ = meets.1.differ;
    one_hash = meets.1.one_hash;
    printed = subst (λ (t : List ℕ). Prints outs run.out run.out_after t) meets.1.is text;
  }
  by_reply run steps keys (refused why file reason) meets code text = absurd meets

  -- each run of `quarrel` over such an export shows the two strings
  pub conflict_convicts : (old : R) (run : Run R O E) (kept kept_text : List ℕ)
      → rooms.is_modelled old → IsRun h rooms disks outs errs old run
      → command_of run.words ≡ Ok (quarrel kept)
      → HoldsText (rooms.file old) kept 8589934592 kept_text → IsInConflict h kept_text
      → run.status ≢ 5 → run.status ≢ 6 → run.status ≢ 8
      → Convicts h (program h rooms disks outs errs) run
  conflict_convicts old run kept kept_text is_modelled is_run spoken holds is not5 not6 not8 =
      let a = answered h rooms disks outs errs run.words old run.room run.out run.out_after
      run.err run.err_after run.status is_run not5 not8 in
      let wrote = wrote_of outs errs (known_word run.words) run.out run.out_after run.err
      run.err_after a.reply run.status a.concludes not6 in
      let wanted = ap (λ (q : Result CommandValue WordError). (facts h q).outcome (rooms.file old))
      spoken ∙ sym (outcome_planned h (quarrel kept) (rooms.file old))
      ∙ asked h (rooms.file old) kept kept_text holds is in
      by_reply run is.export.steps is.found.0 a.reply
      (subst (λ (w : Outcome). Meets w.answer a.reply) wanted (a.is (inl is_modelled)))
      wrote.code wrote.text

module _ {R S D O E : Type 0} (h : HashFunction) (rooms : Rooms R S D) (disks : Disks D)
    (outs : Sinks O) (errs : Sinks E) (crash_state : ReadsCrashState disks) (only : OnlyNow disks)
    (contents : ModelsFiles rooms disks)
    (bytes : (d : D) (b : List ℕ) → disks.contents d ≡ Some b → IsBytes b) where
  in_conflict : (kept_text : List ℕ) → HasSignedTwice h (program h rooms disks outs errs) kept_text
      → IsInConflict h kept_text
  in_conflict kept_text by =
      let both = exported_after h rooms disks outs errs crash_state only contents bytes by.signer
      kept_text by.exported in
      let e = both.0 in
      let same = both.1 in
      let one = by.one_signed in
      let other = by.other_signed in
      record {
        export = e.export;
        read = ap (export_in h) same ∙ e.read;
        found = signs_found e.export.steps one.index other.index by.start by.end by.one by.other
            one.proof other.proof
            (e.signed by.signer.first one.prefix one.more one.body
            (Sign one.index by.start by.end by.one one.proof) one.held one.signs)
            (e.signed by.signer.first other.prefix other.more other.body
            (Sign other.index by.start by.end by.other other.proof) other.held other.signs)
            by.differ;
      }

  pub two_signatures_collide : TwoSignaturesCollide h (program h rooms disks outs errs)
  two_signatures_collide old run kept kept_text is_modelled is_run spoken holds by =
      conflict_convicts h rooms disks outs errs old run kept kept_text is_modelled is_run spoken
      holds (in_conflict kept_text by)
