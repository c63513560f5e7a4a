-- A run of `export` over a journal with the records of two signatures in conflict.
use Rattle.std.proofs.Common.{◌≡◌, ℕ, List, drop, Some, sym, subst, ap, ◌∙◌}
use Rattle.std.proofs.lemmas.Option.{same_Some}
use Rattle.std.specs.Prelude.{Contains}
use Rattle.byte_formats.specs.Offsets.{IsBytes}
use Rattle.byte_formats.specs.Types.{HashFunction, Text}
use Rattle.disk_core.specs.declared.disk.Disk.{Ghosts as Disks}
use Rattle.file_events.proofs.Records.{one_list}
use Rattle.journal_core.specs.Format.{Represents}
use Rattle.journal_core.proofs.Standing.{found_stands}
use Rattle.mtc_io.specs.declared.sink.Sink.{Ghosts as Sinks}
use Rattle.mtc_room.specs.declared.room.Room.{Ghosts as Rooms}
use Rattle.mtc_words.specs.Commands.{export}
use Rattle.cosigner_core.specs.ExportReading.{export_in, export_of}
use Rattle.cosigner_core.specs.Exports.{export_text}
use Rattle.cosigner_core.specs.Folds.{cosigner_fold}
use Rattle.cosigner_core.specs.Progress.{steps_in}
use Rattle.cosigner_core.specs.declared.step.Step.{Step}
use Rattle.cosigner_core.specs.declared.step.Step.TheVariants.{Sign}
use Rattle.cosigner_core.proofs.ExportAgain.{export_again}
use Rattle.quarrel_core.proofs.FoundSigns.{signs_found}
use Rattle.mtc_plans.specs.Heard.{ExportsSo}
use Rattle.mtc_plans.proofs.Heard.{exported_so}
use Rattle.mtc_laws.proofs.Audits.{printed_text}
use Rattle.mtc_laws.proofs.Convicted.{IsInConflict, conflict_convicts}
use Rattle.mtc_laws.proofs.Exports.{step_there}
use Rattle.mtc_laws.proofs.Printed.{heard_so}
use Rattle.mtc_laws.proofs.HeardBytes.{done_heard}
use Rattle.mtc_laws.proofs.HeardRuns.{file_bytes, streamed_so}
use Rattle.mtc_laws.proofs.Aliases.{ModelsFiles}
use Rattle.mtc_top.specs.Executions.{program}
use Rattle.mtc_laws.specs.RecordedTwice.{HasRecordedTwice, RecordedSignaturesCollide}
use Rattle.mtc_laws.specs.RecordedTwice.{SignIsRecorded}

-- the step of a recorded signature is one of the records'
sign_there : (list : List Text) (steps : List Step) (start end : ℕ) (hash : List ℕ)
    → steps_in (drop 1 list) ≡ Some steps → (s : SignIsRecorded list start end hash)
    → Contains steps (Sign s.index start end hash s.proof)
sign_there list steps start end hash are s =
    step_there s.prefix s.body s.more steps (Sign s.index start end hash s.proof)
    (subst (λ (l : List Text). steps_in (drop 1 l) ≡ Some steps) s.is are) s.signs

module _ {R S D O E : Type 0} (h : HashFunction) (rooms : Rooms R S D) (disks : Disks D)
    (outs : Sinks O) (errs : Sinks E)
    (contents : ModelsFiles rooms disks)
    (bytes : (d : D) (b : List ℕ) → disks.contents d ≡ Some b → IsBytes b) where
  recorded_conflict : (kept_text : List ℕ)
      → HasRecordedTwice h (program h rooms disks outs errs) kept_text → IsInConflict h kept_text
  recorded_conflict kept_text by =
      let old = by.old in
      let heard = done_heard by.run.status (outs.taken by.run.out)
      (outs.taken by.run.out_after) by.done in
      let s = heard_so h rooms disks outs errs old by.run (export by.name) by.spoken by.is_modelled
      by.has_run heard (ExportsSo h (rooms.file old) by.name)
      (exported_so h (rooms.file old) by.name) in
      let are = file_bytes disks (rooms.file old by.name) (rooms.device old by.name) s.held bytes
      (contents.0 old by.name by.is_modelled) s.there in
      let stands = found_stands (cosigner_fold h) s.held s.found are s.is_cosigner in
      let again = export_again h s.held s.found.records s.found.state are stands.0 stands.1 in
      let file : s.held ≡ by.bytes = same_Some s.held by.bytes (sym s.there ∙ by.there) in
      let list : s.found.records ≡ by.list =
      one_list by.bytes s.found.records by.list
      (subst (λ (c : Text). Represents c s.found.records) file stands.0) by.stands in
      let steps : steps_in (drop 1 by.list) ≡ Some again.0 =
      subst (λ (l : List Text). steps_in (drop 1 l) ≡ Some again.0) list again.1 in
      let out = streamed_so h rooms disks outs errs old by.run by.has_run heard
      (export_text s.found.state s.found.records) s.reply_is in
      let same = printed_text (outs.taken by.run.out) (outs.taken by.run.out_after) by.before
      kept_text (export_text s.found.state s.found.records) by.contents by.printed
      (out.whole by.done) in
      let one = by.one_recorded in
      let other = by.other_recorded in
      record {
        export = export_of s.found.state again.0;
        read = ap (export_in h) same ∙ again.2;
        found = signs_found again.0 one.index other.index by.start by.end by.one by.other one.proof
            other.proof (sign_there by.list again.0 by.start by.end by.one steps one)
            (sign_there by.list again.0 by.start by.end by.other steps other) by.differ;
      }

  pub recorded_signatures_collide : RecordedSignaturesCollide h (program h rooms disks outs errs)
  recorded_signatures_collide old run kept kept_text is_modelled is_run spoken holds by =
      conflict_convicts h rooms disks outs errs old run kept kept_text is_modelled is_run spoken
      holds (recorded_conflict kept_text by)
