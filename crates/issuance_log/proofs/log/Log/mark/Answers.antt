use Rattle.std.proofs.Common.{◌≡◌, ◌∙◌, ℕ, ◌+◌, List, length, ap, arith, refl, subst}
use Rattle.std.proofs.lemmas.Result.{IfOk-weaker}
use Rattle.byte_formats.proofs.Values.{err_is}
use Rattle.state_journal.proofs.Appended.{is_allowed}
use Rattle.issuance_log.specs.Folds.{LogView, next_view, one_mark_more, with_mark}
use Rattle.issuance_log.specs.Records.{landmark_record}
use Rattle.issuance_log.specs.Refusals.{MarkKeepsTo, mark_refusal}
use Rattle.issuance_log.specs.Sound.{HasSoundNumbers}
use Rattle.issuance_log.specs.Words.{log_broken, log_end, view_of}
use Rattle.issuance_log.proofs.Answering.{marked_answer}
use Rattle.issuance_log.proofs.Changes.{mark_ready, mark_record, mark_taken_as, stored_by}
use Rattle.issuance_log.proofs.Growth.{size_fits}
use Rattle.issuance_log.proofs.Leaving.{appends_from, appends_not}
use Rattle.issuance_log.proofs.log.Log.mark.Goals as goal

pub append_record-requires : goal.append_record-requires
append_record-requires g c =
    let log = c.args.self.now in
    let v = view_of log in
    let same = c.prepare_mark.ensures.same in
    let sound = subst HasSoundNumbers same c.size-size.ensures.sound in
    let text = c.as_slice.result.now in
    let text_is = c.as_slice.ensures ∙ c.in_ok-body.ensures.body in
    let small = size_fits v sound in
    let good =
    mark_record g.H.TreeHash.hash v sound c.in_ok-body.ensures.above text text_is in
    let takes = ap (λ (u : LogView). next_view g.H.TreeHash.hash u text) same ∙ good.takes in
    record {
      some = good.some;
      few = good.few;
      sound = c.size-size.ensures.sound;
      allowed = is_allowed _ _ takes;
      capacity = record {
        capacity = mark_ready c.prepare_mark.new.numbers log.machine.items text v.size text_is
            (omega arith) c.in_ok-body.ensures.capacity;
        stored = stored_by g.H.TreeHash.hash _ (one_mark_more v) text _ takes log.stored;
      };
    }

pub returns-in_err-body-clause-appends : goal.returns-in_err-body-clause-appends
returns-in_err-body-clause-appends g c =
    let log = c.args.self.now in
    appends_not log _ refl c.prepare_mark.ensures.same refl (landmark_record (view_of log).size)
    one_mark_more with_mark c.from_residual.result c.in_err-body.field-0.0
    c.from_residual.ensures.1 c.in_err-body.ensures.before (g.met.D.Disk.only_now _)

pub returns-in_err-body-clause-answer : goal.returns-in_err-body-clause-answer
returns-in_err-body-clause-answer g c =
    let log = c.args.self.now in
    subst (MarkKeepsTo (mark_refusal (view_of log) (log_broken log) (log_end log)))
    (err_is c.from_residual.result c.in_err-body.field-0.0 c.from_residual.ensures.1)
    (c.in_err-body.ensures.refused (log_broken log) (log_end log))

pub returns-clause-appends : goal.returns-clause-appends
returns-clause-appends g c =
    let log = c.args.self.now in
    let h = g.H.TreeHash.hash in
    let same = c.prepare_mark.ensures.same in
    appends_from log _ refl same refl _ c.as_slice.result.now (landmark_record (view_of log).size)
    one_mark_more with_mark _ (c.as_slice.ensures ∙ c.in_ok-body.ensures.body)
    (mark_taken_as h (view_of log) (subst HasSoundNumbers same c.size-size.ensures.sound)
    c.in_ok-body.ensures.above) (c.append_record.ensures.appends one_mark_more with_mark)

pub returns-clause-tiles : goal.returns-clause-tiles
returns-clause-tiles g c = c.append_record.ensures.tiles

pub returns-clause-number : goal.returns-clause-number
returns-clause-number g c =
    let marks : List ℕ = (view_of c.args.self.now).marks in
    let same : c.marks.result.now ≡ marks =
    c.marks.ensures.value ∙ ap (λ (v : LogView). v.marks) c.prepare_mark.ensures.same in
    IfOk-weaker c.append_record.result
    (λ (x : ℕ × ℕ). x ≡ (length c.marks.result.now + 1, c.size-size.result))
    (λ (x : ℕ × ℕ). x.0 ≡ length marks + 1) (λ x is. ap (λ (y : ℕ × ℕ). y.0) is
    ∙ ap (λ (l : List ℕ). length l + 1) same) c.append_record.ensures.answer

pub returns-clause-size : goal.returns-clause-size
returns-clause-size g c =
    let size : ℕ = (view_of c.args.self.now).size in
    let same : c.size-size.result ≡ size =
    c.size-size.ensures.value ∙ ap (λ (v : LogView). v.size) c.prepare_mark.ensures.same in
    IfOk-weaker c.append_record.result
    (λ (x : ℕ × ℕ). x ≡ (length c.marks.result.now + 1, c.size-size.result))
    (λ (x : ℕ × ℕ). x.1 ≡ size) (λ x is. ap (λ (y : ℕ × ℕ). y.1) is ∙ same)
    c.append_record.ensures.answer

pub returns-clause-answer : goal.returns-clause-answer
returns-clause-answer g c =
    let log = c.args.self.now in
    marked_answer (view_of log) (log_broken log) (log_end log) c.as_slice.result.now
    (c.as_slice.ensures ∙ c.in_ok-body.ensures.body) c.in_ok-body.ensures.above _
    c.append_record.ensures.refusal
