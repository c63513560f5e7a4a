use Rattle.std.proofs.Common.{◌≡◌, ◌∙◌, ℕ, IfOk, refl, subst}
use Rattle.byte_formats.proofs.Values.{err_is}
use Rattle.state_journal.proofs.Appended.{is_allowed}
use Rattle.issuance_log.specs.Folds.{switched_now, with_switch}
use Rattle.issuance_log.specs.Records.{switch_record}
use Rattle.issuance_log.specs.Refusals.{SwitchKeepsTo, switch_refusal}
use Rattle.issuance_log.specs.Words.{log_broken, log_end, view_of}
use Rattle.issuance_log.proofs.Answering.{switched_answer}
use Rattle.issuance_log.proofs.Changes.{stored_by, switch_ready, switch_record_of, switch_taken_as}
use Rattle.issuance_log.proofs.Leaving.{appends_from, appends_not}
use Rattle.issuance_log.proofs.log.Log.switch.Goals as goal

pub append_record-requires : goal.append_record-requires
append_record-requires g c =
    let log = c.args.self.now in
    let v = view_of log in
    let text = c.as_slice.result.now in
    let text_is = c.as_slice.ensures ∙ c.in_ok-body.ensures.body in
    let good = switch_record_of g.H.TreeHash.hash v c.size-size.ensures.sound
    c.in_ok-body.ensures.first text text_is in
    record {
      some = good.some;
      few = good.few;
      sound = c.size-size.ensures.sound;
      allowed = is_allowed _ _ good.takes;
      capacity = record {
        capacity = switch_ready log.machine.numbers log.machine.items text v.size text_is;
        stored = stored_by g.H.TreeHash.hash v (switched_now v) text _ good.takes log.stored;
      };
    }

pub returns-in_err-body-clause-appends : goal.returns-in_err-body-clause-appends
returns-in_err-body-clause-appends g c =
    let log = c.args.self.now in
    appends_not log _ refl refl refl (switch_record (view_of log).size) switched_now with_switch
    c.from_residual.result c.in_err-body.field-0.0 c.from_residual.ensures.1
    c.in_err-body.ensures.before (g.met.D.Disk.only_now _)

pub returns-in_err-body-clause-answer : goal.returns-in_err-body-clause-answer
returns-in_err-body-clause-answer g c =
    let log = c.args.self.now in
    subst (SwitchKeepsTo (switch_refusal (view_of log) (log_broken log) (log_end log)))
    (err_is c.from_residual.result c.in_err-body.field-0.0 c.from_residual.ensures.1)
    (c.in_err-body.ensures.refused (log_broken log) (log_end log))

pub returns-clause-appends : goal.returns-clause-appends
returns-clause-appends g c =
    let log = c.args.self.now in
    let h = g.H.TreeHash.hash in
    appends_from log _ refl refl refl _ c.as_slice.result.now (switch_record (view_of log).size)
    switched_now with_switch _ (c.as_slice.ensures ∙ c.in_ok-body.ensures.body)
    (switch_taken_as h (view_of log) c.size-size.ensures.sound c.in_ok-body.ensures.first)
    (c.append_record.ensures.appends switched_now with_switch)

pub returns-clause-tiles : goal.returns-clause-tiles
returns-clause-tiles g c = c.append_record.ensures.tiles

pub returns-clause-index : goal.returns-clause-index
returns-clause-index g c = subst (λ (n : ℕ). IfOk c.append_record.result (λ index. index ≡ n))
    c.size-size.ensures.value c.append_record.ensures.answer

pub returns-clause-answer : goal.returns-clause-answer
returns-clause-answer g c =
    let log = c.args.self.now in
    switched_answer (view_of log) (log_broken log) (log_end log) c.as_slice.result.now
    (c.as_slice.ensures ∙ c.in_ok-body.ensures.body) c.in_ok-body.ensures.first _
    c.append_record.ensures.refusal
