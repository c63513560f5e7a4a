use Rattle.std.proofs.Common.{◌≡◌, ◌∙◌, ℕ, IfOk, ap, arith, length, refl, subst}
use Rattle.std.specs.Prelude.{is_some}
use Rattle.byte_formats.proofs.Values.{err_is}
use Rattle.state_journal.proofs.Appended.{is_allowed}
use Rattle.issuance_log.specs.Folds.{more_entries, with_items}
use Rattle.issuance_log.specs.Records.{batch_record}
use Rattle.issuance_log.specs.Refusals.{BatchKeepsTo, batch_refusal}
use Rattle.issuance_log.specs.Words.{log_broken, log_end, view_of}
use Rattle.issuance_log.proofs.Answering.{batch_answer}
use Rattle.issuance_log.proofs.Changes.{batch_ready, batch_record_of, batch_taken_as, stored_by}
use Rattle.issuance_log.proofs.Leaving.{appends_from, appends_not}
use Rattle.issuance_log.proofs.TakenItems.{taken_together}
use Rattle.issuance_log.proofs.log.Log.add_all.Goals as goal

pub append_record-requires : goal.append_record-requires
append_record-requires g c =
    let log = c.args.self.now in
    let v = view_of log in
    let was = log.stored in
    let stored = c.prepare_items.ensures.stored in
    let items = c.args.items.now in
    let ready = c.in_ok-body.ensures in
    let text = c.as_slice.result.now in
    let text_is = c.as_slice.ensures ∙ ready.body in
    let taken = taken_together g.H.TreeHash.hash v items c.size-first.ensures.sound ready.size
    c.requires.each in
    let good =
    batch_record_of g.H.TreeHash.hash v items ready.batch ready.fits taken text text_is in
    record {
      some = good.some;
      few = good.few;
      sound = c.size-first.ensures.sound;
      allowed = is_allowed _ _ good.takes;
      capacity = record {
        capacity = batch_ready log.machine.numbers c.prepare_items.new.items text items text_is
            ready.batch ready.capacity;
        stored = stored_by g.H.TreeHash.hash v (more_entries (length items) v) text _ good.takes
            (omega arith);
      };
    }

pub returns-in_err-body-clause-appends : goal.returns-in_err-body-clause-appends
returns-in_err-body-clause-appends g c =
    let log = c.args.self.now in
    let same = ap (λ disk. is_some (g.T.Disk.contents disk)) c.prepare_items.ensures.disk in
    let items = c.args.items.now in
    appends_not log _ refl refl same (batch_record items) (more_entries (length items))
    (with_items items) c.from_residual.result c.in_err-body.field-0.0
    c.from_residual.ensures.1 c.in_err-body.ensures.before (g.met.D.Disk.only_now _)

pub returns-in_err-body-clause-tiles : goal.returns-in_err-body-clause-tiles
returns-in_err-body-clause-tiles g c = c.prepare_items.ensures.disk

pub returns-in_err-body-clause-answer : goal.returns-in_err-body-clause-answer
returns-in_err-body-clause-answer g c =
    let log = c.args.self.now in
    subst (BatchKeepsTo (batch_refusal (view_of log) (log_broken log) (log_end log)
    c.args.items.now)) (err_is c.from_residual.result c.in_err-body.field-0.0
    c.from_residual.ensures.1) (c.in_err-body.ensures.refused (log_broken log) (log_end log))

pub returns-clause-appends : goal.returns-clause-appends
returns-clause-appends g c =
    let log = c.args.self.now in
    let items = c.args.items.now in
    let ready = c.in_ok-body.ensures in
    appends_from log _ refl refl
    (ap (λ disk. is_some (g.T.Disk.contents disk)) c.prepare_items.ensures.disk) _
    c.as_slice.result.now (batch_record items) (more_entries (length items)) (with_items items) _
    (c.as_slice.ensures ∙ ready.body)
    (batch_taken_as g.H.TreeHash.hash (view_of log) items ready.batch ready.fits
    (taken_together g.H.TreeHash.hash (view_of log) items c.size-first.ensures.sound ready.size
    c.requires.each))
    (c.append_record.ensures.appends (more_entries (length items)) (with_items items))

pub returns-clause-tiles : goal.returns-clause-tiles
returns-clause-tiles g c = c.append_record.ensures.tiles ∙ c.prepare_items.ensures.disk

pub returns-clause-index : goal.returns-clause-index
returns-clause-index g c = subst (λ (n : ℕ). IfOk c.append_record.result (λ index. index ≡ n))
    c.size-first.ensures.value c.append_record.ensures.answer

pub returns-clause-answer : goal.returns-clause-answer
returns-clause-answer g c =
    let log = c.args.self.now in
    let ready = c.in_ok-body.ensures in
    batch_answer (view_of log) (log_broken log) (log_end log) c.args.items.now
    c.as_slice.result.now (c.as_slice.ensures ∙ ready.body) ready.size ready.fits ready.large _
    c.append_record.ensures.refusal
