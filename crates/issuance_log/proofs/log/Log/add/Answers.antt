use Rattle.std.proofs.Common.{◌≡◌, ◌∙◌, ℕ, IfOk, ap, arith, refl, subst}
use Rattle.std.specs.Prelude.{is_some}
use Rattle.byte_formats.proofs.Values.{err_is}
use Rattle.state_journal.proofs.Appended.{is_allowed}
use Rattle.issuance_log.specs.Folds.{one_item_more, with_item}
use Rattle.issuance_log.specs.Records.{entry_record}
use Rattle.issuance_log.specs.Refusals.{ItemKeepsTo, add_refusal}
use Rattle.issuance_log.specs.Words.{log_broken, log_end, view_of}
use Rattle.issuance_log.proofs.Answering.{added_answer}
use Rattle.issuance_log.proofs.Changes.{item_ready, item_record, item_taken_as, stored_by}
use Rattle.issuance_log.proofs.Leaving.{appends_from, appends_not}
use Rattle.issuance_log.proofs.log.Log.add.Goals as goal

pub append_record-requires : goal.append_record-requires
append_record-requires g c =
    let log = c.args.self.now in
    let v = view_of log in
    let was = log.stored in
    let stored = c.prepare_item.ensures.stored in
    let entry = c.args.entry.now in
    let key = c.args.spki.now in
    let ready = c.in_ok-body.ensures in
    let text = c.as_slice.result.now in
    let text_is = c.as_slice.ensures ∙ ready.body in
    let few = ready.few in
    let good =
    item_record g.H.TreeHash.hash v entry key ready.size ready.few c.requires.form
    c.requires.belongs text text_is in
    record {
      some = good.some;
      few = good.few;
      sound = c.size-index.ensures.sound;
      allowed = is_allowed _ _ good.takes;
      capacity = record {
        capacity = item_ready log.machine.numbers c.prepare_item.new.items text entry key text_is
            (omega arith) (omega arith) ready.capacity;
        stored = stored_by g.H.TreeHash.hash v (one_item_more v) text _ good.takes (omega arith);
      };
    }

pub returns-in_err-body-clause-appends : goal.returns-in_err-body-clause-appends
returns-in_err-body-clause-appends g c =
    let log = c.args.self.now in
    let same = ap (λ disk. is_some (g.T.Disk.contents disk)) c.prepare_item.ensures.disk in
    appends_not log _ refl refl same (entry_record c.args.entry.now c.args.spki.now) one_item_more
    (with_item c.args.entry.now c.args.spki.now) c.from_residual.result c.in_err-body.field-0.0
    c.from_residual.ensures.1 c.in_err-body.ensures.before (g.met.D.Disk.only_now _)

pub returns-in_err-body-clause-tiles : goal.returns-in_err-body-clause-tiles
returns-in_err-body-clause-tiles g c = c.prepare_item.ensures.disk

pub returns-in_err-body-clause-answer : goal.returns-in_err-body-clause-answer
returns-in_err-body-clause-answer g c =
    let log = c.args.self.now in
    subst (ItemKeepsTo (add_refusal (view_of log) (log_broken log) (log_end log) c.args.entry.now
    c.args.spki.now)) (err_is c.from_residual.result c.in_err-body.field-0.0
    c.from_residual.ensures.1) (c.in_err-body.ensures.refused (log_broken log) (log_end log))

pub returns-clause-appends : goal.returns-clause-appends
returns-clause-appends g c =
    let log = c.args.self.now in
    let entry = c.args.entry.now in
    let key = c.args.spki.now in
    let ready = c.in_ok-body.ensures in
    appends_from log _ refl refl
    (ap (λ disk. is_some (g.T.Disk.contents disk)) c.prepare_item.ensures.disk) _
    c.as_slice.result.now (entry_record entry key) one_item_more (with_item entry key) _
    (c.as_slice.ensures ∙ ready.body)
    (item_taken_as g.H.TreeHash.hash (view_of log) entry key ready.size ready.few c.requires.form
    c.requires.belongs)
    (c.append_record.ensures.appends one_item_more (with_item entry key))

pub returns-clause-tiles : goal.returns-clause-tiles
returns-clause-tiles g c = c.append_record.ensures.tiles ∙ c.prepare_item.ensures.disk

pub returns-clause-index : goal.returns-clause-index
returns-clause-index g c = subst (λ (n : ℕ). IfOk c.append_record.result (λ index. index ≡ n))
    c.size-index.ensures.value c.append_record.ensures.answer

pub returns-clause-answer : goal.returns-clause-answer
returns-clause-answer g c =
    let log = c.args.self.now in
    let ready = c.in_ok-body.ensures in
    added_answer (view_of log) (log_broken log) (log_end log) c.args.entry.now c.args.spki.now
    c.as_slice.result.now (c.as_slice.ensures ∙ ready.body) ready.size ready.few _
    c.append_record.ensures.refusal
