use Rattle.std.proofs.Common.{ℕ, ap, arith, length, refl, subst}
use Rattle.std.proofs.Common.{sym, ◌∙◌, None, Err}
use Rattle.std.specs.Prelude.{is_some}
use Rattle.byte_formats.specs.Types.{Text}
use Rattle.byte_formats.proofs.Values.{err_is}
use Rattle.state_journal.proofs.Appended.{is_allowed}
use Rattle.mirror_core.specs.Folds.{more_mirrored, with_mirrored}
use Rattle.mirror_core.specs.Kept.{HasBatchCapacity}
use Rattle.mirror_core.specs.Records.{mirror_batch_record}
use Rattle.mirror_core.specs.Refusals.{TakeKeepsTo, next_batch, pairs_of, take_refusal}
use Rattle.mirror_core.specs.Refusals.{MirrorCountsAll}
use Rattle.mirror_core.specs.Words.{IsMirroredAs, MirrorAppends, mirror_broken, mirror_disk}
use Rattle.mirror_core.specs.Words.{mirror_end, mirror_view}
use Rattle.mirror_core.proofs.Answering.{taken_answer}
use Rattle.mirror_core.proofs.Batching.{batch_few}
use Rattle.mirror_core.proofs.Changes.{all_taken, batch_ready, batch_record_of, batch_taken_as}
use Rattle.mirror_core.proofs.Changes.{stored_by}
use Rattle.mirror_core.proofs.Encoded.{length-batch}
use Rattle.mirror_core.proofs.Leaving.{appends_from, appends_moved, counts_all}
use Rattle.mirror_core.proofs.mirror.Mirror.append_new.Goals as goal

pub append_record-requires : goal.append_record-requires
append_record-requires g c =
    let h = g.H.TreeHash.hash in
    let mirror = c.args.self.now in
    let v = mirror_view mirror in
    let was = mirror.stored in
    let ready = c.in_ok-body.ensures in
    let stored = c.prepare_batch.ensures.stored in
    let ys = pairs_of c.args.items.now in
    let new = next_batch c.size-size.result ys in
    let text = c.as_slice-2.result.now in
    let text_is = c.as_slice-2.ensures ∙ ready.body in
    let count = ready.count in
    let value = c.size-size.ensures.value in
    let few = c.size-size.ensures.sound.few in
    let taken = all_taken h v new (omega (arith, count, value, few, c.if-count-size.false))
    ready.each in
    let good = batch_record_of h v new ready.batch taken text text_is
    (batch_few ys c.size-size.result) in
    record {
      some = good.some;
      few = good.few;
      allowed = is_allowed _ _ good.takes;
      capacity = record {
        capacity = batch_ready c.prepare_batch.new.kept text new text_is ready.batch
            (subst (λ (n : ℕ). HasBatchCapacity n c.prepare_batch.new.kept) count ready.capacity);
        stored = stored_by h v (more_mirrored (length new) v) text _ good.takes (omega arith);
      };
    }

pub refuse_long-requires-clause-some : goal.refuse_long-requires-clause-some
refuse_long-requires-clause-some g c =
    let new = next_batch c.size-size.result (pairs_of c.args.items.now) in
    let size = ap length (c.as_slice.ensures ∙ c.in_ok-body.ensures.body) ∙ length-batch new in
    omega (arith, size)

pub refuse_long-requires-clause-few : goal.refuse_long-requires-clause-few
refuse_long-requires-clause-few g c =
    let ys = pairs_of c.args.items.now in
    let new = next_batch c.size-size.result ys in
    let size = ap length (c.as_slice.ensures ∙ c.in_ok-body.ensures.body) ∙ length-batch new in
    let few = batch_few ys c.size-size.result in
    omega (arith, size, few)

pub returns-in_err-body-clause-answer : goal.returns-in_err-body-clause-answer
returns-in_err-body-clause-answer g c =
    let mirror = c.args.self.now in
    subst (TakeKeepsTo (take_refusal None (mirror_view mirror).size (mirror_broken mirror)
    (mirror_end mirror) (pairs_of c.args.items.now)))
    (err_is c.from_residual.result c.in_err-body.field-0.0 c.from_residual.ensures.1)
    (subst (λ (n : ℕ). TakeKeepsTo (take_refusal None n (mirror_broken mirror) (mirror_end mirror)
    (pairs_of c.args.items.now)) (Err c.in_err-body.field-0.0)) c.size-size.ensures.value
    (c.in_err-body.ensures.refused (mirror_broken mirror) (mirror_end mirror)))

pub returns-in_err-body-clause-cause : goal.returns-in_err-body-clause-cause
returns-in_err-body-clause-cause g c =
    let faults = g.D.Disk.faults (mirror_disk c.args.self.now) in
    subst (MirrorCountsAll faults faults)
    (err_is c.from_residual.result c.in_err-body.field-0.0 c.from_residual.ensures.1)
    (c.in_err-body.ensures.counts faults)

pub returns-then-count-size-clause-appends : goal.returns-then-count-size-clause-appends
returns-then-count-size-clause-appends g c =
    let mirror = c.args.self.now in
    let ys = pairs_of c.args.items.now in
    let new = next_batch c.size-size.result ys in
    subst (λ (n : ℕ). MirrorAppends (mirror_batch_record (next_batch n ys))
    (more_mirrored (length (next_batch n ys))) (with_mirrored (next_batch n ys)) mirror
    c.refuse_long.new.self c.refuse_long.result) c.size-size.ensures.value
    (appends_moved mirror _ refl refl
    (ap (λ disk. is_some (g.T.Disk.contents disk)) c.prepare_batch.ensures.disk) _
    c.as_slice.result.now (mirror_batch_record new) (more_mirrored (length new))
    (with_mirrored new) c.refuse_long.result (c.as_slice.ensures ∙ c.in_ok-body.ensures.body)
    (c.refuse_long.ensures.appends (more_mirrored (length new)) (with_mirrored new)))

pub returns-then-count-size-clause-answer : goal.returns-then-count-size-clause-answer
returns-then-count-size-clause-answer g c =
    let mirror = c.args.self.now in
    let ready = c.in_ok-body.ensures in
    subst (λ (n : ℕ). TakeKeepsTo (take_refusal None n (mirror_broken mirror) (mirror_end mirror)
    (pairs_of c.args.items.now)) c.refuse_long.result) c.size-size.ensures.value
    (taken_answer c.size-size.result (mirror_broken mirror) (mirror_end mirror)
    (pairs_of c.args.items.now) c.as_slice.result.now (c.as_slice.ensures ∙ ready.body) ready.new
    ready.small c.refuse_long.result c.refuse_long.ensures.refusal)

pub returns-then-count-size-clause-cause : goal.returns-then-count-size-clause-cause
returns-then-count-size-clause-cause g c =
    let did = c.refuse_long.ensures.appends (λ v. v) (λ s. s) in
    counts_all g.D.Disk c.as_slice.result.now _ _ _ _ c.refuse_long.result
    c.refuse_long.ensures.refusal did.journal.leaves

pub returns-clause-appends : goal.returns-clause-appends
returns-clause-appends g c =
    let h = g.H.TreeHash.hash in
    let mirror = c.args.self.now in
    let v = mirror_view mirror in
    let ready = c.in_ok-body.ensures in
    let ys = pairs_of c.args.items.now in
    let new = next_batch c.size-size.result ys in
    let count = ready.count in
    let value = c.size-size.ensures.value in
    let few = c.size-size.ensures.sound.few in
    let taken = all_taken h v new (omega (arith, count, value, few, c.if-count-size.false))
    ready.each in
    subst (λ (n : ℕ). MirrorAppends (mirror_batch_record (next_batch n ys))
    (more_mirrored (length (next_batch n ys))) (with_mirrored (next_batch n ys)) mirror
    c.append_record.new.self c.append_record.result) value
    (appends_from mirror _ refl refl
    (ap (λ disk. is_some (g.T.Disk.contents disk)) c.prepare_batch.ensures.disk) _
    c.as_slice-2.result.now (mirror_batch_record new) (more_mirrored (length new))
    (with_mirrored new) c.append_record.result (c.as_slice-2.ensures ∙ ready.body)
    (batch_taken_as h v new ready.batch taken)
    (c.append_record.ensures.appends (more_mirrored (length new)) (with_mirrored new)))

pub returns-clause-answer : goal.returns-clause-answer
returns-clause-answer g c =
    let mirror = c.args.self.now in
    let ready = c.in_ok-body.ensures in
    subst (λ (n : ℕ). TakeKeepsTo (take_refusal None n (mirror_broken mirror) (mirror_end mirror)
    (pairs_of c.args.items.now)) c.append_record.result) c.size-size.ensures.value
    (taken_answer c.size-size.result (mirror_broken mirror) (mirror_end mirror)
    (pairs_of c.args.items.now) c.as_slice-2.result.now (c.as_slice-2.ensures ∙ ready.body)
    ready.new ready.small c.append_record.result c.append_record.ensures.refusal)

pub returns-clause-cause : goal.returns-clause-cause
returns-clause-cause g c =
    let h = g.H.TreeHash.hash in
    let v = mirror_view c.args.self.now in
    let ready = c.in_ok-body.ensures in
    let new = next_batch c.size-size.result (pairs_of c.args.items.now) in
    let count = ready.count in
    let value = c.size-size.ensures.value in
    let few = c.size-size.ensures.sound.few in
    let taken = all_taken h v new (omega (arith, count, value, few, c.if-count-size.false))
    ready.each in
    let did = c.append_record.ensures.appends (more_mirrored (length new)) (with_mirrored new)
    (subst (λ (t : Text). IsMirroredAs h v t (more_mirrored (length new)) (with_mirrored new))
    (sym (c.as_slice-2.ensures ∙ ready.body)) (batch_taken_as h v new ready.batch taken)) in
    counts_all g.D.Disk c.as_slice-2.result.now _ _ _ _ c.append_record.result
    c.append_record.ensures.refusal did.journal.leaves
