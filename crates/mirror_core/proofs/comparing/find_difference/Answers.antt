use Rattle.std.proofs.Common.{[], slice_index_or, IfSome, refl, subst, ◌∙◌, arith, ap, drop}
use Rattle.byte_formats.proofs.Values.{each_some}
use Rattle.byte_formats.specs.Offsets.{IsBytes}
use Rattle.disk_core.proofs.Times.{nothing_read, only_read_on}
use Rattle.issuance_log.specs.Batches.{leading_items}
use Rattle.journal_core.specs.Ends.{durable_records}
use Rattle.journal_core.specs.Words.{disk_of}
use Rattle.mirror_core.specs.Places.{IsBodyAt, no_place}
use Rattle.mirror_core.specs.Refusals.{pairs_of}
use Rattle.mirror_core.proofs.Differing.{all_decide, all_differ, all_done, all_out, batch_is_read}
use Rattle.mirror_core.proofs.Differing.{decides_first, few_pairs, length-pairs}
use Rattle.mirror_core.proofs.comparing.find_difference.Goals as goal

pub batches-init : goal.batches-init
batches-init g c = record {
  decides = each_some _ (durable_records c.args.journal.now)
      (λ list same. decides_first (pairs_of c.args.items.now) list);
  within = omega arith;
  records = refl;
  end = refl;
  broken = refl;
  only_reads = nothing_read g.D.Disk (disk_of c.args.journal.now) (g.met.D.Disk.only_now _);
  fine = refl;
}

pub returns-then-count-len-clause-found : goal.returns-then-count-len-clause-found
returns-then-count-len-clause-found g c =
    let few = few_pairs c.args.items.now in
    all_out (durable_records c.args.journal.now) c.args.places.now (pairs_of c.args.items.now)
    c.batches.batch-index c.batches.count [] c.batches.invariant.decides
    (omega (arith, few, c.if-count-len.true, c.len.ensures.count))

pub returns-in-Err-clause-found : goal.returns-in-Err-clause-found
returns-in-Err-clause-found g c =
    let places = c.args.places.now in
    let items = c.items_of.ensures in
    let list = durable_records c.args.journal.now in
    let read = c.in_ok-body.body.items in
    let p = slice_index_or places c.batches.batch-index no_place in
    all_differ list places (pairs_of c.args.items.now) c.batches.batch-index c.batches.count
    (leading_items c.items_of.result.now) c.batches.invariant.decides
    (batch_is_read list places c.batches.batch-index p read c.items_of.result.now
    c.batches-test.true refl (subst IsBytes c.deref.ensures.value items.bytes)
    (items.items ∙ ap (drop 3) c.deref.ensures.value)
    (subst (λ o. IfSome o (IsBodyAt p.place read)) c.batches.invariant.records
    c.in_ok-body.ensures.body)) c.in-Err.number c.in-Err.ensures.differs

pub batches-preserved : goal.batches-preserved
batches-preserved g c =
    let places = c.args.places.now in
    let given = pairs_of c.args.items.now in
    let items = c.items_of.ensures in
    let list = durable_records c.args.journal.now in
    let read = c.in_ok-body.body.items in
    let p = slice_index_or places c.batches.batch-index no_place in
    let count = c.in-Ok.ensures.count in
    let size = length-pairs g.H.TreeHash.hash c.args.items.now c.len.ensures.known in
    let within = c.batches.invariant.within in
    record {
      decides = all_decide list places given c.batches.batch-index c.batches.count
          (leading_items c.items_of.result.now) c.batches.invariant.decides
          (batch_is_read list places c.batches.batch-index p read c.items_of.result.now
          c.batches-test.true refl (subst IsBytes c.deref.ensures.value items.bytes)
          (items.items ∙ ap (drop 3) c.deref.ensures.value)
          (subst (λ o. IfSome o (IsBodyAt p.place read)) c.batches.invariant.records
          c.in_ok-body.ensures.body)) c.in-Ok.next c.in-Ok.ensures.same
          (omega (arith, count, size)) (omega (arith, within, size));
      within = omega (arith, count);
      records = c.read_body.ensures.records ∙ c.batches.invariant.records;
      end = c.read_body.ensures.end ∙ c.batches.invariant.end;
      broken = c.read_body.ensures.broken ∙ c.batches.invariant.broken;
      only_reads = only_read_on g.D.Disk _ _ _ c.batches.invariant.only_reads
          c.read_body.ensures.only_reads;
      fine = c.in_ok-body.ensures.cause ∙ c.batches.invariant.fine;
    }

pub returns-clause-found : goal.returns-clause-found
returns-clause-found g c =
    all_done (durable_records c.args.journal.now) c.args.places.now (pairs_of c.args.items.now)
    c.batches.batch-index c.batches.count [] c.batches.invariant.decides
    (omega (arith, c.batches-test.false))
