use Rattle.std.proofs.Common.{◌∙◌, slice_index_or, IfSome, drop, refl, subst, ap, arith}
use Rattle.std.specs.Io.KnownBytes.{Appends}
use Rattle.std.proofs.lemmas.Result.{err_from_is_err_and}
use Rattle.byte_formats.specs.Offsets.{IsBytes}
use Rattle.disk_core.proofs.Times.{nothing_read, only_read_on}
use Rattle.issuance_log.specs.Batches.{leading_items}
use Rattle.journal_core.specs.Ends.{durable_records}
use Rattle.journal_core.specs.Words.{disk_of}
use Rattle.journal_core.proofs.Copies.{grows_more, grows_none, grows_prefix}
use Rattle.mtc_io.specs.Streams.{AppendsPrefix}
use Rattle.mirror_core.specs.Places.{IsBodyAt, no_place}
use Rattle.mirror_core.proofs.Differing.{batch_is_read}
use Rattle.mirror_core.proofs.Listed.{all_gone, enough_gone, more_gone, none_gone, part_gone}
use Rattle.mirror_core.proofs.Listed.{not_read, some_gone}
use Rattle.mirror_core.proofs.listing.write_first.Goals as goal

pub batches-init : goal.batches-init
batches-init g c = record {
  gone = none_gone (durable_records c.args.journal.now) c.args.places.now c.args.size
      (g.O.Sink.taken c.args.out.now);
  grows = grows_none (g.O.Sink.taken c.args.out.now);
  records = refl;
  end = refl;
  broken = refl;
  only_reads = nothing_read g.D.Disk (disk_of c.args.journal.now) (g.met.D.Disk.only_now _);
  read = refl;
  took = refl;
}

pub returns-then-batch-size-clause-written : goal.returns-then-batch-size-clause-written
returns-then-batch-size-clause-written g c =
    enough_gone (durable_records c.args.journal.now) c.args.places.now c.args.size
    c.batches.batch-index (slice_index_or c.args.places.now c.batches.batch-index no_place)
    (g.O.Sink.taken c.args.out.now) (g.O.Sink.taken c.batches.out) c.batches.invariant.gone
    c.batches-test.true refl c.if-batch-size.true

pub returns-in_err-body-clause-written : goal.returns-in_err-body-clause-written
returns-in_err-body-clause-written g c =
    let refused = err_from_is_err_and c.from_residual.result c.from_residual.ensures.1 in
    rw (refused.1, refused.2) (not_read (durable_records c.args.journal.now) c.args.places.now
    c.args.size (g.O.Sink.taken c.args.out.now) (g.O.Sink.taken c.batches.out)
    (some_gone (durable_records c.args.journal.now) c.args.places.now c.args.size
    c.batches.batch-index (slice_index_or c.args.places.now c.batches.batch-index no_place)
    (g.O.Sink.taken c.args.out.now) (g.O.Sink.taken c.batches.out) c.batches.invariant.gone
    c.batches-test.true refl c.if-batch-size.false) _ c.in_err-body.ensures.why)

pub returns-in-Err-clause-written : goal.returns-in-Err-clause-written
returns-in-Err-clause-written g c =
    let places = c.args.places.now in
    let items = c.items_of.ensures in
    let list = durable_records c.args.journal.now in
    let read = c.in_ok-body.body.items in
    let p = slice_index_or places c.batches.batch-index no_place in
    let now = g.O.Sink.taken c.batches.out in
    let then = g.O.Sink.taken c.write_all.new.sink in
    part_gone list places c.args.size c.batches.batch-index p (g.O.Sink.taken c.args.out.now) now
    c.batches.invariant.gone c.batches-test.true refl c.if-batch-size.false
    (leading_items c.items_of.result.now) then
    (batch_is_read list places c.batches.batch-index p read c.items_of.result.now
    c.batches-test.true refl (subst IsBytes c.deref.ensures.value items.bytes)
    (items.items ∙ ap (drop 3) c.deref.ensures.value)
    (subst (λ o. IfSome o (IsBodyAt p.place read)) c.batches.invariant.records
    c.in_ok-body.ensures.body))
    (subst (AppendsPrefix now then) c.first_items.ensures c.in-Err.ensures.prefix)

pub returns-in-Err-clause-grows : goal.returns-in-Err-clause-grows
returns-in-Err-clause-grows g c =
    grows_more _ _ _ c.batches.invariant.grows
    (grows_prefix _ _ _ c.in-Err.ensures.prefix)

pub batches-preserved : goal.batches-preserved
batches-preserved g c =
    let places = c.args.places.now in
    let items = c.items_of.ensures in
    let list = durable_records c.args.journal.now in
    let read = c.in_ok-body.body.items in
    let p = slice_index_or places c.batches.batch-index no_place in
    let now = g.O.Sink.taken c.batches.out in
    let then = g.O.Sink.taken c.write_all.new.sink in
    record {
      gone = more_gone list places c.args.size c.batches.batch-index p
          (g.O.Sink.taken c.args.out.now) now
          c.batches.invariant.gone c.batches-test.true refl c.if-batch-size.false
          (leading_items c.items_of.result.now) then
          (batch_is_read list places c.batches.batch-index p read c.items_of.result.now
          c.batches-test.true refl (subst IsBytes c.deref.ensures.value items.bytes)
          (items.items ∙ ap (drop 3) c.deref.ensures.value)
          (subst (λ o. IfSome o (IsBodyAt p.place read)) c.batches.invariant.records
          c.in_ok-body.ensures.body))
          (subst (Appends now then) c.first_items.ensures c.in-Ok.ensures.ok);
      grows = grows_more _ _ _ c.batches.invariant.grows
          (grows_prefix _ _ _ c.in-Ok.ensures.prefix);
      records = c.read_body.ensures.records ∙ c.batches.invariant.records;
      end = c.read_body.ensures.end ∙ c.batches.invariant.end;
      broken = c.read_body.ensures.broken ∙ c.batches.invariant.broken;
      only_reads = only_read_on g.D.Disk _ _ _ c.batches.invariant.only_reads
          c.read_body.ensures.only_reads;
      read = c.in_ok-body.ensures.cause ∙ c.batches.invariant.read;
      took = c.in-Ok.ensures.cause.fine ∙ c.batches.invariant.took;
    }

pub returns-clause-written : goal.returns-clause-written
returns-clause-written g c =
    all_gone (durable_records c.args.journal.now) c.args.places.now c.args.size
    c.batches.batch-index no_place
    (g.O.Sink.taken c.args.out.now) (g.O.Sink.taken c.batches.out) c.batches.invariant.gone
    (omega (arith, c.batches-test.false))
