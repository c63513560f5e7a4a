use Rattle.std.proofs.Common.{◌<◌, length, sym, ◌∙◌, arith, ap, subst, drop, take, ℕ}
use Rattle.byte_formats.specs.Types.{Text}
use Rattle.issuance_log.specs.Records.{CanBeBatch}
use Rattle.mirror_core.specs.Records.{mirror_batch_record}
use Rattle.mirror_core.specs.Refusals.{pairs_of}
use Rattle.mirror_core.proofs.Answering.{first_large, none_new}
use Rattle.mirror_core.proofs.Batching.{batch_each, batch_length, batch_within, begins_is}
use Rattle.mirror_core.proofs.Batching.{can_batch, first_taken}
use Rattle.mirror_core.proofs.Differing.{length-pairs, pair_is}
use Rattle.mirror_core.proofs.preparing.prepare_batch.Goals as goal

pub returns-then-len-size-clause-refused : goal.returns-then-len-size-clause-refused
returns-then-len-size-clause-refused g c = λ broken end.
    let size = length-pairs g.H.TreeHash.hash c.args.items.now c.len.ensures.known in
    none_new c.args.size broken end (pairs_of c.args.items.now) (omega arith)

pub returns-then-is_large-clause-refused : goal.returns-then-is_large-clause-refused
returns-then-is_large-clause-refused g c = λ broken end.
    let ys = pairs_of c.args.items.now in
    let size = length-pairs g.H.TreeHash.hash c.args.items.now c.len.ensures.known in
    let there : c.args.size < length ys = omega arith in
    let x : Text × Text = (c.item.result.entry.now, c.item.result.spki.now) in
    let is = pair_is c.args.items.now c.args.size x.0 x.1 there c.item.ensures.entry
    c.item.ensures.key in
    first_large c.args.size broken end ys there
    (begins_is ys c.args.size x there is ∙ sym c.is_large.ensures ∙ c.if-is_large.true)

pub batch_record-requires : goal.batch_record-requires
batch_record-requires g c =
    let ys = pairs_of c.args.items.now in
    let size = length-pairs g.H.TreeHash.hash c.args.items.now c.len.ensures.known in
    let there : c.args.size < length ys = omega arith in
    let x : Text × Text = (c.item.result.entry.now, c.item.result.spki.now) in
    let is = pair_is c.args.items.now c.args.size x.0 x.1 there c.item.ensures.entry
    c.item.ensures.key in
    let some = first_taken ys c.args.size x there is
    (sym c.is_large.ensures ∙ c.if-is_large.false) in
    let within = batch_within ys c.args.size (omega arith) in
    let count = c.count_batch-count.ensures in
    record {
      within = omega (arith, within, count);
      fits = omega (arith, within, count, size);
      batch = subst (λ (n : ℕ). CanBeBatch (take n (drop c.args.size ys))) (sym count)
          (can_batch (drop c.args.size ys) some);
    }

pub returns-clause-body : goal.returns-clause-body
returns-clause-body g c =
    c.in_ok-body.ensures
    ∙ ap (λ (n : ℕ). mirror_batch_record (take n (drop c.args.size (pairs_of c.args.items.now))))
    c.count_batch-count.ensures

pub returns-clause-count : goal.returns-clause-count
returns-clause-count g c =
    c.count_batch-count.ensures ∙ sym (batch_length (pairs_of c.args.items.now) c.args.size)

pub returns-clause-new : goal.returns-clause-new
returns-clause-new g c =
    let size = length-pairs g.H.TreeHash.hash c.args.items.now c.len.ensures.known in omega arith

pub returns-clause-batch : goal.returns-clause-batch
returns-clause-batch g c =
    let ys = pairs_of c.args.items.now in
    let size = length-pairs g.H.TreeHash.hash c.args.items.now c.len.ensures.known in
    let there : c.args.size < length ys = omega arith in
    let x : Text × Text = (c.item.result.entry.now, c.item.result.spki.now) in
    let is = pair_is c.args.items.now c.args.size x.0 x.1 there c.item.ensures.entry
    c.item.ensures.key in
    can_batch (drop c.args.size ys) (first_taken ys c.args.size x there is
    (sym c.is_large.ensures ∙ c.if-is_large.false))

pub returns-clause-each : goal.returns-clause-each
returns-clause-each g c =
    batch_each g.H.TreeHash.hash c.args.items.now c.args.size c.len.ensures.known

pub returns-clause-small : goal.returns-clause-small
returns-clause-small g c =
    let ys = pairs_of c.args.items.now in
    let size = length-pairs g.H.TreeHash.hash c.args.items.now c.len.ensures.known in
    let there : c.args.size < length ys = omega arith in
    let x : Text × Text = (c.item.result.entry.now, c.item.result.spki.now) in
    let is = pair_is c.args.items.now c.args.size x.0 x.1 there c.item.ensures.entry
    c.item.ensures.key in
    begins_is ys c.args.size x there is ∙ sym c.is_large.ensures ∙ c.if-is_large.false
