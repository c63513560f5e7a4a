use Rattle.std.proofs.Common.{ap, sym, ◌∙◌, ◌++◌, arith}
use Rattle.std.proofs.lemmas.List.{length-set}
use Rattle.cert_fields.specs.Extensions.{head_at, identifiers}
use Rattle.cert_fields.proofs.Walks.{taken_more, taken_ends}
use Rattle.cert_fields.proofs.Twice.{texts_more}
use Rattle.cert_fields.proofs.repeats.take_block.Goals as goal

pub loop-taken-preserved : goal.loop-taken-preserved
loop-taken-preserved c =
    let (size, few, room, taken) = c.loop-taken.invariant in
    let same = length-set c.loop-taken.block c.loop-taken.taken c.in-Ok.identifier in
    let step = ap head_at (sym c.fork-ahead.ensures) ∙ c.in-Ok.ensures.exact in (
      same ∙ size,
      omega (arith, c.loop-taken-test.true),
      omega (arith, same, c.if-taken-block.true),
      λ n.
          taken_more c.args.reader.now c.loop-taken.taken _ c.loop-taken.reader
          c.in-Ok.identifier.now c.head.new.reader step taken n
          ∙ ap (λ ids. ids ++ identifiers n c.head.new.reader)
          (sym (texts_more c.loop-taken.block c.loop-taken.taken c.in-Ok.identifier
          c.if-taken-block.true)),
    )

pub returns-in-Err-clause-none : goal.returns-in-Err-clause-none
returns-in-Err-clause-none c =
    λ none some room.
    taken_ends c.args.reader.now c.loop-taken.taken c.loop-taken.block c.loop-taken.reader _
    c.loop-taken.invariant.3
    (ap head_at (sym c.fork-ahead.ensures) ∙ c.in-Err.ensures.exact) none c.args.most
