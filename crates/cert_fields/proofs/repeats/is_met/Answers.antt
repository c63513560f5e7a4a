use Rattle.std.proofs.Common.{ap}
use Rattle.cert_fields.specs.Extensions.{is_among, any_among, identifiers}
use Rattle.cert_fields.specs.Views.{texts}
use Rattle.cert_fields.proofs.Walks.{any_more, any_found, any_fails, any_end}
use Rattle.cert_fields.proofs.repeats.is_met.Goals as goal

pub loop-left-init : goal.loop-left-init
loop-left-init c = ap (λ a. any_among (texts c.args.block.now) (identifiers c.args.count a))
    c.fork-reader.ensures

pub returns-then-is_in : goal.returns-then-is_in
returns-then-is_in c =
    any_found _ (λ identifier. is_among identifier (texts c.args.block.now)) c.loop-left.left
    c.loop-left.reader c.in-Ok.identifier.now c.head.new.reader
    c.loop-left-test.true c.in-Ok.ensures.exact c.if-is_in.ensures c.loop-left.invariant

pub loop-left-preserved : goal.loop-left-preserved
loop-left-preserved c =
    any_more _ (λ identifier. is_among identifier (texts c.args.block.now)) c.loop-left.left
    c.loop-left.reader c.in-Ok.identifier.now c.head.new.reader
    c.loop-left-test.true c.in-Ok.ensures.exact c.if-is_in.ensures c.loop-left.invariant

pub returns-in-Err : goal.returns-in-Err
returns-in-Err c =
    any_fails _ (λ identifier. is_among identifier (texts c.args.block.now)) c.loop-left.left
    c.loop-left.reader _ c.in-Err.ensures.exact c.loop-left.invariant

pub returns : goal.returns
returns c =
    any_end _ (λ identifier. is_among identifier (texts c.args.block.now)) c.loop-left.left
    c.loop-left.reader c.loop-left-test.false c.loop-left.invariant
