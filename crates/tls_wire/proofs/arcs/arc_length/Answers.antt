use Rattle.std.proofs.Common.{arith}
use Rattle.tls_wire.proofs.AnchorTexts.{counted_from, counted_more, counted_end}
use Rattle.tls_wire.proofs.arcs.arc_length.Goals as goal

pub loop-high-init : goal.loop-high-init
loop-high-init c = counted_from c.args.value (c.ranges.value).fits

pub overflow_add-count : goal.overflow_add-count
overflow_add-count c = omega (arith, c.loop-high.invariant.small, c.loop-high-test.true)

pub loop-high-preserved : goal.loop-high-preserved
loop-high-preserved c = counted_more _ c.loop-high.count c.loop-high.high c.loop-high-test.true
    c.loop-high.invariant

pub returns-clause-exact : goal.returns-clause-exact
returns-clause-exact c = counted_end _ c.loop-high.count c.loop-high.high c.loop-high-test.false
    c.loop-high.invariant

pub returns-clause-small : goal.returns-clause-small
returns-clause-small c = omega (arith, c.loop-high.invariant.small)
