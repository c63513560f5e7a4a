use Rattle.std.proofs.Common.{sym, arith}
use Rattle.cert_fields.proofs.Twice.{no_neighbours, differ_more, equal_at}
use Rattle.cert_fields.proofs.repeats.has_equal_neighbours.Goals as goal

pub loop-i-init : goal.loop-i-init
loop-i-init c = (omega arith, λ k d less. absurd (omega (arith, less)))

pub returns : goal.returns
returns c = sym (no_neighbours c.args.block.now c.loop-i.i c.requires c.loop-i-test.false
    c.loop-i.invariant.1)

pub returns-then-eq : goal.returns-then-eq
returns-then-eq c = equal_at c.args.block.now c.loop-i.i _ c.loop-i.invariant.0 c.loop-i-test.true
    c.if-eq.ensures

pub loop-i-preserved : goal.loop-i-preserved
loop-i-preserved c = (
  omega arith,
  differ_more c.args.block.now c.loop-i.i _ c.loop-i.invariant.0 c.loop-i-test.true
      c.loop-i.invariant.1 c.if-eq.ensures,
)
