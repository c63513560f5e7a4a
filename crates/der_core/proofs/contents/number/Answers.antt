use Rattle.std.proofs.Common.{sym, ◌∙◌, arith}
use Rattle.der_core.proofs.Loops.{carried_more, carried_large, carried_end}
use Rattle.der_core.proofs.contents.number.Goals as goal

pub returns-then-n : goal.returns-then-n
returns-then-n c = carried_large _ c.loop-byte.n c.args.bytes.now c.loop-byte.byte-index
    c.loop-byte-test.true (omega arith) c.loop-byte.invariant

pub loop-byte-preserved : goal.loop-byte-preserved
loop-byte-preserved c = sym (carried_more c.loop-byte.n c.args.bytes.now c.loop-byte.byte-index
    c.loop-byte-test.true) ∙ c.loop-byte.invariant

pub returns : goal.returns
returns c = carried_end _ c.loop-byte.n c.args.bytes.now c.loop-byte.byte-index
    c.loop-byte-test.false (omega arith) c.loop-byte.invariant
