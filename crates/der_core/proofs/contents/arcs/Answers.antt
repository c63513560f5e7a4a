use Rattle.std.proofs.Common.{inl, inr}
use Rattle.der_core.proofs.Loops.{arcs_padded, arcs_on, arcs_end}
use Rattle.der_core.proofs.contents.arcs.Goals as goal
use Rattle.der_core.proofs.contents.arcs.Goals.{else-begins-via-then-begins+else-byte}
use Rattle.der_core.proofs.contents.arcs.Goals.{else-begins-via-else-begins}

pub returns-then-byte : goal.returns-then-byte
returns-then-byte c = arcs_padded _ c.loop-byte.begins c.args.bytes.now c.loop-byte.byte-index
    c.loop-byte-test.true c.if-begins.true c.if-byte.true c.loop-byte.invariant

pub loop-byte-preserved : goal.loop-byte-preserved
loop-byte-preserved c =
    elim c.else-begins.branch [
      | else-begins-via-then-begins+else-byte w ↦ arcs_on _ c.loop-byte.begins c.args.bytes.now
          c.loop-byte.byte-index c.loop-byte-test.true (inr w.if-byte.false) c.loop-byte.invariant
      | else-begins-via-else-begins w ↦ arcs_on _ c.loop-byte.begins c.args.bytes.now
          c.loop-byte.byte-index c.loop-byte-test.true (inl w.if-begins.false) c.loop-byte.invariant
    ]

pub returns : goal.returns
returns c = arcs_end _ c.loop-byte.begins c.args.bytes.now c.loop-byte.byte-index
    c.loop-byte-test.false c.loop-byte.invariant
