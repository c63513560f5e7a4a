use Rattle.frame_pool.proofs.Sounds.{AreNew}
use Rattle.frame_pool.proofs.pool.Pool.new.Given as goal

abbrev pub invariant-loop-slot : goal.invariant-loop-slot
invariant-loop-slot l = AreNew l.slot l.keys.items l.pins.items l.order.items l.bytes.items
