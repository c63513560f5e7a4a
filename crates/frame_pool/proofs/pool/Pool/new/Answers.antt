use Rattle.std.proofs.Common.{◌≡◌, subst, arith}
use Rattle.frame_pool.proofs.Sounds.{AreNew, sound-new}
use Rattle.frame_pool.proofs.pool.Pool.new.Goals as goal

pub invariant_of-result : goal.invariant_of-result
invariant_of-result c =
    let all : c.loop-slot.slot ≡ c.args.frames = omega arith in
    sound-new c.args.frames _ c.requires.some c.requires.few
    (subst (λ n. AreNew n c.loop-slot.keys.items c.loop-slot.pins.items c.loop-slot.order.items
    c.loop-slot.bytes.items) all c.loop-slot.invariant)
