use Rattle.std.proofs.Common.{◌≡◌, true, get_or, false, sym, subst}
use Rattle.std.specs.List.{All}
use Rattle.frame_pool.proofs.Sounds.{all-pinned, taken}
use Rattle.frame_pool.specs.Frames.{HasUnpinned}
use Rattle.frame_pool.proofs.pool.Pool.next.Goals as goal

pub next_slot-requires-clause-some : goal.next_slot-requires-clause-some
next_slot-requires-clause-some c = λ all.
    all-pinned _ c.self.invariant (subst HasUnpinned (sym c.self.view_is) c.requires)
    (subst (All (λ slot. get_or c.self.inside.pins.items slot false ≡ true))
    c.as_slice-3.ensures.value
    (subst (λ pins. All (λ slot. get_or pins slot false ≡ true) c.as_slice-3.result.now)
    c.as_slice-2.ensures.value all))

pub returns : goal.returns
returns c =
    let is = taken _ c.args.self.now c.as_slice.result.now c.as_slice-2.result.now
    c.as_slice-3.result.now c.next_slot.result c.self.invariant c.self.view_is
    c.as_slice.ensures.value c.as_slice-2.ensures.value c.as_slice-3.ensures.value
    c.next_slot.ensures in
    record {
      next = is.next;
      there = is.there;
      free = is.free;
    }
