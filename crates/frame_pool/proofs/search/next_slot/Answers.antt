use Rattle.std.proofs.Common.{inl, inr}
use Rattle.frame_pool.proofs.Sounds.{first-claimed, least-empty}
use Rattle.frame_pool.proofs.search.next_slot.Goals as goal

pub returns-in-Some : goal.returns-in-Some
returns-in-Some c = λ frames. inl (least-empty _ c.in-Some.slot c.in-Some.ensures)

pub returns-in-Some-first_unpinned : goal.returns-in-Some-first_unpinned
returns-in-Some-first_unpinned c = λ frames.
    inr (first-claimed _ c.in-Some-first_unpinned.place c.in-None.ensures
    c.in-Some-first_unpinned.ensures.0 c.in-Some-first_unpinned.ensures.1
    c.in-Some-first_unpinned.ensures.2)
