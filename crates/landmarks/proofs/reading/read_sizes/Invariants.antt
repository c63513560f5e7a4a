use Rattle.std.proofs.Common.{◌≡◌, ◌+◌, ◌-◌}
use Rattle.landmarks.specs.Texts.{size_lines, sizes_of}
use Rattle.landmarks.specs.Views.{list_head}
use Rattle.landmarks.proofs.Walks.{with_more}
use Rattle.landmarks.proofs.reading.read_sizes.Given as goal

-- The sizes so far, and those that are left, make the whole.
abbrev pub invariant-loop-place : goal.invariant-loop-place
invariant-loop-place l =
    with_more l.sizes.items (size_lines (l.fn.head.active + 1 - l.place) (l.place + 1)
    (l.fn.head.last - l.place) l.before l.rest) ≡ sizes_of (list_head l.fn.head)
