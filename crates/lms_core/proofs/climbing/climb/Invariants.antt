use Rattle.std.proofs.Common.{◌≡◌, ◌/◌, ◌^◌}
use Rattle.lms_core.specs.Trees.{climbed}
use Rattle.lms_core.proofs.climbing.climb.Given as goal

abbrev pub invariant-loop-i : goal.invariant-loop-i
invariant-loop-i l =
    (l.value ≡ climbed l.id l.initial.place l.path l.initial.value l.i)
    × (l.place ≡ l.initial.place / 2 ^ l.i)
