use Rattle.std.proofs.Common.{◌≡◌, ◌+◌, ◌-◌, ◌*◌, ◌/◌, ◌^◌, ◌<◌, ◌≤◌, ◌++◌, length}
use Rattle.lmots_core.specs.Strings.{concatenated}
use Rattle.lms_core.specs.Heights.{height}
use Rattle.lms_core.specs.Trees.{path_node}
use Rattle.lms_core.proofs.climbing.put_path.Given as goal

abbrev pub invariant-loop-i : goal.invariant-loop-i
invariant-loop-i l =
    (l.out ≡ l.initial.out ++ concatenated (path_node l.key l.fn.q) l.i)
    × (length l.out ≡ length l.initial.out + 32 * l.i)
    × (l.place ≡ (2 ^ height l.key.lms + l.fn.q) / 2 ^ l.i)
    × (2 ^ (height l.key.lms - l.i) ≤ l.place)
    × (l.place < 2 * 2 ^ (height l.key.lms - l.i))
