use Rattle.std.proofs.Common.{◌≡◌, ◌-◌, true, length}
use Rattle.hss_core.specs.Hss.{levels_refusal, parts_fit}
use Rattle.hss_core.proofs.levels.check_levels.Given as goal

abbrev pub invariant-loop-done : goal.invariant-loop-done
invariant-loop-done l =
    (length l.key ≡ 56) × (parts_fit (l.count - l.done) l.rest ≡ true)
    × (levels_refusal l.count l.fn.key l.message l.fn.bytes
    ≡ levels_refusal (l.count - l.done) l.key l.message l.rest)
