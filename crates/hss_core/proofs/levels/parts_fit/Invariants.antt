use Rattle.std.proofs.Common.{◌≡◌, ◌-◌}
use Rattle.hss_core.specs.Hss.{parts_fit}
use Rattle.hss_core.proofs.levels.parts_fit.Given as goal

abbrev pub invariant-loop-done : goal.invariant-loop-done
invariant-loop-done l = parts_fit l.count l.fn.bytes ≡ parts_fit (l.count - l.done) l.rest
