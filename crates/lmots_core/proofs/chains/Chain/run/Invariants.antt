use Rattle.std.proofs.Common.{◌≡◌}
use Rattle.lmots_core.specs.Ots.{chain}
use Rattle.lmots_core.proofs.chains.Chain.run.Given as goal

abbrev pub invariant-loop-n : goal.invariant-loop-n
invariant-loop-n l = (l.self ≡ l.fn.self) × (l.value ≡ chain l.fn.self l.from l.n l.initial.value)
