use Rattle.std.proofs.Common.{take}
use Rattle.std.specs.List.{AllByRecursion}
use Rattle.monitor_core.specs.States.{IsHash}
use Rattle.monitor_core.proofs.writing.law_are_hashes.Given as goal

-- Those so far are hashes.
abbrev pub invariant-loop-hash : goal.invariant-loop-hash
invariant-loop-hash l = AllByRecursion IsHash (take l.hash-index l.hashes)
