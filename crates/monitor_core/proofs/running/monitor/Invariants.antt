use Rattle.std.proofs.Common.{take}
use Rattle.monitor_core.specs.Watched.{HasWatched, run_with}
use Rattle.monitor_core.proofs.running.monitor.Given as goal

-- The entries so far were taken.
abbrev pub invariant-loop-index : goal.invariant-loop-index
invariant-loop-index g l =
    HasWatched g.H.TreeHash.hash (run_with l.state l.watch l.growth)
    (take l.index (g.L.EntryList.texts l.entries))
