use Rattle.std.proofs.Common.{◌≡◌, ◌++◌}
use Rattle.monitor_core.specs.Report.{matches_of}
use Rattle.monitor_core.proofs.reporting.put_matches.Given as goal

-- The lines so far and the matches of the names that are left make the whole.
abbrev pub invariant-loop-name : goal.invariant-loop-name
invariant-loop-name l =
    l.lines.items ++ matches_of l.watch l.index l.name-iterator
    ≡ l.initial.lines.items ++ matches_of l.watch l.index l.initial.name-iterator
