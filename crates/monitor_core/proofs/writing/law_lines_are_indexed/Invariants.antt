use Rattle.std.proofs.Common.{take}
use Rattle.std.specs.List.{AllByRecursion}
use Rattle.monitor_core.specs.TextLaws.{IsIndexed}
use Rattle.monitor_core.proofs.writing.law_lines_are_indexed.Given as goal

-- Those so far are indexed.
abbrev pub invariant-loop-line : goal.invariant-loop-line
invariant-loop-line l = AllByRecursion IsIndexed (take l.line-index l.lines)
