use Rattle.std.proofs.Common.{◌≡◌, ◌++◌, take}
use Rattle.std.specs.List.{flat_map}
use Rattle.monitor_core.specs.Written.{line_text}
use Rattle.monitor_core.proofs.writing.put_lines.Given as goal

-- The lines so far stand after the bytes.
abbrev pub invariant-loop-line : goal.invariant-loop-line
invariant-loop-line l = l.out ≡ l.initial.out ++ flat_map line_text (take l.line-index l.lines)
