use Rattle.std.proofs.Common.{◌≡◌, ◌-◌}
use Rattle.mtc_authority.specs.ListOutcomes.{issued_lines}
use Rattle.mtc_authority.proofs.issue_list.lines_from.Given as goal

-- the lines of the entries before this one
abbrev pub invariant-loop-index : goal.invariant-loop-index
invariant-loop-index l = l.text ≡ issued_lines l.first (l.index - l.first)
