use Rattle.std.proofs.Common.{◌≡◌, ◌++◌, length}
use Rattle.authority_core.specs.Several.{lines_of_64}
use Rattle.authority_core.proofs.writing.pem.append_lines.Given as goal

-- the lines so far, and those of the rest, make the whole
abbrev pub invariant-loop-rest : goal.invariant-loop-rest
invariant-loop-rest l =
    l.out ++ lines_of_64 (length l.rest) l.rest
    ≡ l.initial.out ++ lines_of_64 (length l.text) l.text

abbrev pub decreases-loop-rest : goal.decreases-loop-rest
decreases-loop-rest l = length l.rest
