use Rattle.std.proofs.Common.{◌≡◌, ◌++◌}
use Rattle.std.specs.List.{flat_map}
use Rattle.mtc_relying.specs.ShowOutcome.{name_line}
use Rattle.mtc_relying.proofs.show.put_names.Given as goal

-- what was written and what is left make the whole
abbrev pub invariant-loop-name : goal.invariant-loop-name
invariant-loop-name l = l.out ++ flat_map name_line l.name-iterator ≡ l.initial.out
    ++ flat_map name_line l.initial.name-iterator
