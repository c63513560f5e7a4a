use Rattle.std.proofs.Common.{◌≡◌, ◌++◌}
use Rattle.std.specs.List.{flat_map}
use Rattle.mtc_relying.specs.ShowOutcome.{signature_line}
use Rattle.mtc_relying.proofs.show.put_signatures.Given as goal

-- what was written and what is left make the whole
abbrev pub invariant-loop-signature : goal.invariant-loop-signature
invariant-loop-signature l = l.out ++ flat_map signature_line l.signature-iterator ≡ l.initial.out
    ++ flat_map signature_line l.initial.signature-iterator
