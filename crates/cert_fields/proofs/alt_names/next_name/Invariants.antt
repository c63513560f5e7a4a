use Rattle.std.proofs.Common.{◌≡◌, length}
use Rattle.cert_fields.specs.AltNames.{names_left}
use Rattle.cert_fields.proofs.alt_names.next_name.Given as goal

-- The names that are left are those that were left: what came so far is no dNSName.
abbrev pub invariant-loop-element : goal.invariant-loop-element
invariant-loop-element l = names_left l.fn.reader ≡ names_left l.reader

abbrev pub decreases-loop-element : goal.decreases-loop-element
decreases-loop-element l = length l.reader.rest
