use Rattle.std.proofs.Common.{length}
use Rattle.cert_fields.specs.Extensions.{alt_name_octets, extensions_left}
use Rattle.cert_fields.proofs.Walks.{Seeks}
use Rattle.cert_fields.proofs.extensions.alt_name.Given as goal

-- What is left decides as all extensions do.
abbrev pub invariant-loop-extension : goal.invariant-loop-extension
invariant-loop-extension l = Seeks alt_name_octets (alt_name_octets (extensions_left l.fn.list))
    l.reader

abbrev pub decreases-loop-extension : goal.decreases-loop-extension
decreases-loop-extension l = length l.reader.rest
