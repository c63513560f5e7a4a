use Rattle.std.proofs.Common.{length}
use Rattle.std.specs.List.{list_any}
use Rattle.cert_fields.specs.Extensions.{is_unknown_critical, extensions_left}
use Rattle.cert_fields.proofs.Walks.{Seeks}
use Rattle.cert_fields.proofs.extensions.any_unknown_critical.Given as goal

-- What is left decides as all extensions do.
abbrev pub invariant-loop-extension : goal.invariant-loop-extension
invariant-loop-extension l = Seeks (list_any is_unknown_critical) ((list_any is_unknown_critical)
    (extensions_left l.fn.list)) l.reader

abbrev pub decreases-loop-extension : goal.decreases-loop-extension
decreases-loop-extension l = length l.reader.rest
