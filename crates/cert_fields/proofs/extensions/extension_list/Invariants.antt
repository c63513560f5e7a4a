use Rattle.std.proofs.Common.{length}
use Rattle.byte_formats.specs.Readings.{discarded}
use Rattle.cert_fields.specs.Extensions.{extension_list_at}
use Rattle.cert_fields.proofs.Many.{Reaches}
use Rattle.cert_fields.proofs.extensions.extension_list.Given as goal

-- After the first extensions of the list, the others decide as the whole list does, unless an
-- identifier stood twice.
abbrev pub invariant-loop-count : goal.invariant-loop-count
invariant-loop-count l = Reaches (discarded (extension_list_at l.fn.reader)) l.list l.count l.reader

abbrev pub decreases-loop-count : goal.decreases-loop-count
decreases-loop-count l = length l.reader.rest
