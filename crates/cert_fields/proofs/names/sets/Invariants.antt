use Rattle.std.proofs.Common.{length}
use Rattle.byte_formats.specs.Readings.{discarded}
use Rattle.byte_formats.specs.Lists.{up_to_end}
use Rattle.byte_formats.proofs.Loops.{Walks}
use Rattle.cert_fields.specs.Names.{set_at}
use Rattle.cert_fields.proofs.names.sets.Given as goal

-- Reading on from here ends as reading all of them does.
abbrev pub invariant-loop-reader : goal.invariant-loop-reader
invariant-loop-reader l = Walks set_at (discarded (up_to_end set_at l.fn.reader)) l.reader

abbrev pub decreases-loop-reader : goal.decreases-loop-reader
decreases-loop-reader l = length l.reader.rest
