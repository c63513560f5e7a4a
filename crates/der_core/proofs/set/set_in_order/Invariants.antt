use Rattle.std.proofs.Common.{length}
use Rattle.byte_formats.specs.Readings.{discarded}
use Rattle.der_core.specs.Items.{item, inside}
use Rattle.der_core.specs.Sets.{rising_at}
use Rattle.der_core.proofs.Sets.{Rises}
use Rattle.der_core.proofs.set.set_in_order.Given as goal

-- What is left, after the encodings seen so far, is in order as the whole is.
abbrev pub invariant-loop-reader : goal.invariant-loop-reader
invariant-loop-reader l = Rises l.fn.e.place
    (discarded (rising_at l.fn.e.place (inside (item l.fn.e)))) l.before l.reader

abbrev pub decreases-loop-reader : goal.decreases-loop-reader
decreases-loop-reader l = length l.reader.rest
