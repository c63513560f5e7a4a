use Rattle.std.proofs.Common.{length}
use Rattle.byte_formats.specs.Readings.{discarded}
use Rattle.byte_formats.specs.Lists.{up_to_end}
use Rattle.byte_formats.proofs.Loops.{Walks}
use Rattle.mtc_proof.specs.Reading.{mtc_signature_at}
use Rattle.mtc_proof.proofs.list.all_signatures.Given as goal

-- Reading on from here ends as reading all of them does.
abbrev pub invariant-loop-cursor : goal.invariant-loop-cursor
invariant-loop-cursor l = Walks mtc_signature_at
    (discarded (up_to_end mtc_signature_at l.fn.cursor)) l.cursor

abbrev pub decreases-loop-cursor : goal.decreases-loop-cursor
decreases-loop-cursor l = length l.cursor.rest
