use Rattle.std.proofs.Common.{length}
use Rattle.cosigner_core.specs.ExportReading.{steps_left}
use Rattle.cosigner_core.proofs.ExportLoops.{StepsLeft}
use Rattle.cosigner_core.proofs.export_reading.read_steps.Given as goal

-- the steps that were read and those that are left make the whole
abbrev pub invariant-loop-cursor : goal.invariant-loop-cursor
invariant-loop-cursor g l = StepsLeft g.H.TreeHash.hash l.terms
    (steps_left g.H.TreeHash.hash l.terms l.fn.cursor) l.steps.items l.progress l.cursor

abbrev pub decreases-loop-cursor : goal.decreases-loop-cursor
decreases-loop-cursor g l = length l.cursor.rest
