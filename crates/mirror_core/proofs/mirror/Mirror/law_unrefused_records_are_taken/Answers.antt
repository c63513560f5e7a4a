use Rattle.mirror_core.proofs.Unrefused.{taken_unrefused, tiled_unrefused}
use Rattle.mirror_core.proofs.mirror.Mirror.law_unrefused_records_are_taken.Goals as goal

pub returns-clause-taken : goal.returns-clause-taken
returns-clause-taken g c =
    let mirror = c.args.self.now in taken_unrefused mirror c.size.ensures.sound mirror.long

pub returns-clause-tiled : goal.returns-clause-tiled
returns-clause-tiled g c =
    let mirror = c.args.self.now in tiled_unrefused mirror c.size.ensures.sound
