use Rattle.issuance_log.proofs.Adds.{added_unrefused, batch_unrefused, marked_unrefused}
use Rattle.issuance_log.proofs.Adds.{switched_unrefused, tiled_unrefused}
use Rattle.issuance_log.proofs.log.Log.law_unrefused_records_are_taken.Goals as goal

pub returns-clause-added : goal.returns-clause-added
returns-clause-added g c =
    let log = c.args.self.now in added_unrefused log c.size.ensures.sound

pub returns-clause-listed : goal.returns-clause-listed
returns-clause-listed g c =
    let log = c.args.self.now in batch_unrefused log c.size.ensures.sound

pub returns-clause-marked : goal.returns-clause-marked
returns-clause-marked g c =
    let log = c.args.self.now in marked_unrefused log c.size.ensures.sound

pub returns-clause-tiled : goal.returns-clause-tiled
returns-clause-tiled g c =
    let log = c.args.self.now in tiled_unrefused log c.size.ensures.sound

pub returns-clause-switched : goal.returns-clause-switched
returns-clause-switched g c =
    let log = c.args.self.now in switched_unrefused log c.size.ensures.sound
