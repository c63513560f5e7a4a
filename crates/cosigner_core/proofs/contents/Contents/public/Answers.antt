use Rattle.cosigner_core.proofs.FirstRecords.{new_counts}
use Rattle.cosigner_core.proofs.contents.Contents.public.Goals as goal

pub make-requires : goal.make-requires
make-requires c =
    let i = c.self.inside in
    let counts = c.self.invariant.counts in
    new_counts i.settings.lms i.settings.low i.settings.ots i.secret counts.top counts.low
