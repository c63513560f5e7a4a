use Rattle.std.proofs.Common.{arith}
use Rattle.mirror_core.specs.Counted.{mirror_keeps}
use Rattle.mirror_core.specs.Kept.{kept_leaves, kept_places}
use Rattle.mirror_core.specs.Words.{mirror_records, mirror_view}
use Rattle.mirror_core.proofs.Listed.{file_went}
use Rattle.mirror_core.proofs.mirror.Mirror.write_items.Goals as goal

pub returns-clause-written : goal.returns-clause-written
returns-clause-written g c =
    let mirror = c.args.self.now in
    file_went g.H.TreeHash.hash (mirror_view mirror) (kept_places mirror.machine.kept)
    c.as_slice-places.result.now (kept_leaves mirror.machine.kept) (mirror_records mirror)
    (mirror_keeps mirror) c.args.size _ _ c.write_first.result c.as_slice-places.ensures.value
    (omega arith) c.write_first.ensures.written
