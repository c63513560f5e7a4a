use Rattle.std.proofs.Common.{length}
use Rattle.tile_store.proofs.Loads.{frame-there, frames-loaded, read-tile}
use Rattle.tile_store.specs.Layout.{tile_at}
use Rattle.tile_store.proofs.reading.load.Goals as goal

pub returns-in-Ok-clause-frames : goal.returns-in-Ok-clause-frames
returns-in-Ok-clause-frames g c = λ b contents frames.
    frames-loaded b c.args.pool.now c.claim-slot.new.self c.claim-slot.result.0 c.args.key
    c.read_part.new.out c.claim-slot.ensures.claimed
    (frame-there c.claim-slot.new.self c.claim-slot.result.0 c.frame_mut.result.now
    c.frame_mut.ensures.value c.frame_mut.ensures.size)
    (read-tile (g.T.Disk.contents c.args.disk.now) b c.read_part.new.out c.offset_of.result
    (length c.frame_mut.result.now) (tile_at c.args.key.level c.args.key.place) contents
    c.in-Ok.ensures.read c.offset_of.ensures c.frame_mut.ensures.size)
    c.claim-slot.ensures.there frames
