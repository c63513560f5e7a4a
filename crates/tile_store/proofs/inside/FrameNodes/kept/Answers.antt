use Rattle.tile_store.proofs.inside.FrameNodes.kept.Goals as goal

pub returns : goal.returns
returns g c = c.node.ensures c.args.tile.now (c.is_of.ensures c.if-not-is_of.false)
