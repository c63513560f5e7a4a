use Rattle.tile_store.proofs.inside.FrameNodes.node.Goals as goal

pub returns-in-Ok-clause-node : goal.returns-in-Ok-clause-node
returns-in-Ok-clause-node g c = c.node-hash.ensures c.args.tile.now c.in-Ok.ensures
