use Rattle.std.proofs.Common.{◌≡◌, ◌+◌, ◌*◌, ◌^◌}
use Rattle.std.proofs.lemmas.Result.{IfOk-weaker}
use Rattle.tree_core.specs.Path.{part_of}
use Rattle.tree_core.specs.Tree.{root_of}
use Rattle.tiled_items.specs.Held.{held_places}
use Rattle.tiled_items.specs.Staying.{tiled_holds}
use Rattle.tiled_items.specs.Words.{tiled_records, tiled_tiles_disk, tiled_view}
use Rattle.tiled_items.proofs.Leaves.{leaves_are}
use Rattle.tiled_items.proofs.nodes.TiledItemsNodes.node.Goals as goal

pub returns-clause-value : goal.returns-clause-value
returns-clause-value g c =
    let rules = g.R.ItemRules in
    let it = c.args.self.now in
    let h = g.H.TreeHash.hash in
    IfOk-weaker c.tile_node.result _ _ (λ node is. leaves_are rules.first rules.added h
    (rules.size (tiled_view it)) (held_places it.machine.held)
    (g.T.Disk.contents (tiled_tiles_disk it)) _ (tiled_records it)
    (λ leaves. node ≡ root_of h (part_of leaves (c.args.place * 2 ^ c.args.level)
    ((c.args.place + 1) * 2 ^ c.args.level))) (tiled_holds it) is) c.tile_node.ensures.value
