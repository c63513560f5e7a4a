use Rattle.std.proofs.Common.{◌≡◌, ◌+◌, ◌*◌, ◌^◌}
use Rattle.std.proofs.lemmas.Result.{IfOk-weaker}
use Rattle.tree_core.specs.Path.{part_of}
use Rattle.tree_core.specs.Tree.{root_of}
use Rattle.mirror_core.proofs.nodes.MirrorNodes.node.Goals as goal
use Rattle.mirror_core.proofs.Tiling.{leaves_are}
use Rattle.mirror_core.specs.Counted.{mirror_keeps}
use Rattle.mirror_core.specs.Kept.{kept_places}
use Rattle.mirror_core.specs.Words.{mirror_records, mirror_tiles_disk, mirror_view}

pub returns-clause-value : goal.returns-clause-value
returns-clause-value g c =
    let mirror = c.args.self.now in
    let h = g.H.TreeHash.hash in
    IfOk-weaker c.tile_node.result _ _ (λ node is. leaves_are h (mirror_view mirror)
    (kept_places mirror.machine.kept) (g.T.Disk.contents (mirror_tiles_disk mirror)) _
    (mirror_records mirror)
    (λ leaves. node ≡ root_of h (part_of leaves (c.args.place * 2 ^ c.args.level)
    ((c.args.place + 1) * 2 ^ c.args.level))) (mirror_keeps mirror) is) c.tile_node.ensures.value
