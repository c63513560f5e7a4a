use Rattle.std.proofs.Common.{◌≡◌, ◌+◌, ◌*◌, ◌^◌}
use Rattle.std.proofs.lemmas.Result.{IfOk-weaker}
use Rattle.tree_core.specs.Path.{part_of}
use Rattle.tree_core.specs.Tree.{root_of}
use Rattle.issuance_log.specs.Counted.{log_keeps}
use Rattle.issuance_log.specs.Items.{items_offsets}
use Rattle.issuance_log.specs.Words.{log_records, log_tiles_disk, view_of}
use Rattle.issuance_log.proofs.Tiling.{leaves_are}
use Rattle.issuance_log.proofs.nodes.LogNodes.node.Goals as goal

pub returns-clause-value : goal.returns-clause-value
returns-clause-value g c =
    let log = c.args.self.now in
    let h = g.H.TreeHash.hash in
    IfOk-weaker c.tile_node.result _ _ (λ node is. leaves_are h (view_of log)
    (items_offsets log.machine.items) (g.T.Disk.contents (log_tiles_disk log)) _ (log_records log)
    (λ leaves. node ≡ root_of h (part_of leaves (c.args.place * 2 ^ c.args.level)
    ((c.args.place + 1) * 2 ^ c.args.level))) (log_keeps log) is) c.tile_node.ensures.value
