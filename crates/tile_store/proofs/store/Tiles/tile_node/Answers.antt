use Rattle.std.proofs.Common.{◌≡◌, ◌+◌, ◌-◌, ◌*◌, ◌/◌, ◌%◌, ◌^◌, ◌≤◌, ◌++◌, ◌∙◌}
use Rattle.std.proofs.Common.{ap, subst, sym}
use Rattle.std.proofs.Common.{arith, rules}
use Rattle.tile_store.proofs.Numbers.{full-more, gone-below}
use Rattle.tile_store.proofs.NodeValues.{frame-tile, tile-node, when-contents}
use Rattle.tile_store.specs.Contents.{IsTile, stored_leaves}
use Rattle.tile_store.specs.Layout.{IsFull}
use Rattle.tile_store.specs.Sound.{leaves_with}
use Rattle.tree_cache.proofs.Filled.{count-rows}
use Rattle.tree_cache.specs.Rows.{count_of}
use Rattle.tree_core.specs.Path.{part_of}
use Rattle.tree_core.specs.Tree.{root_of}
use Rattle.tree_proofs.proofs.Fulls.{level_fits}
use Rattle.tile_store.proofs.store.Tiles.tile_node.Goals as goal

pub tile_of-key-requires : goal.tile_of-key-requires
tile_of-key-requires g c =
    let few = c.args.self.now.few in
    level_fits c.args.place c.args.level (count_of c.args.self.now.rows) c.requires
    (omega arith)

pub kept_node-requires-clause-kept : goal.kept_node-requires-clause-kept
kept_node-requires-clause-kept g c =
    let tiles = c.args.self.now in
    let key = c.tile_of-key.result in
    subst (λ n. n ≤ c.args.place) (sym (tiles.gone c.args.level))
    (gone-below tiles.adopted c.args.level c.args.place (λ full.
    let here : IsFull tiles.adopted key.level key.place =
    subst (λ l. IsFull tiles.adopted l key.place) (sym c.tile_of-key.ensures.level)
    (subst (IsFull tiles.adopted (c.args.level / 8)) (sym c.tile_of-key.ensures.place) full) in
    let yes = c.is_full.ensures.1 here in
    let no = c.if-not-is_full.true in
    cc))

pub node-requires-clause-small : goal.node-requires-clause-small
node-requires-clause-small g c =
    let few = c.args.self.now.few in
    level_fits c.args.place c.args.level (count_of c.args.self.now.rows) c.requires
    (omega arith)

pub returns-clause-value : goal.returns-clause-value
returns-clause-value g c =
    let old = c.args.self.now in
    let now = c.load.new.self in
    let h = g.H.TreeHash.hash in
    let stays = c.load.ensures.stays in
    let key = c.tile_of-key.result in
    when-contents (g.T.Disk.contents old.disk) (leaves_with old.adopted old.rows)
    (λ leaves. c.node.result ≡ root_of h (part_of leaves (c.args.place * 2 ^ c.args.level)
    ((c.args.place + 1) * 2 ^ c.args.level)))
    (λ b contents.
    let before = old.contents b contents in
    let sound = now.contents b (stays.only_reads.contents ∙ contents) in
    let full : IsFull old.adopted key.level key.place = search rules in
    let adopted = stays.adopted in
    let written = now.written in
    let tile : IsTile h (leaves_with old.adopted old.rows b) (c.args.level / 8)
    (c.args.place / 2 ^ (8 - c.args.level % 8)) c.frame-tile.result.now =
    frame-tile h now.adopted now.stored now.rows now.pool b key c.in_ok-slot.slot.0
    (c.args.level / 8) (c.args.place / 2 ^ (8 - c.args.level % 8)) c.frame-tile.result.now
    (leaves_with old.adopted old.rows b) sound c.in_ok-slot.ensures.held
    c.tile_of-key.ensures.level c.tile_of-key.ensures.place c.frame-tile.ensures.value
    (full-more old.adopted now.stored (c.args.level / 8)
    (c.args.place / 2 ^ (8 - c.args.level % 8)) (omega arith)
    (subst (λ l. IsFull old.adopted l (c.args.place / 2 ^ (8 - c.args.level % 8)))
    c.tile_of-key.ensures.level
    (subst (IsFull old.adopted key.level) c.tile_of-key.ensures.place full)))
    (ap (λ a. leaves_with a now.rows b) stays.adopted
    ∙ ap (λ first. stored_leaves old.adopted b ++ first) stays.rows.first) in
    let count = count-rows h (leaves_with old.adopted old.rows b) old.rows before.stands in
    tile-node h (leaves_with old.adopted old.rows b) c.args.level c.args.place
    c.frame-tile.result.now c.node.result tile c.node.ensures.node
    (subst (λ n. (c.args.place + 1) * 2 ^ c.args.level ≤ n) count c.requires))
