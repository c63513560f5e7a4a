use Rattle.std.proofs.Common.{◌≡◌, ◌+◌, ◌*◌, ◌^◌, ◌++◌, ◌∙◌, ap, arith}
use Rattle.std.specs.Prelude.{option_map}
use Rattle.tile_store.proofs.Grown.{sound-still}
use Rattle.tile_store.proofs.NodeValues.{when-contents}
use Rattle.tile_store.specs.Contents.{stored_leaves}
use Rattle.tile_store.specs.Sound.{leaves_with}
use Rattle.tree_core.specs.Path.{part_of}
use Rattle.tree_core.specs.Tree.{root_of}
use Rattle.tile_store.proofs.store.Tiles.kept_node.Goals as goal

pub invariant_of-self : goal.invariant_of-self
invariant_of-self g c =
    let tiles = c.args.self.now in
    let filled = c.fill.ensures.rows in
    let count = filled.count in
    record {
      few = let few = tiles.few in omega arith;
      whole = tiles.whole;
      written = tiles.written;
      within = let within = tiles.within in omega arith;
      reach = tiles.reach;
      made = let made = tiles.made in let more = filled.more in omega arith;
      gone = λ level. filled.gone level ∙ tiles.gone level;
      beside = tiles.beside;
      some = tiles.some;
      free = tiles.free;
      keys = tiles.keys;
      contents = λ b contents.
          sound-still g.H.TreeHash.hash tiles.adopted tiles.stored tiles.rows c.fill.new.self
          tiles.pool b filled.first filled.same (tiles.contents b contents);
    }

pub returns-clause-value : goal.returns-clause-value
returns-clause-value g c =
    let old = c.args.self.now in
    let h = g.H.TreeHash.hash in
    when-contents (g.T.Disk.contents old.disk) (leaves_with old.adopted old.rows)
    (λ leaves. c.hash_at.result ≡ root_of h (part_of leaves (c.args.place * 2 ^ c.args.level)
    ((c.args.place + 1) * 2 ^ c.args.level)))
    (λ b contents.
    let sound = old.contents b contents in
    c.hash_at.ensures h (leaves_with old.adopted old.rows b)
    (c.fill.ensures.rows.same (leaves_with old.adopted old.rows b) sound.stands))

pub returns-clause-list : goal.returns-clause-list
returns-clause-list g c =
    let old = c.args.self.now in
    ap (λ first. option_map (λ b. stored_leaves old.adopted b ++ first)
    (g.T.Disk.contents old.disk)) c.fill.ensures.rows.first
