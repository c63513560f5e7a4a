use Rattle.std.proofs.Common.{◌+◌, ◌*◌, ◌/◌, [], ◌∷◌, ◌++◌, ◌∙◌, ap, arith}
use Rattle.std.specs.Prelude.{option_map}
use Rattle.tile_store.proofs.Grown.{leaves-pushed, sound-pushed, contents-same}
use Rattle.tile_store.specs.Sound.{leaves_with}
use Rattle.tile_store.proofs.store.Tiles.push.Goals as goal

pub invariant_of-self : goal.invariant_of-self
invariant_of-self g c =
    let tiles = c.reserve.new.self in
    let count = c.push.ensures.count in
    let same = c.reserve.ensures.leaves.count in
    let within = tiles.within in
    record {
      few = let few = c.requires in omega arith;
      whole = tiles.whole;
      written = tiles.written;
      within = omega arith;
      reach = tiles.reach;
      made = let made = tiles.made in let filled = c.push.ensures.filled in omega arith;
      gone = λ level. c.push.ensures.gone level ∙ tiles.gone level;
      beside = tiles.beside;
      some = tiles.some;
      free = tiles.free;
      keys = tiles.keys;
      contents = λ b contents.
          sound-pushed g.H.TreeHash.hash tiles.adopted tiles.stored tiles.rows c.push.new.self
          tiles.pool b c.args.leaf.now (c.push.ensures.pushed g.H.TreeHash.hash)
          c.push.ensures.gone within
          (tiles.contents b contents);
    }

pub returns-clause-pushed : goal.returns-clause-pushed
returns-clause-pushed g c =
    let tiles = c.reserve.new.self in
    let leaves = c.reserve.ensures.leaves in
    record {
      list = contents-same (g.T.Disk.contents tiles.disk)
          (leaves_with tiles.adopted c.push.new.self)
          (λ list. list ++ c.args.leaf.now ∷ []) (leaves_with tiles.adopted tiles.rows)
          (λ b contents.
          let sound = tiles.contents b contents in
          leaves-pushed g.H.TreeHash.hash tiles.adopted tiles.rows c.push.new.self b
          c.args.leaf.now (c.push.ensures.pushed g.H.TreeHash.hash) c.push.ensures.gone
          sound.stands)
          ∙ ap (option_map (λ list. list ++ c.args.leaf.now ∷ [])) leaves.list;
      count = let count = c.push.ensures.count in let same = leaves.count in omega arith;
      filled = c.push.ensures.filled ∙ ap (λ n. 2 * (n / 2) + 1) leaves.filled;
    }
