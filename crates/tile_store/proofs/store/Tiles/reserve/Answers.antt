use Rattle.std.proofs.Common.{◌∙◌, arith}
use Rattle.tile_store.proofs.Grown.{sound-still}
use Rattle.tile_store.proofs.store.Tiles.reserve.Goals as goal

pub invariant_of-self : goal.invariant_of-self
invariant_of-self g c =
    let tiles = c.args.self.now in
    let grown = c.reserve.ensures.grown in
    let count = grown.count in
    record {
      few = let few = tiles.few in omega arith;
      whole = tiles.whole;
      written = tiles.written;
      within = let within = tiles.within in omega arith;
      reach = tiles.reach;
      made = let made = tiles.made in let same = grown.filled in omega arith;
      gone = λ level. grown.gone level ∙ tiles.gone level;
      beside = tiles.beside;
      some = tiles.some;
      free = tiles.free;
      keys = tiles.keys;
      contents = λ b contents.
          sound-still g.H.TreeHash.hash tiles.adopted tiles.stored tiles.rows c.reserve.new.self
          tiles.pool b grown.first (grown.same g.H.TreeHash.hash) (tiles.contents b contents);
    }
