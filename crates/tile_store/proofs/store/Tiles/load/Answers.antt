use Rattle.std.proofs.Common.{⊎_elim, sym, ◌∙◌, subst, arith}
use Rattle.tile_store.proofs.Numbers.{full-low, full-small, full-there}
use Rattle.tile_store.specs.Layout.{IsFull}
use Rattle.tile_store.proofs.store.Tiles.load.Goals as goal

pub load-requires-clause-low : goal.load-requires-clause-low
load-requires-clause-low g c =
    let tiles = c.args.self.now in
    let within = tiles.within in
    let written = tiles.written in
    let few = tiles.few in
    let low = full-low tiles.adopted c.args.key.level c.args.key.place (omega arith) c.requires in
    omega arith

pub load-requires-clause-few : goal.load-requires-clause-few
load-requires-clause-few g c =
    let tiles = c.args.self.now in
    let within = tiles.within in
    let written = tiles.written in
    let few = tiles.few in
    full-small tiles.adopted c.args.key.level c.args.key.place (omega arith) c.requires

pub load-requires-clause-there : goal.load-requires-clause-there
load-requires-clause-there g c =
    let tiles = c.args.self.now in
    let within = tiles.within in
    let few = tiles.few in
    full-there tiles.adopted tiles.stored (g.T.Disk.known tiles.disk) c.args.key.level
    c.args.key.place (omega arith) tiles.written tiles.reach c.requires

pub invariant_of-self : goal.invariant_of-self
invariant_of-self g c =
    let tiles = c.args.self.now in
    record {
      few = tiles.few;
      whole = tiles.whole;
      written = tiles.written;
      within = tiles.within;
      reach = let known = c.load.ensures.only_reads.known in
          let reach = tiles.reach in
          omega arith;
      made = tiles.made;
      gone = tiles.gone;
      beside = let count = c.load.ensures.count in
          let beside = tiles.beside in
          omega arith;
      some = let count = c.load.ensures.count in
          let some = tiles.some in
          omega arith;
      free = c.load.ensures.free;
      keys = λ slot key holds.
          ⊎_elim
          (λ same. subst (λ k. IsFull tiles.adopted k.level k.place) (sym same) c.requires)
          (λ before. tiles.keys slot key before)
          (c.load.ensures.keys slot key holds);
      contents = λ b contents.
          let old = tiles.contents b (sym c.load.ensures.only_reads.contents ∙ contents) in
          record {
            stands = old.stands;
            tiles = old.tiles;
            frames = c.load.ensures.frames b (sym c.load.ensures.only_reads.contents ∙ contents)
                old.frames;
          };
    }
