use Rattle.std.proofs.Common.{sym, ◌∙◌, arith}
use Rattle.tile_store.proofs.store.Tiles.sync_file.Goals as goal

pub invariant_of-self : goal.invariant_of-self
invariant_of-self g c =
    let tiles = c.args.self.now in
    let known = c.make_durable.ensures.known in
    record {
      few = tiles.few;
      whole = tiles.whole;
      written = tiles.written;
      within = tiles.within;
      reach = let reach = tiles.reach in omega arith;
      made = tiles.made;
      gone = tiles.gone;
      beside = tiles.beside;
      some = tiles.some;
      free = tiles.free;
      keys = tiles.keys;
      contents = λ b contents.
          tiles.contents b (sym c.make_durable.ensures.only_reads.contents ∙ contents);
    }
