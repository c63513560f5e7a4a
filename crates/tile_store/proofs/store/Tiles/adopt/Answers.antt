use Rattle.std.proofs.Common.{◌≡◌, ◌<◌, ◌≤◌, ⊎_elim, max, sym, ◌∙◌, subst}
use Rattle.std.proofs.Common.{arith}
use Rattle.std.proofs.Common.{rules}
use Rattle.std.proofs.lemmas.Bool.{cases_lt}
use Rattle.tile_store.proofs.Adopted.{found-tiles, gone-more, list-stays, same-leaves}
use Rattle.tile_store.proofs.Adopted.{sound-adopted, contents-each}
use Rattle.tile_store.proofs.Numbers.{full-more}
use Rattle.tile_store.specs.Layout.{tiles_end}
use Rattle.tile_store.specs.Sound.{leaves_with}
use Rattle.tree_cache.proofs.Filled.{count-rows}
use Rattle.tree_cache.specs.Tiled.{gone_of}
use Rattle.tile_store.proofs.store.Tiles.adopt.Goals as goal

pub forget-requires-clause-before : goal.forget-requires-clause-before
forget-requires-clause-before g c = λ level.
    let tiles = c.compare.new.self in
    let same = c.compare.ensures.stays.adopted in
    subst (λ n. n ≤ gone_of c.args.size level) (sym (tiles.gone level))
    (gone-more tiles.adopted c.args.size level (omega arith))

pub invariant_of-self : goal.invariant_of-self
invariant_of-self g c =
    let old = c.args.self.now in
    let tiles = c.compare.new.self in
    let h = g.H.TreeHash.hash in
    let stays = c.compare.ensures.stays in
    let same = stays.adopted in
    let rows = stays.rows.count in
    let most : c.max-self.result ≡ max tiles.stored c.args.size = search rules in
    let count = c.forget.ensures.count in
    let size = c.requires.within in
    let within = tiles.within in
    let few = tiles.few in
    record {
      few = omega arith;
      whole = c.requires.multiple;
      written = omega arith;
      within = omega arith;
      reach = let before = tiles.reach in
          let after : tiles_end c.args.size ≤ g.T.Disk.known tiles.disk =
          c.in_ok-compare.ensures.reach in
          ⊎_elim
          (λ (more : tiles.stored < c.args.size).
          let is : c.max-self.result ≡ c.args.size = omega arith in
          subst (λ n. tiles_end n ≤ g.T.Disk.known tiles.disk) (sym is) after)
          (λ (less : c.args.size ≤ tiles.stored).
          let is : c.max-self.result ≡ tiles.stored = omega arith in
          subst (λ n. tiles_end n ≤ g.T.Disk.known tiles.disk) (sym is) before)
          (cases_lt tiles.stored c.args.size);
      made = let filled = c.compare.ensures.filled in
          let same = c.forget.ensures.filled in
          omega arith;
      gone = c.forget.ensures.gone;
      beside = tiles.beside;
      some = tiles.some;
      free = tiles.free;
      keys = λ slot key holds.
          full-more tiles.adopted c.args.size key.level key.place (omega arith)
          (tiles.keys slot key holds);
      contents = λ b contents.
          sound-adopted h tiles.adopted tiles.stored c.args.size c.max-self.result tiles.rows
          c.forget.new.self tiles.pool b c.requires.multiple most (omega arith)
          (c.forget.ensures.same h) (c.forget.ensures.gone 0)
          (found-tiles old tiles c.args.size b stays c.in_ok-compare.ensures.stands contents)
          (tiles.contents b contents);
    }

pub returns-clause-leaves : goal.returns-clause-leaves
returns-clause-leaves g c =
    let old = c.args.self.now in
    let tiles = c.compare.new.self in
    let h = g.H.TreeHash.hash in
    let stays = c.compare.ensures.stays in
    let rows = stays.rows.count in
    let size = c.requires.within in
    record {
      list = contents-each (g.T.Disk.contents old.disk) (g.T.Disk.contents tiles.disk)
          (leaves_with old.adopted old.rows) (leaves_with c.args.size c.forget.new.self)
          stays.only_reads.contents
          (λ b contents.
          let sound = tiles.contents b contents in
          let leaves = leaves_with tiles.adopted tiles.rows b in
          let count = count-rows h (leaves_with tiles.adopted tiles.rows b) tiles.rows
          sound.stands in
          list-stays h leaves c.args.size c.forget.new.self b
          (found-tiles old tiles c.args.size b stays c.in_ok-compare.ensures.stands contents)
          c.requires.multiple (omega arith) (c.forget.ensures.same h leaves sound.stands)
          (c.forget.ensures.gone 0)
          ∙ same-leaves old tiles b stays);
      count = c.forget.ensures.count ∙ rows;
      filled = c.forget.ensures.filled ∙ c.compare.ensures.filled;
    }
