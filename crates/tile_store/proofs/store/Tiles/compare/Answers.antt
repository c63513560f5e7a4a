use Rattle.std.proofs.Common.{ℕ, sym, ◌∙◌, subst, arith}
use Rattle.tile_store.proofs.Adopted.{begins-within, both-contents, cause-from, if-err-both}
use Rattle.tile_store.proofs.Adopted.{if-err-map, on-ok-map, stand-in}
use Rattle.tile_store.proofs.Grown.{sound-still}
use Rattle.tile_store.proofs.Numbers.{full-low, full-number}
use Rattle.tile_store.specs.Causes.{IsNewTile, StandsIn}
use Rattle.tile_store.specs.Comparing.{HasTileReason, HaveMatched}
use Rattle.tile_store.specs.Layout.{tiles_in}
use Rattle.tile_store.specs.Sound.{leaves_with}
use Rattle.tile_store.proofs.store.Tiles.compare.Goals as goal

pub check-requires-clause-rows : goal.check-requires-clause-rows
check-requires-clause-rows g c =
    let tiles = c.args.self.now in
    let from = c.count_tiles-from.ensures in
    let to = c.count_tiles-to.ensures in
    let filled = c.fill.ensures.rows in
    let count = filled.count in
    let size = c.fill.ensures.filled in
    record {
      few = let few = tiles.few in omega arith;
      full = omega arith;
      adopted = tiles.adopted;
      following = omega arith;
      gone = λ level. filled.gone level ∙ tiles.gone level;
    }

pub check-requires-clause-unheld : goal.check-requires-clause-unheld
check-requires-clause-unheld g c = λ key following slot there held.
    let tiles = c.args.self.now in
    let few = tiles.few in
    let within = tiles.within in
    let written = tiles.written in
    let from = c.count_tiles-from.ensures in
    let full = tiles.keys slot key (record { there = there; held = held }) in
    let low = full-low tiles.adopted key.level key.place (omega arith) full in
    let before = full-number tiles.adopted key.level key.place (omega arith) full in
    omega arith

pub invariant_of-self : goal.invariant_of-self
invariant_of-self g c =
    let tiles = c.args.self.now in
    let compared = c.check.ensures.compared in
    let filled = c.fill.ensures.rows in
    let count = filled.count in
    record {
      few = let few = tiles.few in omega arith;
      whole = tiles.whole;
      written = tiles.written;
      within = let within = tiles.within in omega arith;
      reach = let known = compared.only_reads.known in
          let reach = tiles.reach in
          omega arith;
      made = let made = tiles.made in let more = filled.more in omega arith;
      gone = λ level. filled.gone level ∙ tiles.gone level;
      beside = let count = compared.count in
          let beside = tiles.beside in
          omega arith;
      some = let count = compared.count in
          let some = tiles.some in
          omega arith;
      free = compared.free;
      keys = λ slot key holds. tiles.keys slot key (compared.keys slot key holds);
      contents = λ b contents.
          let old = sound-still g.H.TreeHash.hash tiles.adopted tiles.stored tiles.rows
          c.fill.new.self tiles.pool b filled.first filled.same
          (tiles.contents b (sym compared.only_reads.contents ∙ contents)) in
          record {
            stands = old.stands;
            tiles = old.tiles;
            frames = compared.frames b (sym compared.only_reads.contents ∙ contents) old.frames;
          };
    }

pub returns-clause-stands : goal.returns-clause-stands
returns-clause-stands g c =
    let tiles = c.args.self.now in
    let h = g.H.TreeHash.hash in
    on-ok-map c.check.result c.check.ensures.ok (λ matched.
    both-contents (g.T.Disk.contents tiles.disk) (leaves_with tiles.adopted tiles.rows)
    (λ bytes leaves. (level place : ℕ) → IsNewTile tiles.adopted c.args.size level place
    → StandsIn h leaves bytes level place)
    (λ b contents.
    let sound = tiles.contents b contents in
    let few = tiles.few in
    let size = c.requires.within in
    stand-in g.T.Disk h c.fill.new.self tiles.adopted c.args.size tiles.disk tiles.pool b
    (leaves_with tiles.adopted tiles.rows b) (omega arith)
    (subst (λ n. HaveMatched g.T.Disk h c.fill.new.self n (tiles_in c.args.size) tiles.disk
    tiles.pool) c.count_tiles-from.ensures
    (subst (λ n. HaveMatched g.T.Disk h c.fill.new.self c.count_tiles-from.result n tiles.disk
    tiles.pool) c.count_tiles-to.ensures matched))
    contents sound.frames
    (c.fill.ensures.rows.same (leaves_with tiles.adopted tiles.rows b) sound.stands)))

pub returns-clause-cause : goal.returns-clause-cause
returns-clause-cause g c =
    let tiles = c.args.self.now in
    let h = g.H.TreeHash.hash in
    let few = tiles.few in
    let size = c.requires.within in
    if-err-map
    (HasTileReason g.T.Disk h c.fill.new.self c.count_tiles-from.result c.count_tiles-to.result
    tiles.disk c.check.new.disk tiles.pool)
    _ c.check.result c.check.ensures.err (λ e reason.
    cause-from tiles c.fill.new.self c.check.new.disk c.args.size e (omega arith)
    c.fill.ensures.rows.same
    (subst (λ n. HasTileReason g.T.Disk h c.fill.new.self n (tiles_in c.args.size) tiles.disk
    c.check.new.disk tiles.pool e) c.count_tiles-from.ensures
    (subst (λ n. HasTileReason g.T.Disk h c.fill.new.self c.count_tiles-from.result n tiles.disk
    c.check.new.disk tiles.pool e) c.count_tiles-to.ensures reason)))

pub returns-clause-begins : goal.returns-clause-begins
returns-clause-begins g c =
    let tiles = c.args.self.now in
    let h = g.H.TreeHash.hash in
    if-err-both
    (HasTileReason g.T.Disk h c.fill.new.self c.count_tiles-from.result c.count_tiles-to.result
    tiles.disk c.check.new.disk tiles.pool)
    _ _ c.check.result c.check.ensures.err c.check.ensures.begins (λ e reason begins.
    begins-within g.T.Disk h c.fill.new.self tiles.adopted c.args.size tiles.disk
    c.check.new.disk tiles.pool e
    (subst (λ n. HasTileReason g.T.Disk h c.fill.new.self n (tiles_in c.args.size) tiles.disk
    c.check.new.disk tiles.pool e) c.count_tiles-from.ensures
    (subst (λ n. HasTileReason g.T.Disk h c.fill.new.self c.count_tiles-from.result n tiles.disk
    c.check.new.disk tiles.pool e) c.count_tiles-to.ensures reason)) begins)
