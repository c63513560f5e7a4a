use Rattle.std.proofs.Common.{◌*◌, ◌++◌, max, sym, ◌∙◌, ap, subst, arith}
use Rattle.disk_core.specs.Disk.{Only}
use Rattle.std.specs.Prelude.{IfSome, option_map}
use Rattle.byte_formats.specs.Types.{Text}
use Rattle.tile_store.proofs.Adopted.{both-contents, on-ok-map}
use Rattle.tile_store.proofs.Grown.{sound-still}
use Rattle.tile_store.proofs.Kept.{leaves-following, on-ok-from, sound-following, tiles-of}
use Rattle.tile_store.proofs.Kept.{contents-before, contents-both}
use Rattle.tile_store.proofs.Prefixes.{prefix-less}
use Rattle.tile_store.specs.Contents.{HoldsTiles, stored_leaves}
use Rattle.tile_store.specs.Layout.{tiles_end}
use Rattle.tile_store.specs.Sound.{leaves_with}
use Rattle.tile_store.specs.Writing.{HoldsFirst, KeepsAfter}
use Rattle.tree_cache.proofs.Filled.{count-rows}
use Rattle.tile_store.proofs.store.Tiles.write_from.Goals as goal

pub write_tiles-requires-clause-rows : goal.write_tiles-requires-clause-rows
write_tiles-requires-clause-rows g c =
    let tiles = c.args.self.now in
    let to = c.count_tiles.ensures in
    let filled = c.fill.ensures.rows in
    let count = filled.count in
    let size = c.fill.ensures.filled in
    let within = c.requires.within in
    record {
      few = let few = tiles.few in omega arith;
      full = omega arith;
      adopted = tiles.adopted;
      following = c.requires.new;
      gone = λ level. filled.gone level ∙ tiles.gone level;
    }

pub invariant_of-self : goal.invariant_of-self
invariant_of-self g c =
    let tiles = c.args.self.now in
    let known = c.write_tiles.ensures.following.known in
    let reach = tiles.reach in
    let filled = c.fill.ensures.rows in
    let count = filled.count in
    record {
      few = let few = tiles.few in omega arith;
      whole = tiles.whole;
      written = tiles.written;
      within = let within = tiles.within in omega arith;
      reach = omega arith;
      made = let made = tiles.made in let more = filled.more in omega arith;
      gone = λ level. filled.gone level ∙ tiles.gone level;
      beside = tiles.beside;
      some = tiles.some;
      free = tiles.free;
      keys = tiles.keys;
      contents = λ after contents.
          let few = tiles.few in
          let within = tiles.within in
          let before = contents-before (g.T.Disk.contents tiles.disk)
          (g.T.Disk.contents c.write_tiles.new.disk) after c.write_tiles.ensures.following.contents
          contents in
          let there = g.met.T.Disk.known_there tiles.disk before.0 before.1 in
          let order = c.requires.following before.0 before.1 in
          sound-following g.H.TreeHash.hash tiles.adopted tiles.stored c.fill.new.self tiles.pool
          before.0 after tiles.whole tiles.written (omega arith) (omega arith)
          (prefix-less (tiles_end tiles.stored) (8192 * c.args.from) before.0 after (omega arith)
          (c.write_tiles.ensures.prefix before.0 after before.1 contents)) tiles.keys
          (sound-still g.H.TreeHash.hash tiles.adopted tiles.stored tiles.rows c.fill.new.self
          tiles.pool before.0 filled.first filled.same (tiles.contents before.0 before.1));
    }

pub returns-clause-leaves : goal.returns-clause-leaves
returns-clause-leaves g c =
    let tiles = c.args.self.now in
    let reach = tiles.reach in
    record {
      list = ap (λ first. option_map (λ b. stored_leaves tiles.adopted b ++ first)
          (g.T.Disk.contents c.write_tiles.new.disk)) c.fill.ensures.rows.first
          ∙ contents-both (g.T.Disk.contents tiles.disk)
          (g.T.Disk.contents c.write_tiles.new.disk) (leaves_with tiles.adopted tiles.rows)
          c.write_tiles.ensures.following.contents
          (λ b after contents_old contents_new.
          let there = g.met.T.Disk.known_there tiles.disk b contents_old in
          let order = c.requires.following b contents_old in
          leaves-following tiles.adopted tiles.stored tiles.rows b after tiles.whole tiles.written
          (omega arith)
          (prefix-less (tiles_end tiles.stored) (8192 * c.args.from) b after (omega arith)
          (c.write_tiles.ensures.prefix b after contents_old contents_new)));
      count = c.fill.ensures.rows.count;
      filled = c.fill.ensures.filled;
    }

pub returns-clause-holds : goal.returns-clause-holds
returns-clause-holds g c =
    let tiles = c.args.self.now in
    let h = g.H.TreeHash.hash in
    let new = c.write_tiles.new.disk in
    let from = c.args.from in
    on-ok-from c.write_tiles.result c.write_tiles.ensures.written c.write_tiles.ensures.durable
    (λ written durable.
    both-contents (g.T.Disk.contents tiles.disk) (leaves_with tiles.adopted tiles.rows)
    (λ before leaves. HoldsFirst h leaves from before → (crash_state : Text)
    → g.T.Disk.may_leave new crash_state → HoldsTiles h leaves c.args.size crash_state)
    (λ b contents first crash_state left.
    let leaves = leaves_with tiles.adopted tiles.rows b in
    let sound = tiles.contents b contents in
    let few = tiles.few in
    let size = c.requires.within in
    let count = count-rows h (leaves_with tiles.adopted tiles.rows b) tiles.rows
    sound.stands in
    let stands = c.fill.ensures.rows.same (leaves_with tiles.adopted tiles.rows b)
    sound.stands in
    let later = contents-before (g.T.Disk.contents new) (g.T.Disk.contents tiles.disk) b
    (sym c.write_tiles.ensures.following.contents) contents in
    let only : Only later.0 (g.T.Disk.may_leave new) =
    subst (λ t. IfSome t (λ bytes. Only bytes (g.T.Disk.may_leave new))) later.1 durable in
    subst (HoldsTiles h leaves c.args.size) (sym (only crash_state left))
    (tiles-of h leaves c.args.size later.0 (omega arith) (omega arith)
    (subst (λ n. HoldsFirst h leaves n later.0) c.count_tiles.ensures
    (written.holds b later.0 contents later.1 leaves stands first)))))

pub returns-clause-after : goal.returns-clause-after
returns-clause-after g c =
    let tiles = c.args.self.now in
    on-ok-map c.write_tiles.result c.write_tiles.ensures.written (λ written.
    subst (λ n. KeepsAfter g.T.Disk (8192 * max c.args.from n) tiles.disk
    c.write_tiles.new.disk) c.count_tiles.ensures written.after)
