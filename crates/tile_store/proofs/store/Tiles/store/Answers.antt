use Rattle.std.proofs.Common.{◌≡◌, ◌<◌, ◌≤◌, ⊎_elim, max, sym, subst, arith, rules}
use Rattle.std.specs.Prelude.{IfSome}
use Rattle.std.proofs.lemmas.Bool.{cases_lt}
use Rattle.byte_formats.specs.Types.{Text}
use Rattle.tile_store.proofs.Kept.{sound-stored, when-these}
use Rattle.tile_store.specs.Contents.{HoldsTiles}
use Rattle.tile_store.specs.Layout.{tiles_end}
use Rattle.tile_store.specs.Sound.{leaves_with}
use Rattle.tile_store.proofs.store.Tiles.store.Goals as goal

pub invariant_of-self : goal.invariant_of-self
invariant_of-self g c =
    let tiles = c.write.new.self in
    let h = g.H.TreeHash.hash in
    let most : c.max-self.result ≡ max tiles.stored c.args.size = search rules in
    let written = tiles.written in
    let within = tiles.within in
    let size = c.requires in
    let count = c.write.ensures.leaves.count in
    record {
      few = tiles.few;
      whole = tiles.whole;
      written = omega arith;
      within = omega arith;
      reach = let old = tiles.reach in
          let known = c.in_ok-write.ensures.known in
          let new : tiles_end c.args.size ≤ g.T.Disk.known tiles.disk = omega arith in
          ⊎_elim
          (λ (more : tiles.stored < c.args.size).
          let is : c.max-self.result ≡ c.args.size = omega arith in
          subst (λ n. tiles_end n ≤ g.T.Disk.known tiles.disk) (sym is) new)
          (λ (less : c.args.size ≤ tiles.stored).
          let is : c.max-self.result ≡ tiles.stored = omega arith in
          subst (λ n. tiles_end n ≤ g.T.Disk.known tiles.disk) (sym is) old)
          (cases_lt tiles.stored c.args.size);
      made = tiles.made;
      gone = tiles.gone;
      beside = tiles.beside;
      some = tiles.some;
      free = tiles.free;
      keys = tiles.keys;
      contents = λ b contents.
          sound-stored h tiles.adopted tiles.stored c.args.size c.max-self.result tiles.rows
          tiles.pool b most
          (when-these (g.T.Disk.contents tiles.disk) (leaves_with tiles.adopted tiles.rows)
          (λ leaves. (crash_state : Text) → g.T.Disk.may_leave tiles.disk crash_state
          → HoldsTiles h leaves c.args.size crash_state) b contents
          (subst (λ o. IfSome o
          (λ leaves. (crash_state : Text) → g.T.Disk.may_leave tiles.disk crash_state
          → HoldsTiles h leaves c.args.size crash_state)) (sym c.write.ensures.leaves.list)
          c.in_ok-write.ensures.holds) b (g.met.T.Disk.reads_crash_state tiles.disk b contents))
          (tiles.contents b contents);
    }
