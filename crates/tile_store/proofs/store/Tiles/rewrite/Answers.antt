use Rattle.std.proofs.Common.{◌≡◌, ◌*◌, ◌<◌, ◌≤◌, ⊎_elim, max, sym, subst, arith, rules}
use Rattle.std.specs.Prelude.{IfSome}
use Rattle.std.proofs.lemmas.Bool.{cases_lt}
use Rattle.byte_formats.specs.Types.{Text}
use Rattle.tile_store.proofs.Adopted.{between}
use Rattle.tile_store.proofs.Kept.{sound-stored, when-these}
use Rattle.tile_store.proofs.Numbers.{full-low, full-small}
use Rattle.tile_store.proofs.Renewed.{all-rewritten, bad-after}
use Rattle.tile_store.specs.Contents.{HoldsTiles}
use Rattle.tile_store.specs.Layout.{tiles_end, tiles_in}
use Rattle.tile_store.specs.Sound.{leaves_with}
use Rattle.tile_store.specs.Writing.{KeepsAfter}
use Rattle.tile_store.proofs.store.Tiles.rewrite.Goals as goal

pub number_of-requires-clause-low : goal.number_of-requires-clause-low
number_of-requires-clause-low g c =
    let tiles = c.args.self.now in
    let few = tiles.few in
    let within = c.requires.within in
    let low = full-low c.args.size c.args.key.level c.args.key.place (omega arith)
    c.requires.new.full in
    omega arith

pub number_of-requires-clause-few : goal.number_of-requires-clause-few
number_of-requires-clause-few g c =
    let tiles = c.args.self.now in
    let few = tiles.few in
    let within = c.requires.within in
    full-small c.args.size c.args.key.level c.args.key.place (omega arith) c.requires.new.full

pub write_from-requires-clause-new : goal.write_from-requires-clause-new
write_from-requires-clause-new g c =
    let tiles = c.args.self.now in
    let few = tiles.few in
    let within = c.requires.within in
    let number = c.number_of.ensures.number in
    let at = between tiles.adopted c.args.size c.args.key.level c.args.key.place (omega arith)
    c.requires.new in
    omega (arith, at.1.0)

pub write_from-requires-clause-following : goal.write_from-requires-clause-following
write_from-requires-clause-following g c = λ b contents.
    let tiles = c.args.self.now in
    let few = tiles.few in
    let within = c.requires.within in
    let number = c.number_of.ensures.number in
    let after = bad-after tiles c.args.size c.args.key.level c.args.key.place (omega arith)
    c.requires.bad b contents in
    omega arith

pub invariant_of-self : goal.invariant_of-self
invariant_of-self g c =
    let old = c.args.self.now in
    let tiles = c.write_from.new.self in
    let h = g.H.TreeHash.hash in
    let most : c.max-self.result ≡ max tiles.stored c.args.size = search rules in
    let written = tiles.written in
    let within = tiles.within in
    let size = c.requires.within in
    let count = c.write_from.ensures.leaves.count in
    let few = old.few in
    record {
      few = tiles.few;
      whole = tiles.whole;
      written = omega arith;
      within = omega arith;
      reach = let old = tiles.reach in
          let known = c.in_ok-write_from.ensures.known in
          let new : tiles_end c.args.size ≤ g.T.Disk.known tiles.disk = omega arith in
          ⊎_elim
          (λ (more : tiles.stored < c.args.size).
          let is : c.max-self.result ≡ c.args.size = omega arith in
          subst (λ n. tiles_end n ≤ g.T.Disk.known tiles.disk) (sym is) new)
          (λ (less : c.args.size ≤ tiles.stored).
          let is : c.max-self.result ≡ tiles.stored = omega arith in
          subst (λ n. tiles_end n ≤ g.T.Disk.known tiles.disk) (sym is) old)
          (cases_lt tiles.stored c.args.size);
      made = tiles.made;
      gone = tiles.gone;
      beside = tiles.beside;
      some = tiles.some;
      free = tiles.free;
      keys = tiles.keys;
      contents = λ b contents.
          sound-stored h tiles.adopted tiles.stored c.args.size c.max-self.result tiles.rows
          tiles.pool b most
          (when-these (g.T.Disk.contents tiles.disk) (leaves_with tiles.adopted tiles.rows)
          (λ leaves. (crash_state : Text) → g.T.Disk.may_leave tiles.disk crash_state
          → HoldsTiles h leaves c.args.size crash_state) b contents
          (subst (λ o. IfSome o
          (λ leaves. (crash_state : Text) → g.T.Disk.may_leave tiles.disk crash_state
          → HoldsTiles h leaves c.args.size crash_state)) (sym c.write_from.ensures.leaves.list)
          (all-rewritten old tiles.disk c.args.size c.number_of.result c.args.key.level
          c.args.key.place (omega arith) c.number_of.ensures.number c.requires.bad
          c.in_ok-write_from.ensures.holds)) b
          (g.met.T.Disk.reads_crash_state tiles.disk b contents))
          (tiles.contents b contents);
    }

pub returns-clause-renewed : goal.returns-clause-renewed
returns-clause-renewed g c =
    let old = c.args.self.now in
    let tiles = c.write_from.new.self in
    let most : c.max-self.result ≡ max tiles.stored c.args.size = search rules in
    let same = c.write_from.ensures.stored in
    let known = c.in_ok-write_from.ensures.known in
    let few = old.few in
    let within = c.requires.within in
    let at = between old.adopted c.args.size c.args.key.level c.args.key.place (omega arith)
    c.requires.new in
    let number = c.number_of.ensures.number in
    let end : max c.number_of.result (tiles_in c.args.size) ≡ tiles_in c.args.size =
    omega (arith, at.1.1) in
    record {
      stored = omega arith;
      reach = omega arith;
      holds = all-rewritten old tiles.disk c.args.size c.number_of.result c.args.key.level
          c.args.key.place (omega arith) c.number_of.ensures.number c.requires.bad
          c.in_ok-write_from.ensures.holds;
      after = subst (λ n. KeepsAfter g.T.Disk (8192 * n) old.disk tiles.disk) end
          c.in_ok-write_from.ensures.after;
    }
