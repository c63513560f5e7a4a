use Rattle.std.proofs.Common.{◌≡◌, [], length, refl, ap, arith}
use Rattle.tile_store.proofs.Grown.{gone-none, leaves-none, no-pins, sound-new}
use Rattle.tile_store.proofs.NodeValues.{when-contents}
use Rattle.tile_store.specs.Sound.{leaves_with}
use Rattle.tree_cache.specs.Rows.{count_of}
use Rattle.tile_store.proofs.store.Tiles.new.Goals as goal

pub invariant_of-result : goal.invariant_of-result
invariant_of-result g c =
    let gone = c.new.ensures.first.gone in
    let kept = ap length c.new.ensures.first.kept in
    let none : count_of c.new.result ≡ 0 = omega arith in
    record {
      few = omega arith;
      whole = refl;
      written = omega arith;
      within = omega arith;
      reach = omega arith;
      made = omega arith;
      gone = λ level. gone-none c.new.result level c.new.ensures.first c.new.ensures.above;
      beside = let none = ap length c.new-2.ensures in
          omega arith;
      some = c.law_sound.ensures.some;
      free = no-pins c.args.pool c.law_sound.ensures c.requires;
      keys = λ slot key holds. absurd (c.requires slot key holds);
      contents = λ b contents.
          sound-new g.H.TreeHash.hash c.new.result c.args.pool b c.new.ensures.first
          c.new.ensures.above c.requires;
    }

pub returns-clause-leaves : goal.returns-clause-leaves
returns-clause-leaves g c =
    when-contents (g.T.Disk.contents c.args.disk) (leaves_with 0 c.new.result)
    (λ leaves. leaves ≡ [])
    (λ b contents. leaves-none c.new.result b c.new.ensures.first)
