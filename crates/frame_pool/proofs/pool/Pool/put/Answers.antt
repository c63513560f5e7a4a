use Rattle.std.proofs.Common.{◌<◌, set, Some, false, length, sym, subst}
use Rattle.frame_pool.proofs.Sounds.{sound-claimed}
use Rattle.frame_pool.specs.Frames.{IsUnheld}
use Rattle.frame_pool.specs.Sound.{IsSoundPool}
use Rattle.frame_pool.proofs.pool.Pool.put.Goals as goal

pub move_last-requires : goal.move_last-requires
move_last-requires c =
    c.self.invariant.order c.args.slot
    (subst (λ p. c.args.slot < length p.keys) (sym c.self.view_is) c.requires.there)

pub invariant_of-self : goal.invariant_of-self
invariant_of-self c =
    subst (λ order. IsSoundPool (record {
      keys = set c.self.inside.keys.items c.args.slot (Some c.args.key);
      pins = set c.self.inside.pins.items c.args.slot false;
      order = order;
      frames = c.self.inside.frames.items;
    })) (sym c.move_last.ensures)
    (sound-claimed _ c.args.slot c.args.key c.self.invariant
    (subst (λ p. IsUnheld p c.args.key) (sym c.self.view_is) c.requires.unheld)
    (subst (λ p. c.args.slot < length p.keys) (sym c.self.view_is) c.requires.there))
