use Rattle.std.proofs.Common.{◌%◌, ℕ, ap, arith, refl, subst, ◌∙◌}
use Rattle.disk_core.proofs.Times.{nothing_read}
use Rattle.tile_store.specs.Causes.{HasCauseOf}
use Rattle.tile_store.specs.Store.{tiles_disk}
use Rattle.mirror_core.specs.Kept.{kept_tiles}
use Rattle.mirror_core.proofs.Resting.{not_stored}
use Rattle.mirror_core.proofs.machine.MirrorMachine.adopt_new.Goals as goal

pub adopt-requires : goal.adopt-requires
adopt-requires g c =
    let sound = c.tiled-size.ensures.sound in
    let within = sound.tiled in
    let value = c.tiled-size.ensures.value in
    let counted = c.requires in
    record {
      multiple = ap (λ (n : ℕ). n % 256) value ∙ sound.multiple;
      within = omega arith;
    }

-- all are stored, or tiles were refused
pub returns-then-has_stored-clause-stored : goal.returns-then-has_stored-clause-stored
returns-then-has_stored-clause-stored g c = c.if-has_stored.ensures.yes refl

pub returns-then-has_stored-clause-only_reads : goal.returns-then-has_stored-clause-only_reads
returns-then-has_stored-clause-only_reads g c =
    nothing_read g.T.Disk (tiles_disk (kept_tiles c.args.self.now.kept))
    (g.met.T.Disk.only_now _)

-- they are adopted
pub returns-in-Ok-clause-stored : goal.returns-in-Ok-clause-stored
returns-in-Ok-clause-stored g c = λ none.
    let stored = c.in-Ok.ensures.adopted.stored in
    let value = c.tiled-size.ensures.value in
    omega arith

pub returns-in-Ok-clause-still : goal.returns-in-Ok-clause-still
returns-in-Ok-clause-still g c = λ stored.
    absurd (not_stored c.args.self.now (c.if-has_stored.ensures.no refl) stored)

-- their disk failed
pub returns-in-Err-Failed-clause-cause : goal.returns-in-Err-Failed-clause-cause
returns-in-Err-Failed-clause-cause g c = subst (HasCauseOf (kept_tiles c.args.self.now.kept)
    (tiles_disk c.adopt.new.self) c.tiled-size.result) c.in-Err-Failed.field-0-is
    c.in-Err-Failed.ensures.refused.cause

pub returns-in-Err-Failed-clause-still : goal.returns-in-Err-Failed-clause-still
returns-in-Err-Failed-clause-still g c = λ stored.
    absurd (not_stored c.args.self.now (c.if-has_stored.ensures.no refl) stored)

-- one is bad
pub returns-in-Err-BadTile-clause-stored : goal.returns-in-Err-BadTile-clause-stored
returns-in-Err-BadTile-clause-stored g c = λ none. absurd cc

pub returns-in-Err-BadTile-clause-fine : goal.returns-in-Err-BadTile-clause-fine
returns-in-Err-BadTile-clause-fine g c = (subst (HasCauseOf (kept_tiles c.args.self.now.kept)
    (tiles_disk c.adopt.new.self) c.tiled-size.result) c.in-Err-BadTile.field-0-is
    c.in-Err-BadTile.ensures.refused.cause).0

pub returns-in-Err-BadTile-clause-usable : goal.returns-in-Err-BadTile-clause-usable
returns-in-Err-BadTile-clause-usable g c = λ usable is. absurd cc

pub returns-in-Err-BadTile-clause-still : goal.returns-in-Err-BadTile-clause-still
returns-in-Err-BadTile-clause-still g c = λ stored.
    absurd (not_stored c.args.self.now (c.if-has_stored.ensures.no refl) stored)
