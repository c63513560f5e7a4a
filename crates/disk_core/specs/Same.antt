-- Two disks that only their counts distinguish.
use Rattle.std.specs.Prelude.{◌≡◌, ◌↔◌, ℕ}
use Rattle.byte_formats.specs.Types.{Text}
use Rattle.disk_core.specs.declared.disk.Disk.{Ghosts}

-- They read alike, their clocks agree, and they leave the same after a crash. Nothing is said of
-- the count of failures and of the known length, which a copy begins again.
pub record SameDevice {D : Type 0} (g : Ghosts D) (a b : D) : Type 0 where
  pub reads : g.contents b ≡ g.contents a
  pub time : g.clock_at b ≡ g.clock_at a
  pub leaves : (c : Text) → g.may_leave b c ↔ g.may_leave a c
  pub left : (t : ℕ) (c : Text) → g.left_since b t c ↔ g.left_since a t c
