-- What a crash leaves over more than one call of a disk.
use Rattle.std.specs.Prelude.{◌≡◌, ◌⊎◌, ℕ, ◌≤◌}
use Rattle.byte_formats.specs.Types.{Text}
use Rattle.disk_core.specs.Disk.{NoNew}
use Rattle.disk_core.specs.declared.disk.Disk.{Ghosts}

-- From one time of a disk to a later one, a crash at any time leaves a crash state that has P.
pub record LeavesOnly {D : Type 0} (g : Ghosts D) (old new : D) (P : Text → Type 0) : Type 0 where
  pub later : g.clock_at old ≤ g.clock_at new
  pub each : (c : Text) → g.left_since new (g.clock_at old) c → P c
  -- of an earlier time there is nothing else but what was there before
  pub before : (t : ℕ) (c : Text) → t ≤ g.clock_at old → g.left_since new t c
      → g.left_since old t c ⊎ P c

-- Calls that only read a disk: what the model knows stays, and a crash leaves nothing new at any
-- time.
pub record OnlyReads {D : Type 0} (g : Ghosts D) (old new : D) : Type 0 where
  pub contents : g.contents new ≡ g.contents old
  pub crash : NoNew (g.may_leave old) (g.may_leave new)
  pub times : LeavesOnly g old new (g.may_leave old)
  pub known : g.known old ≤ g.known new
  pub faults : g.faults old ≤ g.faults new
