-- What a `Fuse` shows: the disk inside, how many calls it still passes, whether it has failed one,
-- and its count of these.
use Rattle.std.specs.Prelude.{◌≡◌, ℕ, ◌-◌, Bool, true, false, ◌&&◌, ◌||◌, ◌==◌, if◌then◌else◌}
use Rattle.mtc_io.specs.Counts.{with_count}
use Rattle.disk_core.specs.declared.disk.Disk.{Ghosts}
use Rattle.disk_core.specs.declared.fuse.Fuse.{Fuse}
use Rattle.disk_core.specs.declared.memory.call.Call.{Call}
use Rattle.disk_core.specs.declared.memory.call.Call.TheVariants.{Len, Read, Write, Sync}

-- it is one of the two calls that change a file
abbrev pub is_change : Call → Bool
is_change Len = false
is_change (Read place size) = false
is_change (Write place piece) = true
is_change Sync = true

module _ {D : Type 0} where
  -- the disk inside
  abbrev pub inner_of : Fuse D → D
  inner_of f = f.disk

  -- how many of the calls that change a file it still passes
  abbrev pub passes_of : Fuse D → ℕ
  passes_of f = f.passes

  -- it has failed one
  abbrev pub is_blown : Fuse D → Bool
  is_blown f = f.blown

  -- the count of the calls that it has failed itself
  abbrev pub refused_of : Fuse D → ℕ
  refused_of f = f.refused

  -- it fails this call
  abbrev pub will_fail : Fuse D → Call → Bool
  will_fail f call = f.blown || (is_change call && f.passes == 0)

  -- A call that it fails leaves the disk inside alone and is counted once, and it fails each one
  -- after. A call that it passes takes one of the passes where it is one of the two that change a
  -- file, and isn't counted here.
  pub record FuseTurn (g : Ghosts D) (old : Fuse D) (call : Call) (ok : Bool)
      (new : Fuse D) : Type 0 where
    pub failed : will_fail old call ≡ true
        → (ok ≡ false) × (new.blown ≡ true) × (new.disk ≡ old.disk)
    pub passed : will_fail old call ≡ false
        → (new.blown ≡ false) × (new.passes ≡ old.passes - (if is_change call then 1 else 0))
        × g.turn old.disk call ok new.disk
    pub refused : new.refused
        ≡ (if will_fail old call then with_count old.refused 1 else old.refused)
