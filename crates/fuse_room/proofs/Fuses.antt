-- Fuses over two devices that only their counts distinguish, however many calls each passes.
use Rattle.std.proofs.Common.{◌≡◌, ℕ, [], Option, None, Some, option_map, sym, subst, arith}
use Rattle.std.specs.Prelude.{⊤}
use Rattle.std.specs.Option.{IsSomeAnd}
use Rattle.byte_formats.specs.Types.{Text}
use Rattle.disk_core.specs.Same.{SameDevice}
use Rattle.disk_core.specs.contracts.fuse.FuseDisk.TheImpl.{ghosts as fuses_over}
use Rattle.disk_core.specs.contracts.memory.mem_disk.MemDisk.{the_row}
use Rattle.disk_core.specs.contracts.memory.mem_disk.MemDiskDisk.TheImpl.{ghosts as disks, dict}
use Rattle.disk_core.specs.declared.disk.Disk.{Ghosts}
use Rattle.disk_core.specs.declared.fuse.Fuse.{Fuse}
use Rattle.disk_core.specs.declared.memory.mem_disk.MemDisk.{MemDisk}
use Rattle.mtc_io.specs.Counts.{last_count}
use Rattle.mtc_room.specs.Room.{IsFoundOrNew, OpensBytes}
use Rattle.fuse_room.specs.Fused.{fused}

-- the ghost members of a fuse over a disk in memory
abbrev pub fuses : Ghosts (Fuse MemDisk)
fuses = fuses_over the_row disks dict

pub same_fuse : (a b : MemDisk) (passes others : ℕ) → SameDevice disks a b
    → SameDevice fuses (fused a passes) (fused b others)
same_fuse a b passes others same = record {
  reads = same.reads;
  time = same.time;
  leaves = same.leaves;
  left = same.left;
}

-- a device that was opened of the file system inside is opened of this one as a fuse
pub same_opened : (stored : Option MemDisk) (opened : MemDisk) (fuse : Fuse MemDisk) (passes : ℕ)
    → fuse ≡ fused opened passes → IsSomeAnd stored (λ d. SameDevice disks d opened)
    → IsSomeAnd (option_map (λ d. fused d last_count) stored) (λ d. SameDevice fuses d fuse)
same_opened None opened fuse passes is same = absurd same
same_opened (Some d) opened fuse passes is same =
    subst (λ (f : Fuse MemDisk). SameDevice fuses (fused d last_count) f) (sym is)
    (same_fuse d opened last_count passes same)

pub found_opened : (stored : Option MemDisk) (opened : MemDisk) (fuse : Fuse MemDisk) (passes : ℕ)
    → fuse ≡ fused opened passes → (before file : Option Text)
    → IsFoundOrNew disks ⊤ before file stored opened
    → IsFoundOrNew fuses ⊤ before file (option_map (λ d. fused d last_count) stored) fuse
found_opened stored opened fuse passes is before file found = record {
  made = found.made;
  bytes = subst (λ (f : Fuse MemDisk). ⊤ → OpensBytes file (fuses.contents f)) (sym is)
      found.bytes;
  device = λ all. same_opened stored opened fuse passes is (found.device all);
  only = subst (λ (f : Fuse MemDisk). ⊤ → before ≡ None → (c : Text) → fuses.may_leave f c
      → c ≡ []) (sym is) found.only;
  time = subst (λ (f : Fuse MemDisk). ⊤ → before ≡ None → fuses.clock_at f ≡ 0) (sym is)
      found.time;
  begins = subst (λ (f : Fuse MemDisk). fuses.faults f ≡ 0) (sym is)
      (omega (arith, found.begins));
}
