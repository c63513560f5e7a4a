-- What contracts see of a file system in memory.
use Rattle.std.specs.Prelude.{◌≡◌, ℕ, List, [], Option, Some, option_map, Result, Ok, Err}
use Rattle.std.specs.Prelude.{OnErr, OnOk}
use Rattle.std.specs.BTreeMap.{get_by_text}
use Rattle.byte_formats.specs.Types.{Text}
use Rattle.disk_core.specs.Memory.{bytes_of, failing_of, made_of}
use Rattle.disk_core.specs.declared.memory.mem_disk.MemDisk.{MemDisk}
use Rattle.mtc_io.specs.Counts.{with_count}
use Rattle.mtc_room.specs.declared.error.RoomError.{RoomError}
use Rattle.mtc_room.specs.declared.error.RoomError.TheVariants.{Absent, Exists, Failed}
use Rattle.mtc_room.specs.declared.memory.MemRoom.{MemRoom}

-- a file in memory: its bytes, and the numbers of the calls that fail
pub record FileState : Type 0 where
  pub bytes : Text
  pub failing : List ℕ

-- a file system in memory: the file of each name, the calls that fail of each file that is yet to
-- be made, the objects that are open, the failures so far, and those that came because memory ran
-- out
pub record RoomState : Type 0 where
  pub file : Text → Option FileState
  pub fresh_failing : List ℕ
  pub opened : ℕ
  pub faults : ℕ
  pub failed_allocations : ℕ

-- a device as a file
abbrev pub file_of : MemDisk → FileState
file_of disk = record { bytes = bytes_of disk; failing = failing_of disk }

-- the device of each name
abbrev pub disk_in : MemRoom → Text → Option MemDisk
disk_in room name = get_by_text room.files name

-- what a file system holds and counts
abbrev pub state : MemRoom → RoomState
state room = record {
  file = λ name. option_map file_of (disk_in room name);
  fresh_failing = room.fresh_failing.items;
  opened = room.opened;
  faults = room.faults;
  failed_allocations = room.failed_allocations;
}

-- the bytes of each name's file
abbrev pub bytes_in : MemRoom → Text → Option Text
bytes_in room name = option_map bytes_of (disk_in room name)

-- a count of failures after a call that opens: the file system in memory fails only if memory runs
-- out, and counts that once
abbrev pub count_after : {T : Type 0} → ℕ → Result T RoomError → ℕ
count_after count (Ok opened) = count
count_after count (Err Absent) = count
count_after count (Err Exists) = count
count_after count (Err Failed) = with_count count 1

-- What a call that opens leaves of the counts of a `MemRoom`, and of the calls that fail of files
-- that are yet to be made.
pub record CountsOpening {T : Type 0} (old new : RoomState) (result : Result T RoomError) : Type 0
  where
    pub fresh_failing : new.fresh_failing ≡ old.fresh_failing
    pub faults : new.faults ≡ count_after old.faults result
    pub failed_allocations : new.failed_allocations ≡ count_after old.failed_allocations result

-- the same of a call that finds a file or makes it
pub record CountsFinding {T E : Type 0} (old new : RoomState) (result : Result T E) : Type 0 where
  pub fresh_failing : new.fresh_failing ≡ old.fresh_failing
  pub failed_allocations : OnOk result (new.failed_allocations ≡ old.failed_allocations)
  pub failed_allocations_err : OnErr result
      (new.failed_allocations ≡ with_count old.failed_allocations 1)

-- a file without bytes whose calls fail as those of new files do
abbrev pub new_file : RoomState → FileState
new_file room = record { bytes = []; failing = room.fresh_failing }

-- The file of this name is a new one, and the device that was opened fails the same calls and has
-- had none.
pub record IsMadeNew (old new : RoomState) (name : Text) (opened : MemDisk) : Type 0 where
  pub made : new.file name ≡ Some (new_file old)
  pub failing : failing_of opened ≡ old.fresh_failing
  pub calls : made_of opened ≡ 0
