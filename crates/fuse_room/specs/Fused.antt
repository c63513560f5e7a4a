-- What a file system in memory shows whose devices are fuses.
use Rattle.std.specs.Prelude.{◌≡◌, ℕ, false, Option, option_map, if◌then◌else◌}
use Rattle.std.specs.Str.{bytes_eq}
use Rattle.byte_formats.specs.Types.{Text}
use Rattle.disk_core.specs.declared.fuse.Fuse.{Fuse}
use Rattle.disk_core.specs.declared.memory.mem_disk.MemDisk.{MemDisk}
use Rattle.mtc_io.specs.Counts.{last_count, with_count}
use Rattle.mtc_room.specs.Memory.{disk_in, state}
use Rattle.mtc_room.specs.declared.memory.MemRoom.{MemRoom}
use Rattle.fuse_room.specs.declared.room.FuseRoom.{FuseRoom}

-- a fuse over this disk that has failed no call
abbrev pub fused : {D : Type 0} → D → ℕ → Fuse D
fused disk passes = record { disk = disk; passes = passes; blown = false; refused = 0 }

-- the file system inside
abbrev pub inner_room : FuseRoom → MemRoom
inner_room room = room.room

-- the name of the file whose device stops
abbrev pub stopping_name : FuseRoom → Text
stopping_name room = room.name

-- how many calls this device passes each time that it is opened
abbrev pub passes_in : FuseRoom → ℕ
passes_in room = room.passes

-- the count of the calls that fuses failed which were closed
abbrev pub refused_in : FuseRoom → ℕ
refused_in room = room.refused

-- how many calls the device of a name passes each time that it is opened
abbrev pub passes_under : FuseRoom → Text → ℕ
passes_under room name = if bytes_eq name room.name then room.passes else last_count

-- the device of each name, as it is while no call is made
abbrev pub fuse_in : FuseRoom → Text → Option (Fuse MemDisk)
fuse_in room name = option_map (λ disk. fused disk last_count) (disk_in room.room name)

-- the failures of the file system inside and of the fuses that were closed
abbrev pub failures : FuseRoom → ℕ
failures room = with_count (state room.room).faults room.refused

-- the same device stops, and passes as many calls
abbrev pub StopsAlike : FuseRoom → FuseRoom → Type 0
StopsAlike old new =
    (stopping_name new ≡ stopping_name old) × (passes_in new ≡ passes_in old)
