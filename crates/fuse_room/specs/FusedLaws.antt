-- What the model knows of one name of a file system whose devices are fuses.
use Rattle.std.specs.Prelude.{◌≡◌, Option, None, Some, option_map}
use Rattle.std.proofs.Common.{refl, ap}
use Rattle.byte_formats.specs.Types.{Text}
use Rattle.disk_core.specs.Memory.{bytes_of}
use Rattle.disk_core.specs.declared.fuse.Fuse.{Fuse}
use Rattle.disk_core.specs.declared.memory.mem_disk.MemDisk.{MemDisk}
use Rattle.mtc_io.specs.Counts.{last_count}
use Rattle.mtc_room.specs.MemoryLaws.{one_name}
use Rattle.mtc_room.specs.Places.{place_of}
use Rattle.mtc_room.specs.Room.{ModelsFile}
use Rattle.fuse_room.specs.Fused.{fuse_in, fused}
use Rattle.fuse_room.specs.declared.room.FuseRoom.{FuseRoom}

pub modelled_fuse : (disk : Option MemDisk) → ModelsFile {D = Fuse MemDisk}
    (λ f. Some (bytes_of f.disk)) (option_map bytes_of disk)
    (option_map (λ d. fused d last_count) disk)
modelled_fuse None = refl
modelled_fuse (Some d) = (refl, refl)

-- names of one place are one
pub one_fuse : (room : FuseRoom) (one other : Text)
    → place_of (λ path. path) one ≡ place_of (λ path. path) other
    → fuse_in room one ≡ fuse_in room other
one_fuse room one other same = ap (fuse_in room) (one_name one other same)
