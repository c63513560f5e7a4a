use Rattle.mtc_room.specs.Memory.{bytes_in, disk_in}
use Rattle.fuse_room.specs.Fused.{inner_room}
use Rattle.fuse_room.proofs.Fuses.{found_opened}
use Rattle.fuse_room.proofs.room.FuseRoomRoom.scratch.Goals as goal

pub returns-clause-opened : goal.returns-clause-opened
returns-clause-opened c = found_opened (disk_in c.scratch.new.self c.args.name.now)
    c.in_ok-disk.disk c.with_fuse.result _ c.with_fuse.ensures
    (bytes_in (inner_room c.args.self.now) c.args.name.now)
    (bytes_in c.scratch.new.self c.args.name.now) c.in_ok-disk.ensures.opened
