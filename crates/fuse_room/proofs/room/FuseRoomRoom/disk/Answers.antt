use Rattle.mtc_room.specs.Memory.{disk_in}
use Rattle.fuse_room.specs.Fused.{inner_room}
use Rattle.fuse_room.proofs.Fuses.{same_opened}
use Rattle.fuse_room.proofs.room.FuseRoomRoom.disk.Goals as goal

pub returns-clause-device : goal.returns-clause-device
returns-clause-device c = λ all. same_opened
    (disk_in (inner_room c.args.self.now) c.args.name.now) c.in_ok-disk.disk c.with_fuse.result _
    c.with_fuse.ensures (c.in_ok-disk.ensures.device all)
