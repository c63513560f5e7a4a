use Rattle.disk_core.specs.contracts.memory.mem_disk.MemDiskDisk.TheImpl.{ghosts as disks}
use Rattle.file_events.specs.Worlds.{clock_of, states_at, states_since}
use Rattle.mtc_room.specs.Memory.{disk_in}
use Rattle.mtc_room.specs.contracts.memory.MemRoomRoom.TheImpl.{ghosts as rooms}
use Rattle.mtc_top.proofs.Placed.{one_left, stopped}
use Rattle.mtc_top.proofs.stopping.stop_leaving.Goals as goal

pub returns-clause-stops : goal.returns-clause-stops
returns-clause-stops g c =
    let old = c.args.room.now in
    let new = c.place.new.self in
    let name = c.args.name.now in
    stopped g.H.TreeHash.hash rooms disks g.O.Sink g.E.Sink
    (λ n. states_at disks (disk_in old n)) old new name c.args.left (λ t. t)
    (one_left (disk_in new name) c.args.left c.args.failing.items c.in_ok-place.ensures.placed)
    c.in_ok-place.ensures.others

pub returns-clause-cuts : goal.returns-clause-cuts
returns-clause-cuts g c = λ begun.
    let old = c.args.room.now in
    let new = c.place.new.self in
    let name = c.args.name.now in
    stopped g.H.TreeHash.hash rooms disks g.O.Sink g.E.Sink
    (λ n. states_since disks (disk_in old n) (clock_of disks (disk_in begun n))) old new name
    c.args.left (λ t. t)
    (one_left (disk_in new name) c.args.left c.args.failing.items c.in_ok-place.ensures.placed)
    c.in_ok-place.ensures.others
