-- Programs that are killed, as runs over files of which a device stops.
use Rattle.std.specs.Prelude.{◌≡◌, false}
use Rattle.byte_formats.specs.Types.{HashFunction, Text}
use Rattle.disk_core.specs.declared.disk.Disk.{Ghosts as Disks}
use Rattle.disk_core.specs.declared.fuse.Fuse.{Fuse}
use Rattle.disk_core.specs.declared.memory.mem_disk.MemDisk.{MemDisk}
use Rattle.mtc_io.specs.declared.memory.source.MemSource.{MemSource}
use Rattle.mtc_io.specs.declared.sink.Sink.{Ghosts as Sinks}
use Rattle.mtc_room.specs.declared.memory.MemRoom.{MemRoom}
use Rattle.mtc_room.specs.declared.room.Room.{Ghosts as Rooms}
use Rattle.fuse_room.specs.Fused.{inner_room}
use Rattle.fuse_room.specs.declared.room.FuseRoom.{FuseRoom}
use Rattle.file_events.specs.Owners.{RunsMayBreak}
use Rattle.file_events.specs.Worlds.{FileOwner, IsFileEvent, Program, died}
use Rattle.mtc_words.specs.Names.{is_tiles_name}
use Rattle.mtc_top.specs.Executions.{Run, owner, program}
use Rattle.mtc_laws.specs.TileLaws.{tiled_journal}

module _ (h : HashFunction) (p : Program) where
  -- Each run leaves of a journal what a run leaves that broke off. The name of a journal isn't that
  -- of a file of tiles.
  abbrev pub JournalsMayBreak : Type 0
  JournalsMayBreak = (name : Text) → is_tiles_name name ≡ false → RunsMayBreak p (owner h p name)

  -- the same of a journal with the file of its tiles
  abbrev pub TiledJournalsMayBreak : Type 0
  TiledJournalsMayBreak = (name : Text) → is_tiles_name name ≡ false
      → RunsMayBreak p (tiled_journal h p name)

module _ {O E : Type 0} (h : HashFunction) (fused_rooms : Rooms FuseRoom MemSource (Fuse MemDisk))
    (fuses : Disks (Fuse MemDisk)) (rooms : Rooms MemRoom MemSource MemDisk) (disks : Disks MemDisk)
    (outs : Sinks O) (errs : Sinks E) (o : FileOwner (program h rooms disks outs errs)) where
  -- A run over fuses is a kill, with the same words, of a program over the files inside.
  abbrev pub DiesOverFuses : Type 0
  DiesOverFuses = (old : FuseRoom) (run : Run FuseRoom O E) (killed : Run MemRoom O E)
      → (program h fused_rooms fuses outs errs).HasRun old run → killed.words ≡ run.words
      → IsFileEvent (program h rooms disks outs errs) o (inner_room old)
      (died killed (inner_room run.room))
