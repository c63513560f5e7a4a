-- Where a log isn't opened over the devices of its journal and of its tiles: what the command has
-- done.
use Rattle.byte_formats.specs.Types.{HashFunction, Text}
use Rattle.disk_core.specs.declared.disk.Disk.{Ghosts}
use Rattle.issuance_log.specs.Opened.{LogIsNotOpened}
use Rattle.issuance_log.specs.declared.error.LogOpenError.{LogOpenError}
use Rattle.mtc_room.specs.declared.room.Room.{Ghosts as Rooms}
use Rattle.mtc_command.proofs.Beside.{ModelsAll}
use Rattle.mtc_tiled.proofs.NotOpened.{both_read}
use Rattle.mtc_tiled.specs.Openings.{DevicesWereClosed, DevicesWereOpened}
use Rattle.mtc_authority.specs.OpenLogs.{LogWasNotOpened, log_party}
use Rattle.mtc_authority.specs.Works.{log_bytes_say, log_open_ending}
use Rattle.mtc_authority.specs.declared.work.Work.{Work}
use Rattle.mtc_authority.proofs.Opened.{bad_for, refused_says, work_refuses}

-- the log was refused over both devices
pub log_refused : {R S D : Type 0} (rooms : Rooms R S D) (g : Ghosts D) (name : Text)
    (h : HashFunction) (work : Work) (old both new : R) (disk disk' tiles tiles' : D)
    (opened : DevicesWereOpened rooms g name old both disk tiles)
    → DevicesWereClosed rooms g name both new disk' tiles' → ModelsAll rooms g
    → (why : LogOpenError) → LogIsNotOpened g g h disk disk' tiles tiles' why
    → LogWasNotOpened rooms g name h (log_bytes_say h name work) old new (log_open_ending name why)
log_refused rooms g name h work old both new disk disk' tiles tiles' opened closed all why is =
    let header = opened.header in
    both_read (log_party h) rooms g name (log_bytes_say h name work) old both new disk disk' tiles
    tiles' opened closed all (log_open_ending name why) is.only_reads is.only_reads_tiles
    (refused_says h name (log_bytes_say h name work) (work_refuses h name work) g
    header.opened_disk disk disk' tiles tiles' header.only_reads header.fine is.only_reads why
    (bad_for h name work g header.opened_disk disk disk' tiles tiles' header.only_reads header.fine
    is.only_reads why is.cause) is.cause)
