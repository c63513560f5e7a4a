-- What a file system of real files may do with the journals and the tile files that it opens.
use Rattle.mtc_files.specs.declared.access.Access.{Access}
use Rattle.mtc_files.specs.declared.file_room.FileRoom.{FileRoom}

-- whether it only reads them, or may write them
abbrev pub room_access : {R : Type 0} → FileRoom R → Access
room_access room = room.access
