-- What a command on a journal with a file of tiles beside it has done.
use Rattle.std.specs.Prelude.{List, [], ◌∷◌}
use Rattle.byte_formats.specs.Types.{Text}
use Rattle.disk_core.specs.declared.disk.Disk.{Ghosts}
use Rattle.mtc_room.specs.declared.room.Room.{Ghosts as Rooms}
use Rattle.mtc_command.specs.Answers.{Ending, tiles_name}
use Rattle.mtc_command.specs.Served.{HasServedBeside}
use Rattle.mtc_command.specs.Steps.{Outcome}
use Rattle.mtc_command.specs.Stored.{StoresBeside}
use Rattle.mtc_command.specs.Valid.{KeepsValid}
use Rattle.mtc_tiled.specs.Headers.{SparesTiles}

-- A command that names these files, works on the journal of this name and has to give that outcome,
-- where a rule says which bytes of the tiles go with which records and one which records are valid:
-- it left the file system as is wanted and ended so; a record that it added is valid; what is left
-- of the tiles goes with the records that are left; and beside a file that is no journal no tiles
-- are made.
pub record HasServedTiled {R S D : Type 0} (rooms : Rooms R S D) (g : Ghosts D) (name : Text)
    (goes : List Text → Text → Type 0) (Valid : List Text → Type 0) (files : List Text)
    (wanted : Outcome) (old new : R) (ending : Ending) : Type 0 where
  pub serves : HasServedBeside rooms g files name (tiles_name name) wanted old new ending
  pub valid : KeepsValid rooms g Valid (name ∷ []) wanted old new
  pub stores : StoresBeside goes Valid rooms g old new (name ∷ []) (tiles_name name ∷ []) wanted
  pub spares : SparesTiles rooms old new name
