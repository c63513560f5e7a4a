-- What comes of a journal that isn't read, or of tiles that aren't adopted, in a command on it.
use Rattle.std.specs.Prelude.{Some}
use Rattle.byte_formats.specs.Types.{Text}
use Rattle.journal_core.specs.Reasons.{open_fault_text}
use Rattle.journal_core.specs.declared.error.OpenError.{OpenError}
use Rattle.journal_core.specs.declared.error.OpenError.TheVariants as open_error
use Rattle.tile_store.specs.declared.error.TileError.{TileError}
use Rattle.tile_store.specs.declared.error.TileError.TheVariants as tile_error
use Rattle.mtc_command.specs.Answers.{Ending, bad_tile, no_memory, refused, replied, room_failed}
use Rattle.mtc_command.specs.Answers.{tiles_name}
use Rattle.mtc_command.specs.declared.answer.Stopped.TheVariants.{BadForm}

-- The line says that the file isn't a journal, unless its device failed or memory was refused.
abbrev pub journal_open_ending : Text → OpenError → Ending
journal_open_ending file open_error.Failed = room_failed file
journal_open_ending file open_error.Memory = no_memory
journal_open_ending file why = replied (refused BadForm (Some file) (open_fault_text why))

-- The line says which tile of this journal its file doesn't have, unless the device of that failed.
abbrev pub tiles_open_ending : Text → TileError → Ending
tiles_open_ending file tile_error.Failed = room_failed (tiles_name file)
tiles_open_ending file (tile_error.BadTile level place) = replied (bad_tile file level place)
