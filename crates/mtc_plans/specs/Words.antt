-- What the arguments of a command say of its journals and of the files beside them, which its plan
-- has to say too; and of its output.
use Rattle.std.specs.Prelude.{Bool, true, false, List, [], Option, None, Some}
use Rattle.byte_formats.specs.Types.{Text}
use Rattle.mtc_words.specs.Commands.{CommandValue, entries, entries_from, export, init_cosigner}
use Rattle.mtc_words.specs.Commands.{init_log, mirror_entries, mirror_init, mirror_tile, tile}
use Rattle.mtc_words.specs.Commands.{tile_anew}

-- The journal that it makes, if it begins a log, a cosigner or a mirror.
abbrev pub journal_made_by : CommandValue → Option Text
journal_made_by (init_log journal id active limit) = Some journal
journal_made_by (init_cosigner journal id log top low width file) = Some journal
journal_made_by (mirror_init journal id) = Some journal
journal_made_by other = None

-- Of the files beside its journals those that it only reads: all, but that `tile`, `tile-anew` and
-- `mirror-tile` write their own.
abbrev pub only_read_by : CommandValue → List Text → List Text
only_read_by (tile journal) besides = []
only_read_by (tile_anew journal) besides = []
only_read_by (mirror_tile journal) besides = []
only_read_by other besides = besides

-- The log whose tiles it makes whole.
abbrev pub tiles_made_by : CommandValue → Option Text
tiles_made_by (tile_anew journal) = Some journal
tiles_made_by other = None

-- It may write its text while it still reads its journal. The text of any other command is written
-- once all else is done.
abbrev pub streams : CommandValue → Bool
streams (entries journal size) = true
streams (entries_from journal first size) = true
streams (export journal) = true
streams (mirror_entries journal size) = true
streams other = false
