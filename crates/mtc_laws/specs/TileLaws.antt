-- Tiles survive a stop: whatever a crash leaves of the journal of a log or of a mirror, the file of
-- its tiles has those of the last size.
use Rattle.std.specs.Prelude.{◌≡◌, ℕ, List, [], ◌∷◌, None, Ok}
use Rattle.byte_formats.specs.Types.{Hash, HashFunction, Text}
use Rattle.file_events.specs.Owners.{log_files}
use Rattle.file_events.specs.Tiles.{stored}
use Rattle.file_events.specs.Worlds.{Program, IsFileExecution, own_events, states_of, FileOwner}
use Rattle.file_events.specs.Events.{FirstHolds}
use Rattle.mtc_io.specs.declared.sink.Sink.{Ghosts as Sinks}
use Rattle.mtc_words.specs.Commands.{CommandValue}
use Rattle.mtc_words.specs.Words.{command_of}
use Rattle.mtc_command.specs.Answers.{tiles_name}
use Rattle.mtc_command.specs.Endings.{IsNamed}
use Rattle.mtc_authority.specs.StoredTiles.{HasTilesOf}
use Rattle.mtc_mirror.specs.StoredTiles.{HasMirrorTilesOf}
use Rattle.mtc_tiled.specs.BadTiles.{first_bad_tile}
use Rattle.party_history.specs.Rules.{AreRecords, StartsWith}
use Rattle.party_history.specs.declared.start.PartyStart.{PartyStart}
use Rattle.mtc_top.specs.Facts.{facts_of}
use Rattle.mtc_laws.specs.StatusLaws.{IsAboutInput, IsReadTiled, WorksOn}
use Rattle.mtc_top.specs.Executions.{owner, Run, FileEvent}

-- The bytes have each tile of the last size of the log or of the mirror that these records make.
abbrev pub HasPartyTiles : HashFunction → List Text → Text → Type 0
HasPartyTiles h list bytes = HasTilesOf h list bytes × HasMirrorTilesOf h list bytes

module _ (h : HashFunction) (p : Program) where
  -- The journal of this name, with the file of its tiles. No record is added that the tiles don't
  -- go with.
  abbrev pub tiled_journal : Text → FileOwner p
  tiled_journal name = log_files p (HasPartyTiles h) (λ list body. ⊥)
      (AreRecords h) name (tiles_name name) (λ old is_run. stored)

  -- This holds of each execution of both files that begins with a run that made the journal, or
  -- that found its first record alone. Where the machine stops in the middle of a run, the program
  -- is killed there, and then the machine stops.
  abbrev pub OfTiledJournals : (Text → Text → p.R → Type 0) → Type 0
  OfTiledJournals P = (name first : Text) (old new : p.R) (events : List (FileEvent p.R p.O p.E))
      → p.rooms.is_modelled old
      → FirstHolds (first ∷ []) (own_events p (owner h p name) old events)
      → IsFileExecution p (tiled_journal name) old events new
      → P name first new

  -- Whatever a crash leaves of the journal and of the file of the tiles: if the one is read as a
  -- log or as a mirror, the other has all tiles of its last size.
  abbrev pub TilesSurviveStops : Type 0
  TilesSurviveStops = OfTiledJournals (λ name first new. (c t : Text) (leaves : List Hash)
      (tiled : ℕ) → states_of p name new c → states_of p (tiles_name name) new t
      → IsReadTiled h c leaves tiled → first_bad_tile h leaves tiled t ≡ None)

  -- So each run with status 2 that works on the journal alone is about a file that the command
  -- reads: none reports a bad tile.
  abbrev pub NoTileIsBad : Sinks p.E → Type 0
  NoTileIsBad errs = OfTiledJournals (λ name first new. (start : PartyStart)
      (command : CommandValue) (run : Run p.R p.O p.E) → StartsWith start first
      → WorksOn h start first name command → p.HasRun new run → command_of run.words ≡ Ok command
      → run.status ≡ 2 → (is : IsAboutInput h p errs name command new run)
      × IsNamed (facts_of h command).inputs is.file)
