-- Status 2 after an execution: it is never about the journal.
use Rattle.std.specs.Prelude.{◌≡◌, ◌⊎◌, ℕ, List, [], ◌∷◌, map, Some, Ok}
use Rattle.byte_formats.specs.Types.{Hash, HashFunction, Text}
use Rattle.file_events.specs.Worlds.{Program}
use Rattle.mtc_io.specs.declared.sink.Sink.{Ghosts as Sinks}
use Rattle.mtc_words.specs.Commands.{CommandValue}
use Rattle.mtc_words.specs.Words.{command_of, known_word}
use Rattle.tree_core.specs.Tree.{leaf_hash}
use Rattle.issuance_log.specs.Openings.{FoundLog, log_read}
use Rattle.mirror_core.specs.Folds.{entries_in_mirror}
use Rattle.mirror_core.specs.Openings.{FoundMirror, mirror_read}
use Rattle.mtc_command.specs.Answers.{bad_tile_text, refused, tiles_name}
use Rattle.mtc_command.specs.Endings.{IsNamed}
use Rattle.mtc_command.specs.Lines.{line_of}
use Rattle.mtc_command.specs.Steps.{Files, held_in}
use Rattle.mtc_command.specs.Wanted.{Meets}
use Rattle.mtc_command.specs.declared.answer.Stopped.TheVariants.{BadForm}
use Rattle.mtc_tiled.specs.BadTiles.{first_bad_tile}
use Rattle.party_history.specs.declared.start.PartyStart.{PartyStart}
use Rattle.mtc_top.specs.Concluded.{Reports}
use Rattle.mtc_laws.specs.ExecutionLaws.{AreOfParty, OfExecutions}
use Rattle.mtc_top.specs.Facts.{facts_of}
use Rattle.mtc_top.specs.Executions.{Run}

-- The command works on the journal of this name, and takes it for one of such a party: each list of
-- the party's records, of which this is the first, is one of the kind that it works on.
pub record WorksOn (h : HashFunction) (start : PartyStart) (first name : Text)
    (command : CommandValue) : Type 0 where
  pub works : (facts_of h command).journals ≡ name ∷ []
  pub kind : (list : List Text) → AreOfParty h start first list → (facts_of h command).Valid list

-- The bytes are read as a log or as a mirror, of which these are the hashes of the entries, and
-- this is the last size of the tiles.
abbrev pub IsReadTiled : HashFunction → Text → List Hash → ℕ → Type 0
IsReadTiled h bytes leaves tiled =
    ((found : FoundLog) × ((log_read h bytes ≡ Ok found)
    × (leaves ≡ map (leaf_hash h) found.state.entries) × (tiled ≡ found.state.tiled)))
    ⊎ ((found : FoundMirror) × ((mirror_read h bytes ≡ Ok found)
    × (leaves ≡ map (leaf_hash h) (entries_in_mirror found.state))
    × (tiled ≡ found.state.tiled)))

-- The file is that of the tiles of this journal's log or mirror, and the reason names the first of
-- the tiles of the last size that it doesn't have.
pub record LacksTile (h : HashFunction) (files : Files) (journal file reason : Text) : Type 0 where
  pub bytes : Text
  pub leaves : List Hash
  pub tiled : ℕ
  pub missing : ℕ × ℕ
  pub there : files journal ≡ Some bytes
  pub is_read : IsReadTiled h bytes leaves tiled
  pub lacks : first_bad_tile h leaves tiled (held_in (files (tiles_name journal))) ≡ Some missing
  pub named : file ≡ tiles_name journal
  pub says : reason ≡ bad_tile_text missing.0 missing.1

module _ (h : HashFunction) (p : Program) (errs : Sinks p.E) where
  -- What is asked for is a refusal of an input of the command, or of the file of its journal's
  -- tiles for a tile that it doesn't have; and the line on standard error says so.
  pub record IsAboutInput (name : Text) (command : CommandValue) (room : p.R)
      (run : Run p.R p.O p.E) : Type 0 where
    pub file : Text
    pub reason : Text
    pub input : IsNamed (facts_of h command).inputs file
        ⊎ LacksTile h (p.rooms.file room) name file reason
    pub asked : Meets ((facts_of h command).outcome (p.rooms.file room)).answer
        (refused BadForm (Some file) reason)
    pub line : Reports errs run.err run.err_after
        (line_of (known_word run.words) (Some file) reason)

  -- This holds of each run with status 2 that works on the journal alone after an execution of it.
  -- A command that has no input never ends so, unless the file of its journal's tiles doesn't have
  -- one of them.
  abbrev pub MisreadFilesAreInputs : Type 0
  MisreadFilesAreInputs = OfExecutions h p (λ name start first old events new.
      (command : CommandValue) (run : Run p.R p.O p.E) → WorksOn h start first name command
      → p.HasRun new run → command_of run.words ≡ Ok command
      → run.status ≡ 2 → IsAboutInput name command new run)
