-- A log that a command has opened over the devices of its journal and of the file of its tiles, or
-- what the command has done where it isn't open.
use Rattle.byte_formats.specs.Types.{HashFunction, Text}
use Rattle.std.proofs.Common.{refl}
use Rattle.disk_core.specs.declared.disk.Disk.{Ghosts}
use Rattle.issuance_log.specs.Folds.{LogState, log_fold}
use Rattle.issuance_log.specs.Opened.{LogIsOpened}
use Rattle.issuance_log.specs.Reasons.{log_open_text}
use Rattle.issuance_log.specs.declared.error.LogOpenError.{LogOpenError}
use Rattle.issuance_log.specs.declared.log.Log.{Log}
use Rattle.mtc_room.specs.declared.room.Room.{Ghosts as Rooms}
use Rattle.mtc_command.specs.Answers.{Ending}
use Rattle.mtc_command.specs.Steps.{Outcome}
use Rattle.mtc_tiled.specs.Openings.{DevicesWereOpened, PartyWasNotOpened}
use Rattle.mtc_tiled.specs.Parties.{RefusesNoParty, TiledParty}
use Rattle.mtc_authority.specs.StoredTiles.{HasTilesOf}
use Rattle.tree_core.specs.declared.hashing.TreeHash.{Ghosts as Hashes}

-- Logs, as a kind of parties with a file of tiles beside their journal.
abbrev pub log_party : HashFunction → TiledParty LogState LogOpenError
log_party h = record {
  fold = log_fold h;
  fault_text = log_open_text;
  goes = HasTilesOf h;
  journal_words = λ why. refl;
}

-- A command that has this outcome over the bytes of both files refuses a journal that isn't read as
-- a log, by its first fault.
abbrev pub RefusesNoLog : HashFunction → Text → (Text → Text → Outcome) → Type 0
RefusesNoLog h name says = RefusesNoParty (log_party h) name says

module _ {R S D : Type 0} (rooms : Rooms R S D) (g : Ghosts D) (name : Text) where
  -- Nothing is open: the command that has this outcome ends so.
  abbrev pub LogWasNotOpened : HashFunction → (Text → Text → Outcome) → R → R → Ending → Type 0
  LogWasNotOpened h says old new ending =
      PartyWasNotOpened rooms g name (log_party h) says old new ending

  -- The log was opened over both devices.
  pub record LogWasOpened {H : Type 0} {hashes : Hashes H} (old new : R)
      (log : Log H D D hashes g g) : Type 0 where
    pub disk : D
    pub tiles : D
    pub devices : DevicesWereOpened rooms g name old new disk tiles
    pub is : LogIsOpened disk tiles log
