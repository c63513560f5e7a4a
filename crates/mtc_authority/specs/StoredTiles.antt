-- The tiles that go with the records of a log, and what the work on a log leaves of both.
use Rattle.std.specs.Prelude.{◌≡◌, ◌≢◌, List, map, drop, Option, IfSome, Ok}
use Rattle.byte_formats.specs.Types.{HashFunction, Text}
use Rattle.disk_core.specs.declared.disk.Disk.{Ghosts}
use Rattle.file_events.specs.Tiles.{AllGo}
use Rattle.file_events.specs.Worlds.{states_at}
use Rattle.journal_core.specs.Format.{Represents}
use Rattle.tile_store.specs.Contents.{HoldsTiles}
use Rattle.tile_store.specs.Layout.{tiles_end}
use Rattle.tree_core.specs.Tree.{leaf_hash}
use Rattle.tree_core.specs.declared.hashing.TreeHash.{Ghosts as Hashes}
use Rattle.issuance_log.specs.Folds.{LogState, log_of}
use Rattle.issuance_log.specs.Openings.{FoundLog}
use Rattle.issuance_log.specs.Shown.{shown_with}
use Rattle.issuance_log.specs.Words.{both_records, log_disk, log_tiles_disk, view_of}
use Rattle.issuance_log.specs.declared.log.Log.{Log}
use Rattle.mtc_room.specs.declared.room.Room.{Ghosts as Rooms}
use Rattle.mtc_command.specs.Answers.{Ending, IfReply, replied, said, status_of, tiles_name}
use Rattle.mtc_command.specs.Made.{IsOpen}
use Rattle.mtc_command.specs.Served.{OnlyReadsBeside}
use Rattle.mtc_command.specs.Steps.{Outcome, held_in}
use Rattle.mtc_command.specs.Stored.{HasStoredBoth}
use Rattle.mtc_command.specs.Works.{journaled_by}
use Rattle.mtc_command.specs.declared.answer.Said.TheVariants.{Done}
use Rattle.mtc_authority.specs.TileOutcome.{tile_says}
use Rattle.mtc_authority.specs.Works.{IsLog, found_log}
use Rattle.mtc_authority.specs.declared.work.Work.{Work}
use Rattle.mtc_authority.specs.declared.work.Work.TheVariants.{Tile}

-- The bytes have each tile of the last size of the log that these records make.
abbrev pub HasTilesOf : HashFunction → List Text → Text → Type 0
HasTilesOf h list bytes = (s : LogState) → log_of h list ≡ Ok s
    → HoldsTiles h (map (leaf_hash h) s.entries) s.tiled bytes

-- The bytes of this file of tiles after those of the log's last size.
abbrev pub after_tiles : LogState → Option Text → Text
after_tiles s file = drop (tiles_end s.tiled) (held_in file)

-- What the command that makes the tiles of this journal whole leaves of their file, where the model
-- knows the files, by how it ended.
pub record MakesTilesWhole {R S D : Type 0} (h : HashFunction) (rooms : Rooms R S D) (g : Ghosts D)
    (old new : R) (journal : Text) (ending : Ending) : Type 0 where
  -- If it did its work, the file has the tiles of the log's last size, whatever a crash leaves of
  -- both files.
  pub whole : rooms.is_modelled old → (text : Text) → ending ≡ replied (said Done text)
      → (c : Text) (list : List Text) → states_at g (rooms.device new journal) c → Represents c list
      → AllGo (HasTilesOf h) list (states_at g (rooms.device new (tiles_name journal)))
  -- And its bytes after these are what they were. A file that wasn't there is like an empty one.
  pub after : rooms.is_modelled old → (text : Text) → ending ≡ replied (said Done text)
      → (c : Text) (list : List Text) → states_at g (rooms.device new journal) c → Represents c list
      → (s : LogState) → log_of h list ≡ Ok s
      → after_tiles s (rooms.file new (tiles_name journal))
      ≡ after_tiles s (rooms.file old (tiles_name journal))
  -- If it replied anything else, nothing new is left of the file, which may be created empty.
  pub nothing : IfReply ending (λ reply. status_of reply ≢ 0
      → OnlyReadsBeside rooms g old new (tiles_name journal))

module _ {H D : Type 0} {hashes : Hashes H} {g : Ghosts D} where
  -- The work on a log that was opened, which has to give that outcome, only read both devices; or a
  -- crash leaves the tiles that go with the records of the journal.
  abbrev pub StoresLog : (FoundLog → Outcome) → Log H D D hashes g g → Log H D D hashes g g
      → Type 0
  StoresLog says old new = IfSome (both_records old) (λ list. IsOpen g (log_disk old) list
      → log_of hashes.hash list ≡ Ok (shown_with (view_of old) list)
      → HasStoredBoth (HasTilesOf hashes.hash) (IsLog hashes.hash) g
      (journaled_by (says (found_log (shown_with (view_of old) list) list)))
      (log_disk old) (log_disk new) (log_tiles_disk old) (log_tiles_disk new))

  -- So does the work that stores tiles.
  abbrev pub StoresTiles : Work → Log H D D hashes g g → Log H D D hashes g g → Type 0
  StoresTiles work old new = work ≡ Tile → StoresLog tile_says old new
