-- From a log that was opened, worked on and closed to what the command has done.
use Rattle.std.proofs.Common.{◌≡◌, [], ◌∷◌, List, None, Some, Ok, Option, IfSome, inl, subst}
use Rattle.std.specs.Prelude.{option_and_then}
use Rattle.byte_formats.specs.Types.{HashFunction, Text}
use Rattle.disk_core.specs.Times.{OnlyReads}
use Rattle.disk_core.specs.declared.disk.Disk.{Ghosts}
use Rattle.issuance_log.specs.Folds.{LogState, log_of}
use Rattle.issuance_log.specs.Openings.{FoundLog}
use Rattle.issuance_log.specs.Shown.{shown_with}
use Rattle.issuance_log.specs.Words.{both_records, log_disk, log_records, log_tiles_disk, view_of}
use Rattle.issuance_log.specs.declared.log.Log.{Log}
use Rattle.mtc_room.specs.declared.room.Room.{Ghosts as Rooms}
use Rattle.mtc_command.specs.Answers.{Ending, tiles_name}
use Rattle.mtc_command.specs.Made.{IsOpen, ReadsAtMost}
use Rattle.mtc_command.specs.Served.{HasServedBeside, OnlyReadsBeside}
use Rattle.mtc_command.specs.Steps.{Outcome}
use Rattle.mtc_command.specs.Stored.{HasStoredBoth, StoresBeside}
use Rattle.mtc_command.specs.Valid.{KeepsValid, WorksValidly}
use Rattle.mtc_command.specs.Works.{HasWorkedTiled, journaled_by}
use Rattle.mtc_command.proofs.Beside.{ModelsAll}
use Rattle.mtc_command.proofs.Made.{OnlyNow, ReadsCrashState}
use Rattle.mtc_command.proofs.Works.{each_some}
use Rattle.mtc_tiled.specs.Headers.{SparesTiles}
use Rattle.mtc_tiled.specs.Openings.{DevicesWereClosed}
use Rattle.mtc_tiled.proofs.Worked.{IsOpenedOver, over_by, worked_only_reads, worked_serves}
use Rattle.mtc_tiled.proofs.Worked.{worked_stores, worked_valid}
use Rattle.mtc_authority.specs.OpenLogs.{LogWasOpened}
use Rattle.mtc_authority.specs.StoredTiles.{HasTilesOf, StoresLog}
use Rattle.mtc_authority.specs.Works.{HasWorkedOnLog, IsLog, StaysLog, found_log, log_bytes_say}
use Rattle.mtc_authority.specs.Works.{log_outcome, log_says}
use Rattle.mtc_authority.specs.declared.work.Work.{Work}
use Rattle.mtc_authority.proofs.Opened.{found_tiles}
use Rattle.tree_core.specs.declared.hashing.TreeHash.{Ghosts as Hashes}

-- The work was done on a log whose records make it.
stored_by : {D : Type 0} (g : Ghosts D) (h : HashFunction) (says : List Text → Outcome)
    (mid new tiles tiles' : D) (contents : Option Text) (list : Option (List Text))
    (state : List Text → LogState) → IfSome list (λ l. log_of h l ≡ Ok (state l))
    → IfSome (option_and_then (λ bytes. list) contents) (λ l. IsOpen g mid l
    → log_of h l ≡ Ok (state l)
    → HasStoredBoth (HasTilesOf h) (IsLog h) g (journaled_by (says l)) mid new tiles tiles')
    → IfSome (option_and_then (λ bytes. list) contents) (λ l. IsOpen g mid l
    → HasStoredBoth (HasTilesOf h) (IsLog h) g (journaled_by (says l)) mid new tiles tiles')
stored_by g h says mid new tiles tiles' None list state made stores = tt
stored_by g h says mid new tiles tiles' (Some bytes) None state made stores = tt
stored_by g h says mid new tiles tiles' (Some bytes) (Some l) state made stores =
    λ opened. stores opened made

module _ {R S D H : Type 0} {hashes : Hashes H} (rooms : Rooms R S D) (g : Ghosts D) (name : Text)
    (old both new : R) (log later : Log H D D hashes g g)
    (opened : LogWasOpened rooms g name old both log)
    (closed : DevicesWereClosed rooms g name both new (log_disk later) (log_tiles_disk later))
    (work : Work) where
  abbrev h : HashFunction
  h = hashes.hash

  abbrev wanted : Outcome
  wanted = log_outcome h name (rooms.file old name) (rooms.file old (tiles_name name)) work

  abbrev its : Text → Text → Outcome
  its = log_bytes_say h name work

  abbrev next : List Text → Outcome
  next list = log_says h work (found_log (shown_with (view_of log) list) list)

  over : IsOpenedOver g its next opened.disk (log_disk log) opened.tiles (log_tiles_disk log)
  over =
      let is = opened.is in
      over_by g its next opened.disk (log_disk log) opened.tiles (log_tiles_disk log)
      (log_records log) is.list is.only_reads is.only_reads_tiles is.fine is.fine_tiles
      (found_tiles h name work (g.contents opened.disk) (g.contents opened.tiles) (log_records log)
      (shown_with (view_of log)) is.found is.tiles) is.stands is.all

  -- how it ended, and what it left
  pub log_serves : ReadsCrashState g → (ending : Ending)
      → HasWorkedOnLog name (log_says h work) log later ending
      → HasServedBeside rooms g (name ∷ tiles_name name ∷ []) name (tiles_name name) wanted old new
      ending
  unfolding log_outcome
  log_serves crash_state ending works =
      worked_serves rooms g name its next old both new opened.disk (log_disk log) (log_disk later)
      opened.tiles (log_tiles_disk log) (log_tiles_disk later) opened.devices over closed
      crash_state ending
      (subst (λ (o : Option (List Text)). HasWorkedTiled g name
      (option_and_then (λ bytes. o) (g.contents (log_tiles_disk log))) next (log_disk log)
      (log_disk later) (log_tiles_disk log) (log_tiles_disk later) ending) opened.is.list works)

  pub log_keeps_valid : StaysLog h (log_says h work) log later
      → KeepsValid rooms g (IsLog h) (name ∷ []) wanted old new
  unfolding log_outcome
  log_keeps_valid valid =
      worked_valid rooms g name its next old both new opened.disk (log_disk log) (log_disk later)
      opened.tiles (log_tiles_disk log) (log_tiles_disk later) opened.devices over closed (IsLog h)
      (subst (λ (o : Option (List Text)). WorksValidly g (IsLog h) o next (log_disk log)
      (log_disk later)) opened.is.list valid)

  pub log_only_reads : OnlyNow g → ModelsAll rooms g
      → ReadsAtMost g (log_tiles_disk log) (log_tiles_disk later)
      → OnlyReadsBeside rooms g old new (tiles_name name)
  log_only_reads only_now all only =
      worked_only_reads rooms g name its next old both new opened.disk (log_disk log)
      (log_disk later) opened.tiles (log_tiles_disk log) (log_tiles_disk later) opened.devices over
      closed only_now all only

  pub log_stores_both : ModelsAll rooms g → StoresLog (log_says h work) log later
      → StoresBeside (HasTilesOf h) (IsLog h) rooms g old new (name ∷ []) (tiles_name name ∷ [])
      wanted
  unfolding log_outcome
  log_stores_both all stores =
      let is = opened.is in
      worked_stores rooms g name its next old both new opened.disk (log_disk log) (log_disk later)
      opened.tiles (log_tiles_disk log) (log_tiles_disk later) opened.devices over closed
      (HasTilesOf h) (IsLog h) all
      (subst (λ (o : Option (List Text)).
      IfSome (option_and_then (λ bytes. o) (g.contents (log_tiles_disk log)))
      (λ l. IsOpen g (log_disk log) l
      → HasStoredBoth (HasTilesOf h) (IsLog h) g (journaled_by (next l)) (log_disk log)
      (log_disk later) (log_tiles_disk log) (log_tiles_disk later))) is.list
      (stored_by g h next (log_disk log) (log_disk later) (log_tiles_disk log)
      (log_tiles_disk later) (g.contents (log_tiles_disk log)) (log_records log)
      (shown_with (view_of log)) is.valid stores))

  -- the file of the journal was one
  pub log_spares : SparesTiles rooms old new name
  log_spares = λ t not. absurd (opened.devices.is_journal t not)

module _ {H D : Type 0} {hashes : Hashes H} {g : Ghosts D} where
  -- both devices were only read
  pub read_stores : (log later : Log H D D hashes g g) (says : FoundLog → Outcome)
      → OnlyReads g (log_disk log) (log_disk later)
      → OnlyReads g (log_tiles_disk log) (log_tiles_disk later) → StoresLog says log later
  read_stores log later says first second =
      each_some (both_records log) _ (λ list opened made. inl (first, second))
