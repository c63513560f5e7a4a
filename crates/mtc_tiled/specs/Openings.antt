-- The devices of a journal and of the file of its tiles that a command has opened, and both that
-- are closed; or what the command has done where they aren't open.
use Rattle.std.specs.Prelude.{◌≡◌, ◌⊎◌, List, [], ◌∷◌}
use Rattle.byte_formats.specs.Types.{Text}
use Rattle.disk_core.specs.Times.{OnlyReads}
use Rattle.disk_core.specs.declared.disk.Disk.{Ghosts}
use Rattle.journal_core.specs.Opens.{HasReason, IsOfHeader}
use Rattle.journal_core.specs.declared.error.OpenError.{OpenError}
use Rattle.mtc_room.specs.declared.room.Room.{Ghosts as Rooms}
use Rattle.mtc_command.specs.Answers.{Ending, room_failed, tiles_name}
use Rattle.mtc_command.specs.Endings.{IsNamed}
use Rattle.mtc_command.specs.Served.{ClosesAll, HasServed, HasServedBeside, OnlyReadsBeside}
use Rattle.mtc_command.specs.Steps.{Outcome, held_in, with_file}
use Rattle.mtc_command.specs.Stored.{StoresBeside}
use Rattle.mtc_command.specs.Valid.{KeepsValid}
use Rattle.mtc_command.specs.Works.{HasClosed, HasFailedBeside, HasOpened, HasOpenedBeside}
use Rattle.mtc_tiled.specs.Endings.{journal_open_ending}
use Rattle.mtc_tiled.specs.Headers.{HasReadHeader, IsNoJournal, SparesTiles}
use Rattle.mtc_tiled.specs.Parties.{IsTiledParty, TiledParty}

module _ {R S D : Type 0} (rooms : Rooms R S D) (g : Ghosts D) (name : Text) where
  -- ---- the devices

  -- The devices of both files were opened, of which the journal's header was read first.
  pub record DevicesWereOpened (old new : R) (disk tiles : D) : Type 0 where
    pub mid : R
    pub header : HasReadHeader rooms g name old mid disk
    pub is_journal : rooms.is_modelled old → IsNoJournal (rooms.file old name) → ⊥
    pub beside : HasOpenedBeside rooms g (tiles_name name) mid new tiles

  -- They were closed, that of the journal last.
  pub record DevicesWereClosed (old new : R) (disk tiles : D) : Type 0 where
    pub mid : R
    pub beside : HasClosed rooms g (tiles_name name) old mid tiles
    pub journal : HasClosed rooms g name mid new disk

  -- ---- they weren't opened

  -- The journal isn't there, or the file system failed at it: any command on it has ended so.
  pub record JournalWasNotOpened (old new : R) (ending : Ending) : Type 0 where
    pub serves : (files : List Text) (says : Text → Outcome) → IsNamed files name
        → HasServed rooms g files name (with_file name (rooms.file old name) says) old new ending
    pub closes : ClosesAll rooms old new []

  -- The journal's device was opened, its header was refused or not read, and it was closed. The
  -- file of the tiles wasn't asked for.
  pub record HeaderWasRefused (old new : R) (ending : Ending) : Type 0 where
    pub mid : R
    pub opened_disk : D
    pub disk : D
    pub why : OpenError
    pub opened : HasOpened rooms g name old mid opened_disk
    pub only_reads : OnlyReads g opened_disk disk
    pub reason : HasReason g opened_disk disk 0 why
    pub kind : IsOfHeader why
    pub closed : HasClosed rooms g name mid new disk
    pub ends : ending ≡ journal_open_ending name why

  -- The journal's header was read, the file system failed at the file of the tiles, and the
  -- journal's device was closed.
  pub record TilesWereNotOpened (old new : R) (ending : Ending) : Type 0 where
    pub mid : R
    pub both : R
    pub disk : D
    pub header : HasReadHeader rooms g name old mid disk
    pub is_journal : rooms.is_modelled old → IsNoJournal (rooms.file old name) → ⊥
    pub failed : HasFailedBeside rooms (tiles_name name) mid both
    pub closed : HasClosed rooms g name both new disk
    pub ends : ending ≡ room_failed (tiles_name name)

  -- One of the three: nothing is open that wasn't open before.
  abbrev pub DevicesWereNotOpened : R → R → Ending → Type 0
  DevicesWereNotOpened old new ending = JournalWasNotOpened old new ending
      ⊎ (HeaderWasRefused old new ending ⊎ TilesWereNotOpened old new ending)

  -- ---- a command on one journal

  -- Its outcome over the files of their names. The journal may not be there, and where the tiles
  -- aren't, their file is made empty.
  abbrev pub outcome_over : (Text → Text → Outcome) → R → Outcome
  outcome_over says room = with_file name (rooms.file room name)
      (λ bytes. says bytes (held_in (rooms.file room (tiles_name name))))

  -- It has this outcome and opened no party of this kind: it has closed what it opened, and ended
  -- so.
  pub record PartyWasNotOpened {State Fault : Type 0} (party : TiledParty State Fault)
      (says : Text → Text → Outcome) (old new : R) (ending : Ending) : Type 0 where
    pub serves : HasServedBeside rooms g (name ∷ tiles_name name ∷ []) name (tiles_name name)
        (outcome_over says old) old new ending
    pub valid : KeepsValid rooms g (IsTiledParty party) (name ∷ []) (outcome_over says old) old new
    pub only_read : OnlyReadsBeside rooms g old new (tiles_name name)
    pub stores : StoresBeside party.goes (IsTiledParty party) rooms g old new (name ∷ [])
        (tiles_name name ∷ []) (outcome_over says old)
    pub spares : SparesTiles rooms old new name
