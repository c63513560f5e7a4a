-- Where no party is opened: what a command on one journal has done.
use Rattle.std.proofs.Common.{◌∙◌, [], ◌∷◌, List, Option, None, Some, IfSome, inl, inr}
use Rattle.std.proofs.Common.{refl, subst, sym}
use Rattle.byte_formats.specs.Types.{Text}
use Rattle.disk_core.specs.Times.{OnlyReads}
use Rattle.disk_core.specs.declared.disk.Disk.{Ghosts}
use Rattle.disk_core.proofs.Times.{only_read_on}
use Rattle.journal_core.proofs.FoldSteps.{cause_begin}
use Rattle.mtc_room.specs.declared.room.Room.{Ghosts as Rooms}
use Rattle.mtc_command.specs.Answers.{Ending, no_memory, tiles_name}
use Rattle.mtc_command.specs.Made.{untouched}
use Rattle.mtc_command.specs.Served.{ClosesAll}
use Rattle.mtc_command.specs.Steps.{Outcome, held_in}
use Rattle.mtc_command.specs.Valid.{ServesValidly}
use Rattle.mtc_command.specs.Works.{HasWorkedTiledOn}
use Rattle.mtc_command.proofs.Beside.{ModelsAll, failed_only_read, failed_tiled, failed_valid}
use Rattle.mtc_command.proofs.Beside.{longer_other, only_read_tiled, served_tiled, valid_tiled}
use Rattle.mtc_command.proofs.Made.{OnlyNow, still}
use Rattle.mtc_command.proofs.Served.{beside, stopped}
use Rattle.mtc_command.proofs.Stored.{failed_stored, header_stored, kept_stored, read_both}
use Rattle.mtc_command.proofs.Stored.{stored_tiled}
use Rattle.mtc_command.proofs.Valid.{gives_same, kept_valid, same_valid, served_valid}
use Rattle.mtc_command.proofs.Works.{served}
use Rattle.mtc_tiled.specs.Endings.{journal_open_ending}
use Rattle.mtc_tiled.specs.Openings.{DevicesWereClosed, DevicesWereNotOpened, DevicesWereOpened}
use Rattle.mtc_tiled.specs.Openings.{HeaderWasRefused, JournalWasNotOpened, PartyWasNotOpened}
use Rattle.mtc_tiled.specs.Openings.{TilesWereNotOpened, outcome_over}
use Rattle.mtc_tiled.specs.Parties.{IsTiledParty, RefusesNoParty, TiledParty}
use Rattle.mtc_tiled.proofs.OnlyRead.{only_read_kept, spared_kept}
use Rattle.mtc_tiled.proofs.Refused.{header_says}

-- a device that was only read follows the rules
pub only_read_valid : {D : Type 0} (g : Ghosts D) (Valid : List Text → Type 0)
    (says : Text → Text → Outcome) (old new : D) (held : Option Text) → OnlyReads g old new
    → IfSome held (λ t. ServesValidly g Valid (λ b. says b t) old new)
only_read_valid g Valid says old new None only = tt
only_read_valid g Valid says old new (Some t) only = inl only

module _ {State Fault : Type 0} (party : TiledParty State Fault) {R S D : Type 0}
    (rooms : Rooms R S D) (g : Ghosts D) (name : Text) (says : Text → Text → Outcome)
    (old : R) where
  abbrev files : List Text
  files = name ∷ tiles_name name ∷ []

  abbrev wanted : Outcome
  wanted = outcome_over rooms g name says old

  abbrev Valid : List Text → Type 0
  Valid = IsTiledParty party

  abbrev NotOpened : R → Ending → Type 0
  NotOpened new ending = PartyWasNotOpened rooms g name party says old new ending

  -- the devices of both files were only read, and the work on them gives this
  pub both_read : (both new : R) (disk disk' tiles tiles' : D)
      (opened : DevicesWereOpened rooms g name old both disk tiles)
      → DevicesWereClosed rooms g name both new disk' tiles' → ModelsAll rooms g
      → (ending : Ending) → OnlyReads g disk disk' → OnlyReads g tiles tiles'
      → HasWorkedTiledOn g name says opened.header.opened_disk disk' tiles tiles' ending
      → NotOpened new ending
  both_read both new disk disk' tiles tiles' opened closed all ending read read_tiles worked =
      let header = opened.header in
      let first = header.opened_disk in
      let only = only_read_on g first disk disk' header.only_reads read in
      record {
        serves = served_tiled rooms g name files says old opened.mid both closed.mid new first disk'
            tiles tiles' ending header.opened opened.beside closed.beside closed.journal worked
            (inl refl) (inr (inl refl));
        valid = valid_tiled rooms g name files says old opened.mid both closed.mid new first disk'
            tiles tiles' no_memory header.opened opened.beside closed.beside closed.journal Valid
            (only_read_valid g Valid says first disk' (g.contents tiles) only);
        only_read = only_read_tiled rooms g name old opened.mid both closed.mid new first disk'
            tiles tiles' header.opened opened.beside closed.beside closed.journal all read_tiles;
        stores = stored_tiled party.goes Valid rooms g name says old opened.mid both closed.mid new
            first disk' tiles tiles' header.opened opened.beside closed.beside closed.journal all
            (read_both party.goes Valid g says first disk' tiles tiles' only read_tiles);
        spares = λ t not. absurd (opened.is_journal t not);
      }

  -- the file system failed at the tiles
  tiles_failed : (new : R) (ending : Ending) → TilesWereNotOpened rooms g name old new ending
      → OnlyNow g → NotOpened new ending
  tiles_failed new ending is only_now =
      let header = is.header in
      let first = header.opened_disk in
      subst (λ (e : Ending). NotOpened new e) (sym is.ends) (record {
        serves = failed_tiled rooms g name old is.mid is.both new first is.disk header.opened
            is.failed is.closed header.only_reads files wanted (inr (inl refl));
        valid = failed_valid rooms g name old is.mid is.both new first is.disk header.opened
            is.failed is.closed header.only_reads Valid wanted;
        only_read = failed_only_read rooms g name old is.mid is.both new first is.disk header.opened
            is.failed is.closed header.only_reads only_now;
        stores = failed_stored party.goes Valid rooms g name old is.mid is.both new first is.disk
            header.opened is.failed is.closed header.only_reads wanted only_now;
        spares = λ t not. absurd (is.is_journal t not);
      })

  -- the file has no header of a journal, or reading that failed
  header_refused : RefusesNoParty party name says → (new : R) (ending : Ending)
      → HeaderWasRefused rooms g name old new ending → OnlyNow g → NotOpened new ending
  header_refused refuses new ending is only_now =
      let held = held_in (rooms.file old (tiles_name name)) in
      let tiles = is.closed.others (tiles_name name)
      (λ same. longer_other rooms.leads_to name (sym same)) in
      subst (λ (e : Ending). NotOpened new e) (sym is.ends) (record {
        serves = beside rooms g ⊥ files (name ∷ []) (tiles_name name ∷ []) wanted old new
            (journal_open_ending name is.why)
            (served rooms g name files (λ b. says b held) old is.mid new is.opened_disk is.disk
            (journal_open_ending name is.why) is.opened
            (header_says party name says refuses g is.opened_disk is.disk held is.only_reads is.why
            (cause_begin g party.fold is.opened_disk is.disk is.why is.reason is.kind)) is.closed
            (inl refl));
        valid = served_valid rooms g Valid name (λ b. says b held) old is.mid new is.opened_disk
            is.disk is.opened (inl is.only_reads) is.closed;
        only_read = λ is_modelled. still g (rooms.device old (tiles_name name))
            (rooms.device new (tiles_name name)) untouched only_now
            (tiles.disk ∙ (is.opened.stay (tiles_name name)).disk);
        stores = header_stored party.goes Valid rooms g name wanted old is.mid new is.opened_disk
            is.disk is.opened is.closed is.only_reads only_now;
        spares = λ t not. record {
          bytes = tiles.bytes ∙ (is.opened.stay (tiles_name name)).bytes;
          disk = tiles.disk ∙ (is.opened.stay (tiles_name name)).disk;
        };
      })

  -- nothing else than this is left where all was closed
  kept_so : (new : R) (ending : Ending) → ClosesAll rooms old new [] → OnlyNow g
      → JournalWasNotOpened rooms g name old new ending → NotOpened new ending
  kept_so new ending closes only_now is =
      let held = held_in (rooms.file old (tiles_name name)) in
      record {
        serves = beside rooms g ⊥ files (name ∷ []) (tiles_name name ∷ []) wanted old new ending
            (is.serves files (λ bytes. says bytes held) (inl refl));
        valid = kept_valid rooms g Valid (name ∷ []) wanted old new closes only_now;
        only_read = only_read_kept rooms g (tiles_name name) old new closes only_now;
        stores = kept_stored party.goes Valid rooms g (name ∷ []) (tiles_name name ∷ []) wanted old
            new closes only_now;
        spares = spared_kept rooms name old new closes;
      }

  -- the devices weren't opened
  pub party_not_opened : RefusesNoParty party name says → OnlyNow g → (new : R) (ending : Ending)
      → DevicesWereNotOpened rooms g name old new ending → NotOpened new ending
  party_not_opened refuses only_now new ending is = elim is [
    | inl journal ↦ kept_so new ending journal.closes only_now journal
    | inr (inl header) ↦ header_refused refuses new ending header only_now
    | inr (inr tiles) ↦ tiles_failed new ending tiles only_now
  ]

  -- memory was refused before anything was opened
  pub none_opened : OnlyNow g → NotOpened old no_memory
  none_opened only_now = record {
    serves = stopped rooms g files (name ∷ []) (tiles_name name ∷ []) wanted old old
        (gives_same rooms old) only_now no_memory tt tt;
    valid = same_valid rooms g Valid (name ∷ []) wanted old only_now;
    only_read = only_read_kept rooms g (tiles_name name) old old (gives_same rooms old) only_now;
    stores = kept_stored party.goes Valid rooms g (name ∷ []) (tiles_name name ∷ []) wanted old old
        (gives_same rooms old) only_now;
    spares = spared_kept rooms name old old (gives_same rooms old);
  }
