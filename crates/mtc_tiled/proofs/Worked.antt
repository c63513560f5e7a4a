-- From a party that was opened over both devices, worked on and closed to what the command has
-- done.
use Rattle.std.proofs.Common.{◌≡◌, ◌∙◌, [], ◌∷◌, List, Option, IfSome, inl, inr, option_map}
use Rattle.std.proofs.Common.{refl, subst}
use Rattle.std.proofs.lemmas.Option.{IfSome_then}
use Rattle.std.specs.Prelude.{option_and_then}
use Rattle.byte_formats.specs.Types.{Text}
use Rattle.disk_core.specs.Times.{OnlyReads}
use Rattle.disk_core.specs.declared.disk.Disk.{Ghosts}
use Rattle.disk_core.proofs.Times.{only_read_on}
use Rattle.journal_core.specs.Format.{Represents, records_of}
use Rattle.journal_core.specs.Words.{AllRepresent}
use Rattle.mtc_room.specs.declared.room.Room.{Ghosts as Rooms}
use Rattle.mtc_command.specs.Answers.{Ending, no_memory, tiles_name}
use Rattle.mtc_command.specs.Made.{IsOpen, ReadsAtMost}
use Rattle.mtc_command.specs.Served.{HasServedBeside, OnlyReadsBeside}
use Rattle.mtc_command.specs.Steps.{Outcome}
use Rattle.mtc_command.specs.Stored.{HasStoredBoth, StoresBeside}
use Rattle.mtc_command.specs.Valid.{KeepsValid, WorksValidly}
use Rattle.mtc_command.specs.Works.{HasWorkedTiled, HasWorkedTiledOn, journaled_by}
use Rattle.mtc_command.proofs.Beside.{ModelsAll, only_read_tiled, only_reads_of, served_tiled}
use Rattle.mtc_command.proofs.Beside.{valid_tiled}
use Rattle.mtc_command.proofs.Made.{OnlyNow, ReadsCrashState}
use Rattle.mtc_command.proofs.Stored.{stored_on, stored_tiled}
use Rattle.mtc_command.proofs.Tiled.{tiled_on, valid_tiled_on}
use Rattle.mtc_tiled.specs.Headers.{SparesTiles}
use Rattle.mtc_tiled.specs.Openings.{DevicesWereClosed, DevicesWereOpened, outcome_over}

-- the records that the model knows of a device
abbrev pub records_on : {D : Type 0} → Ghosts D → D → Option (List Text)
records_on g disk = option_map records_of (g.contents disk)

-- A party was opened over both devices, which were only read, without a failure. The device of its
-- journal and each crash state of it represent the records that were found, and the outcome of the
-- bytes of both is what comes next by these.
pub record IsOpenedOver {D : Type 0} (g : Ghosts D) (says : Text → Text → Outcome)
    (next : List Text → Outcome) (disk disk' tiles tiles' : D) : Type 0 where
  pub only_reads : OnlyReads g disk disk'
  pub only_reads_tiles : OnlyReads g tiles tiles'
  pub fine : g.faults disk' ≡ g.faults disk
  pub fine_tiles : g.faults tiles' ≡ g.faults tiles
  pub contents : IfSome (g.contents tiles) (λ held. IfSome (g.contents disk) (λ b.
      IfSome (records_on g disk') (λ list. says b held ≡ next list)))
  pub stands : IfSome (g.contents disk') (λ b. IfSome (records_on g disk') (Represents b))
  pub all : IfSome (records_on g disk') (AllRepresent g disk')

-- The party reports these records, which the model knows.
pub over_by : {D : Type 0} (g : Ghosts D) (says : Text → Text → Outcome)
    (next : List Text → Outcome) (disk disk' tiles tiles' : D) (list : Option (List Text))
    → list ≡ records_on g disk' → OnlyReads g disk disk' → OnlyReads g tiles tiles'
    → g.faults disk' ≡ g.faults disk → g.faults tiles' ≡ g.faults tiles
    → IfSome (g.contents tiles) (λ held. IfSome (g.contents disk) (λ b.
    IfSome list (λ l. says b held ≡ next l)))
    → IfSome (g.contents disk') (λ b. IfSome list (Represents b))
    → IfSome list (AllRepresent g disk') → IsOpenedOver g says next disk disk' tiles tiles'
over_by g says next disk disk' tiles tiles' list is first second fine fine_tiles found stands all =
    record {
      only_reads = first;
      only_reads_tiles = second;
      fine = fine;
      fine_tiles = fine_tiles;
      contents = subst (λ (o : Option (List Text)). IfSome (g.contents tiles) (λ held.
          IfSome (g.contents disk) (λ b. IfSome o (λ l. says b held ≡ next l)))) is found;
      stands = subst (λ (o : Option (List Text)).
          IfSome (g.contents disk') (λ b. IfSome o (Represents b))) is stands;
      all = subst (λ (o : Option (List Text)). IfSome o (AllRepresent g disk')) is all;
    }

module _ {R S D : Type 0} (rooms : Rooms R S D) (g : Ghosts D) (name : Text)
    (says : Text → Text → Outcome) (next : List Text → Outcome) (old both new : R)
    (disk mid disk' tiles tiles_mid tiles' : D)
    (opened : DevicesWereOpened rooms g name old both disk tiles)
    (over : IsOpenedOver g says next disk mid tiles tiles_mid)
    (closed : DevicesWereClosed rooms g name both new disk' tiles') where
  abbrev wanted : Outcome
  wanted = outcome_over rooms g name says old

  -- the device of the journal as the file system opened it
  abbrev first : D
  first = opened.header.opened_disk

  -- the records, if the model knows the bytes of the tiles too
  abbrev list : Option (List Text)
  list = option_and_then (λ bytes. records_on g mid) (g.contents tiles_mid)

  read_first : OnlyReads g first mid
  read_first = only_read_on g first disk mid opened.header.only_reads over.only_reads

  found : IfSome (g.contents tiles) (λ held. IfSome (g.contents first) (λ b.
      IfSome (records_on g mid) (λ l. says b held ≡ next l)))
  found = IfSome_then (g.contents tiles) over.contents (λ held is.
      subst (λ (o : Option Text). IfSome o (λ b. IfSome (records_on g mid)
      (λ l. says b held ≡ next l))) opened.header.only_reads.contents is)

  -- the work on the devices that the file system opened
  pub worked_over : ReadsCrashState g → (ending : Ending)
      → HasWorkedTiled g name list next mid disk' tiles_mid tiles' ending
      → HasWorkedTiledOn g name says first disk' tiles tiles' ending
  worked_over crash_state ending works = tiled_on g name says next first mid disk' tiles tiles_mid
      tiles' ending crash_state read_first (over.fine ∙ opened.header.fine) over.only_reads_tiles
      over.fine_tiles found over.stands over.all works

  -- how it ended, and what it left
  pub worked_serves : ReadsCrashState g → (ending : Ending)
      → HasWorkedTiled g name list next mid disk' tiles_mid tiles' ending
      → HasServedBeside rooms g (name ∷ tiles_name name ∷ []) name (tiles_name name) wanted old new
      ending
  worked_serves crash_state ending works =
      served_tiled rooms g name (name ∷ tiles_name name ∷ []) says old opened.mid both closed.mid
      new first disk' tiles tiles' ending opened.header.opened opened.beside closed.beside
      closed.journal (worked_over crash_state ending works) (inl refl) (inr (inl refl))

  pub worked_valid : (Valid : List Text → Type 0)
      → WorksValidly g Valid (records_on g mid) next mid disk'
      → KeepsValid rooms g Valid (name ∷ []) wanted old new
  worked_valid Valid valid =
      valid_tiled rooms g name (name ∷ tiles_name name ∷ []) says old opened.mid both closed.mid new
      first disk' tiles tiles' no_memory opened.header.opened opened.beside closed.beside
      closed.journal Valid
      (valid_tiled_on g Valid name says next first mid disk' (g.contents tiles) read_first found
      over.stands over.all valid)

  pub worked_only_reads : OnlyNow g → ModelsAll rooms g → ReadsAtMost g tiles_mid tiles'
      → OnlyReadsBeside rooms g old new (tiles_name name)
  worked_only_reads only_now all only =
      only_read_tiled rooms g name old opened.mid both closed.mid new first disk' tiles tiles'
      opened.header.opened opened.beside closed.beside closed.journal all
      (only_read_on g tiles tiles_mid tiles' over.only_reads_tiles
      (only_reads_of g tiles_mid tiles' only_now only))

  pub worked_stores : (goes : List Text → Text → Type 0) (Valid : List Text → Type 0)
      → ModelsAll rooms g
      → IfSome list (λ l. IsOpen g mid l
      → HasStoredBoth goes Valid g (journaled_by (next l)) mid disk' tiles_mid tiles')
      → StoresBeside goes Valid rooms g old new (name ∷ []) (tiles_name name ∷ []) wanted
  worked_stores goes Valid all stores =
      stored_tiled goes Valid rooms g name says old opened.mid both closed.mid new first disk'
      tiles tiles' opened.header.opened opened.beside closed.beside closed.journal all
      (stored_on goes Valid g name says next first mid disk' tiles tiles_mid tiles' read_first
      over.only_reads_tiles found over.stands over.all stores)

  -- the file of the journal was one
  pub worked_spares : SparesTiles rooms old new name
  worked_spares = λ t not. absurd (opened.is_journal t not)
