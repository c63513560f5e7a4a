-- From what a command on a journal and its tiles has done in parts to all of it.
use Rattle.std.proofs.Common.{◌≡◌, [], ◌∷◌, List, IfSome}
use Rattle.std.specs.Prelude.{option_and_then}
use Rattle.byte_formats.specs.Types.{Text}
use Rattle.disk_core.specs.declared.disk.Disk.{Ghosts}
use Rattle.mtc_room.specs.declared.room.Room.{Ghosts as Rooms}
use Rattle.mtc_command.specs.Answers.{Ending, tiles_name}
use Rattle.mtc_command.specs.Endings.{IsNamed}
use Rattle.mtc_command.specs.Made.{IsOpen}
use Rattle.mtc_command.specs.Served.{ClosesAll, HasDone}
use Rattle.mtc_command.specs.Steps.{Outcome}
use Rattle.mtc_command.specs.Stored.{HasStoredBoth}
use Rattle.mtc_command.specs.Valid.{WorksValidly}
use Rattle.mtc_command.specs.Works.{HasWorkedTiled, journaled_by}
use Rattle.mtc_command.proofs.Beside.{ModelsAll}
use Rattle.mtc_command.proofs.Made.{OnlyNow, ReadsCrashState}
use Rattle.mtc_command.proofs.Served.{beside, following}
use Rattle.mtc_command.proofs.Stored.{after_stored, kept_stored}
use Rattle.mtc_command.proofs.Valid.{after_valid, kept_valid}
use Rattle.mtc_tiled.specs.Commands.{HasServedTiled}
use Rattle.mtc_tiled.specs.Openings.{DevicesWereClosed, DevicesWereOpened, PartyWasNotOpened}
use Rattle.mtc_tiled.specs.Openings.{outcome_over}
use Rattle.mtc_tiled.specs.Parties.{IsTiledParty, TiledParty}
use Rattle.mtc_tiled.proofs.OnlyRead.{spared_after, spared_kept}
use Rattle.mtc_tiled.proofs.Worked.{IsOpenedOver, records_on, worked_serves, worked_spares}
use Rattle.mtc_tiled.proofs.Worked.{worked_stores, worked_valid}

-- no party was opened
pub not_opened_served : {State Fault : Type 0} (party : TiledParty State Fault) {R S D : Type 0}
    (rooms : Rooms R S D) (g : Ghosts D) (name : Text) (says : Text → Text → Outcome) (old new : R)
    (ending : Ending) → PartyWasNotOpened rooms g name party says old new ending
    → HasServedTiled rooms g name party.goes (IsTiledParty party) (name ∷ tiles_name name ∷ [])
    (outcome_over rooms g name says old) old new ending
not_opened_served party rooms g name says old new ending is = record {
  serves = is.serves;
  valid = is.valid;
  stores = is.stores;
  spares = is.spares;
}

-- one was opened, worked on and closed
pub worked_served : {R S D : Type 0} (rooms : Rooms R S D) (g : Ghosts D) (name : Text)
    (says : Text → Text → Outcome) (next : List Text → Outcome) (goes : List Text → Text → Type 0)
    (Valid : List Text → Type 0) (old both new : R) (disk mid disk' tiles tiles_mid tiles' : D)
    → DevicesWereOpened rooms g name old both disk tiles
    → IsOpenedOver g says next disk mid tiles tiles_mid
    → DevicesWereClosed rooms g name both new disk' tiles' → ReadsCrashState g → ModelsAll rooms g
    → WorksValidly g Valid (records_on g mid) next mid disk'
    → IfSome (option_and_then (λ bytes. records_on g mid) (g.contents tiles_mid)) (λ l.
    IsOpen g mid l
    → HasStoredBoth goes Valid g (journaled_by (next l)) mid disk' tiles_mid tiles')
    → (ending : Ending)
    → HasWorkedTiled g name (option_and_then (λ bytes. records_on g mid) (g.contents tiles_mid))
    next mid disk' tiles_mid tiles' ending
    → HasServedTiled rooms g name goes Valid (name ∷ tiles_name name ∷ [])
    (outcome_over rooms g name says old) old new ending
worked_served rooms g name says next goes Valid old both new disk mid disk' tiles tiles_mid tiles'
    opened over closed crash_state all valid stores ending works = record {
      serves = worked_serves rooms g name says next old both new disk mid disk' tiles tiles_mid
          tiles' opened over closed crash_state ending works;
      valid = worked_valid rooms g name says next old both new disk mid disk' tiles tiles_mid tiles'
          opened over closed Valid valid;
      stores = worked_stores rooms g name says next old both new disk mid disk' tiles tiles_mid
          tiles' opened over closed goes Valid all stores;
      spares = worked_spares rooms g name says next old both new disk mid disk' tiles tiles_mid
          tiles' opened over closed;
    }

module _ {R S D : Type 0} (rooms : Rooms R S D) (g : Ghosts D) (name : Text)
    (goes : List Text → Text → Type 0) (Valid : List Text → Type 0) (files : List Text)
    (wanted : Outcome) where
  abbrev Served : R → R → Ending → Type 0
  Served = HasServedTiled rooms g name goes Valid files wanted

  -- files were read and closed, and then comes the rest of the command
  pub served_after : (files' : List Text) (wanted' : Outcome) (old mid new : R) (ending : Ending)
      → ClosesAll rooms old mid [] → (rooms.is_modelled old → wanted' ≡ wanted)
      → ((file : Text) → IsNamed files' file → IsNamed files file)
      → HasServedTiled rooms g name goes Valid files' wanted' mid new ending
      → Served old new ending
  served_after files' wanted' old mid new ending read same more is = record {
    serves = following rooms g files files' (name ∷ []) (tiles_name name ∷ []) wanted wanted' old
        mid new ending read same more is.serves;
    valid = after_valid rooms g Valid (name ∷ []) wanted wanted' old mid new read same is.valid;
    stores = after_stored goes Valid rooms g (name ∷ []) (tiles_name name ∷ []) wanted wanted' old
        mid new read same is.stores;
    spares = spared_after rooms name old mid new read is.spares;
  }

  -- nothing else was done
  pub served_kept : (old new : R) (ending : Ending) → ClosesAll rooms old new [] → OnlyNow g
      → HasDone rooms g ⊥ files (name ∷ []) [] wanted old new ending → Served old new ending
  served_kept old new ending read only_now done = record {
    serves = beside rooms g ⊥ files (name ∷ []) (tiles_name name ∷ []) wanted old new ending done;
    valid = kept_valid rooms g Valid (name ∷ []) wanted old new read only_now;
    stores = kept_stored goes Valid rooms g (name ∷ []) (tiles_name name ∷ []) wanted old new read
        only_now;
    spares = spared_kept rooms name old new read;
  }
