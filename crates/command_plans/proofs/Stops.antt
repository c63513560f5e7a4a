-- A command that stops before its work has done what the outcome wants.
use Rattle.std.proofs.Common.{◌≡◌, ℕ, Bool, true, false, List, [], ◌∷◌, None}
use Rattle.std.proofs.Common.{not, IsSome, subst, sym, ◌∙◌, ap, refl}
use Rattle.disk_core.specs.declared.disk.Disk.{Ghosts}
use Rattle.mtc_room.specs.declared.room.Room.{Ghosts as Rooms}
use Rattle.mtc_command.specs.Answers.{Ending, IfReply}
use Rattle.mtc_command.specs.Endings.{LeftBy}
use Rattle.mtc_command.specs.Made.{HasKept, IsOnOld, Journaled, Leaves}
use Rattle.mtc_command.specs.Served.{IsOther, IsUnmade, OfEach, done_with, first_journaled}
use Rattle.mtc_command.specs.Served.{rest_journaled}
use Rattle.mtc_command.specs.Wanted.{Meets}
use Rattle.mtc_command.specs.Steps.{Outcome}
use Rattle.mtc_command.proofs.Made.{OnlyNow, left_kept}
use Rattle.mtc_command.proofs.Served.{each_is, reply_so}
use Rattle.command_plans.specs.Devices.{AreThere, Device, EachDevice, IfJournal, IsElsewhere}
use Rattle.command_plans.specs.Devices.{OpensAround}
use Rattle.command_plans.specs.Stops.{EachName, IsApart, StopsServe}
use Rattle.command_plans.proofs.Devices.{all_closed, later, modelled, there_not, through}
use Rattle.command_plans.proofs.Read.{ModelsPlaces, left_read, one_file}

module _ (Q : List ℕ → Type 0) (P : List ℕ → Journaled → Type 0) where
  of_names : ((name : List ℕ) (did : Journaled) → Q name → P name did) → (names : List (List ℕ))
      (dids : List Journaled) → EachName Q names → OfEach P (done_with names dids)
  of_names so [] dids each = tt
  of_names so (name ∷ names) dids each = (
    so name (first_journaled dids) each.0,
    of_names so names (rest_journaled dids) each.1,
  )

module _ {R S D : Type 0} (rooms : Rooms R S D) (g : Ghosts D)
    (places : ModelsPlaces rooms g) where
  -- a journal that isn't there has another place than each device
  none_elsewhere : (devices : List (Device D)) (old : R) (journal : List ℕ)
      → rooms.is_modelled old → AreThere rooms g old devices → rooms.file old journal ≡ None
      → EachDevice (λ device. IfJournal (not device.journal)
      (IsElsewhere rooms.leads_to journal device)) devices
      → EachDevice (IsElsewhere rooms.leads_to journal) devices
  none_elsewhere [] old journal t there none apart = tt
  none_elsewhere (device ∷ rest) old journal t there none apart = (
    go device.journal there.0 apart.0,
    none_elsewhere rest old journal t there.1 none apart.1,
  )
    where
      go : (journaled : Bool) → IfJournal journaled (IsSome (rooms.file old device.name))
          → IfJournal (not journaled) (IsElsewhere rooms.leads_to journal device)
          → IsElsewhere rooms.leads_to journal device
      go true is other = λ same. there_not (rooms.file old device.name) is
          (sym (one_file rooms g places old journal device.name t same) ∙ none)
      go false is other = other

  module _ (names : List (List ℕ)) (devices : List (Device D)) (old new : R)
      (opens : OpensAround rooms g names devices old new) where
    unmade_name : rooms.is_modelled old → AreThere rooms g old devices → (name : List ℕ)
        → IsApart rooms.leads_to names devices name → IsUnmade rooms old new name
    unmade_name t there name apart none =
        (through rooms g names devices old new opens name apart.0
        (none_elsewhere devices old name t there none apart.1)).bytes ∙ none

    left_names : (ending : Ending) → ((name : List ℕ) (did : Journaled)
        → IsOther rooms.leads_to names name
        → Leaves g (HasKept did) (rooms.device old name) (rooms.device new name))
        → (journals : List (List ℕ)) (dids : List Journaled)
        → EachName (IsApart rooms.leads_to names devices) journals
        → IfReply ending (λ reply. dids ≡ [])
        → OfEach (λ name did. Leaves g (LeftBy ending did) (rooms.device old name)
        (rooms.device new name)) (done_with journals dids)
    left_names ending kept [] dids each none = tt
    left_names ending kept (name ∷ journals) dids each none = (
      left_kept g ending (first_journaled dids) (rooms.device old name) (rooms.device new name)
          (reply_so ending _ _ (λ reply is. ap first_journaled is) none)
          (kept name (first_journaled dids) each.0.0),
      left_names ending kept journals (rest_journaled dids) each.1
          (reply_so ending _ _ (λ reply is. ap rest_journaled is) none),
    )

  pub stops_serve : OnlyNow g → StopsServe rooms g
  stops_serve only_now files journals besides names wanted devices old new ending there opens only
      covered apart fault is =
      let dids = wanted.journals in
      record {
        back = record {
          opened = all_closed rooms g names devices old new opens;
          later = later rooms g names devices old new opens;
          is_modelled = modelled rooms g names devices old new opens;
          others = λ name other.
              let differ = covered name other in
              through rooms g names devices old new opens name differ.0 differ.1;
        };
        ends = record {
          reply = reply_so ending _ _ (λ reply facts t.
              subst (λ (w : Outcome). Meets w.answer reply) (sym (facts.2 t)) refl) is;
          words = λ bad. absurd bad;
          not_words = reply_so ending _ _ (λ reply facts one. facts.0 one) is;
          fault = fault;
          early = reply_so ending _ _ (λ reply facts t. each_is _ (λ name did of. facts.1)
              (done_with journals dids)) is;
        };
        made = λ t. record {
          no_file = of_names (IsApart rooms.leads_to names devices)
              (λ name did. IsOnOld did → IsUnmade rooms old new name)
              (λ name did so on. unmade_name names devices old new opens t (there t) name so)
              journals dids apart;
          unmade = λ memory. of_names (IsApart rooms.leads_to names devices)
              (λ name did. IsUnmade rooms old new name)
              (λ name did so. unmade_name names devices old new opens t (there t) name so)
              journals dids apart;
          left = left_names names devices old new opens ending
              (left_read rooms g places only_now names devices old new opens only t) journals dids
              apart
              (reply_so ending _ _ (λ reply facts. ap (λ (w : Outcome). w.journals) (facts.2 t))
              is);
        };
      }
