-- An execution is of a file, and not of a name.
use Rattle.std.proofs.Common.{◌≡◌, ◌↔◌, List, [], ◌∷◌, Option, refl, sym, subst, ap, ◌∙◌}
use Rattle.byte_formats.specs.Types.{HashFunction, Text}
use Rattle.disk_core.specs.declared.disk.Disk.{Ghosts as Disks}
use Rattle.file_events.specs.Events.{Event, Leads, broke}
use Rattle.file_events.specs.Worlds.{IsFileEvent, IsFileExecution, IsOneFile, broke_off, cut}
use Rattle.file_events.specs.Worlds.{died, event_with, exited, files_after, heard_of}
use Rattle.file_events.specs.Worlds.{own_event, own_events}
use Rattle.file_events.specs.Owners.{did_to}
use Rattle.file_events.specs.Worlds.{Program, states_at, states_of, stops, writes}
use Rattle.mtc_io.specs.declared.sink.Sink.{Ghosts as Sinks}
use Rattle.mtc_room.specs.declared.room.Room.{Ghosts as Rooms}
use Rattle.mtc_command.specs.Made.{Journaled}
use Rattle.party_history.specs.Rules.{AreRecords}
use Rattle.mtc_top.specs.Executions.{FileEvent, Run, owner, program}
use Rattle.mtc_laws.specs.ExecutionLaws.{ExecutionsAreOfFiles}
use Rattle.mtc_laws.proofs.Aliases.{ModelsFiles}
use Rattle.mtc_laws.proofs.Leaves.{done_alike}

module _ {R S D O E : Type 0} (h : HashFunction) (rooms : Rooms R S D) (disks : Disks D)
    (outs : Sinks O) (errs : Sinks E) (contents : ModelsFiles rooms disks) where
  abbrev p : Program
  p = program h rooms disks outs errs

  module _ (name other : Text) (same : IsOneFile p name other) where
    device_is : (room : R) → rooms.is_modelled room
        → rooms.device room name ≡ rooms.device room other
    device_is room modelled = contents.1 room name other modelled same

    did_is : (old : R) (run : Run R O E) → did_to p name old run ≡ did_to p other old run
    did_is old run = done_alike rooms.leads_to (p.journals old run) name other same

    broken_is : (old room : R) (run : Run R O E) → rooms.is_modelled old → rooms.is_modelled room
        → (owner h p name).LeadsTo (broke (did_to p name old run)) old room
        → (owner h p other).LeadsTo (broke (did_to p other old run)) old room
    broken_is old room run before after is =
        subst (λ (x : Option D). Leads (AreRecords h) (broke (did_to p other old run))
        (states_at disks (rooms.device old other)) (states_at disks x)) (device_is room after)
        (subst (λ (x : Option D). Leads (AreRecords h) (broke (did_to p other old run))
        (states_at disks x) (states_at disks (rooms.device room name))) (device_is old before)
        (subst (λ (d : Journaled). Leads (AreRecords h) (broke d)
        (states_at disks (rooms.device old name)) (states_at disks (rooms.device room name)))
        (did_is old run) is))

    event_is : (old : R) (event : FileEvent R O E) → rooms.is_modelled old
        → IsFileEvent p (owner h p name) old event
        → IsFileEvent p (owner h p other) old event × rooms.is_modelled (files_after p event)
    event_is old (exited run) modelled is = (is, is.back.is_modelled modelled)
    event_is old (died run room) modelled is =
        let after = is.0 modelled in
        ((is.0, broken_is old room run modelled after is.1), after)
    event_is old (cut run room) modelled is =
        (is, is.1.is_modelled (is.0.back.is_modelled modelled))
    event_is old (stops room) modelled is = (is, is.is_modelled modelled)
    event_is old (writes room) modelled is = (
      record {
        is_modelled = is.is_modelled;
        stays = λ n own. is.stays n (own ∙ sym same);
      },
      is.is_modelled modelled,
    )

    own_is : (old : R) (event : FileEvent R O E)
        → own_event p (owner h p other) old event ≡ own_event p (owner h p name) old event
    own_is old (exited run) = ap (λ (d : Journaled).
        event_with (broke_off p run) (heard_of p run) d) (sym (did_is old run))
    own_is old (died run room) =
        ap (λ (d : Journaled). broke d) (sym (did_is old run))
    own_is old (cut run room) =
        ap (λ (d : Journaled). broke d) (sym (did_is old run))
    own_is old (stops room) = refl
    own_is old (writes room) = refl

    execution_is : (old : R) (events : List (FileEvent R O E)) (new : R) → rooms.is_modelled old
        → IsFileExecution p (owner h p name) old events new
        → IsFileExecution p (owner h p other) old events new
        × ((own_events p (owner h p other) old events ≡ own_events p (owner h p name) old events)
        × ((c : Text) → states_of p other new c ↔ states_of p name new c))
    execution_is old [] new modelled is =
        let device = subst (λ (room : R). rooms.device room name ≡ rooms.device room other)
        (sym is) (device_is old modelled) in (
          is,
          (
            refl,
            λ c. (
              subst (λ (x : Option D). states_at disks x c) (sym device),
              subst (λ (x : Option D). states_at disks x c) device,
            ),
          ),
        )
    execution_is old (event ∷ events) new modelled is =
        let first = event_is old event modelled is.0 in
        let rest = execution_is (files_after p event) events new first.1 is.1 in
        let same = ap (λ (e : Event).
        e ∷ own_events p (owner h p other) (files_after p event) events) (own_is old event)
        ∙ ap (λ (es : List Event). own_event p (owner h p name) old event ∷ es) rest.1.0 in
        ((first.0, rest.0), (same, rest.1.1))

  pub executions_of_files : ExecutionsAreOfFiles h p
  executions_of_files name other same old new events modelled is =
      execution_is name other same old events new modelled is
