-- What happens to an owner's files is an execution of their events.
use Rattle.std.proofs.Common.{inl, inr, List, [], ◌∷◌, Option, IfSome, sym, subst}
use Rattle.byte_formats.specs.Types.{Text}
use Rattle.file_events.specs.Executions.{AnyEvent, IsExecution}
use Rattle.file_events.specs.Worlds.{ExecutionsAreOfOwners, EachRun, FileOwner}
use Rattle.file_events.specs.Worlds.{IsFileExecution, IsFileEvent, FileEvent, FileEventsLead}
use Rattle.file_events.specs.Worlds.{Program, Run, cut}
use Rattle.file_events.specs.Worlds.{died, own_event, own_events, files_after, run_of, states_at}
use Rattle.file_events.specs.Worlds.{states_of, stops, exited, writes}

module _ (p : Program) (o : FileOwner p) (lead : FileEventsLead p o) where
  -- what happens leads to the files after it, which the model knows
  one_event : (old : p.R) (event : FileEvent p.R p.O p.E) → p.rooms.is_modelled old
      → IsFileEvent p o old event
      → p.rooms.is_modelled (files_after p event)
      × o.LeadsTo (own_event p o old event) old (files_after p event)
  one_event old (exited run) modelled is =
      (lead.modelled old run modelled is, lead.runs old run modelled is)
  one_event old (died run room) modelled is = (is.0 modelled, is.1)
  one_event old (cut run room) modelled is = lead.cuts old run room modelled is.0 is.1
  one_event old (stops room) modelled is = (
    is.is_modelled modelled,
    lead.stays old room modelled
        (λ name own c at. subst (λ (d : Text). states_of p name old d)
        (sym (is.only name c at)) (is.may name))
        (λ name own. lead.some room name (is.is_modelled modelled)),
  )
  one_event old (writes room) modelled is = (
    is.is_modelled modelled,
    lead.stays old room modelled
        (λ name own c at. subst (λ (d : Option p.D). states_at p.disks d c)
        (is.stays name own).disk at)
        (λ name own. lead.some room name (is.is_modelled modelled)),
  )

  executes : (events : List (FileEvent p.R p.O p.E)) (old new : p.R) → p.rooms.is_modelled old
      → IsFileExecution p o old events new
      → IsExecution o.LeadsTo old (own_events p o old events) new
  executes [] old new modelled is = is
  executes (event ∷ events) old new modelled is =
      let next = one_event old event modelled is.0 in
      (files_after p event, (next.1, executes events (files_after p event) new next.0 is.1))

  pub stays_modelled : (events : List (FileEvent p.R p.O p.E)) (old new : p.R)
      → p.rooms.is_modelled old
      → IsFileExecution p o old events new → p.rooms.is_modelled new
  stays_modelled [] old new modelled is =
      subst (λ (room : p.R). p.rooms.is_modelled room) (sym is) modelled
  stays_modelled (event ∷ events) old new modelled is =
      stays_modelled events (files_after p event) new (one_event old event modelled is.0).0 is.1

  -- what holds of each run of an execution, if it holds by its event
  module _ (X : Type 0) (Q : X → o.EventOf → Type 0) (Held : X → Type 0)
      (P : p.R → Run p.R p.O p.E → Type 0)
      (each : (old : p.R) (run : Run p.R p.O p.E) → p.rooms.is_modelled old → p.HasRun old run
      → ((x : X) → Q x (o.run_event old run) → Held x) → P old run) where
    one_each : (old : p.R) (event : FileEvent p.R p.O p.E) → p.rooms.is_modelled old
        → IsFileEvent p o old event
        → ((x : X) → Q x (own_event p o old event) → Held x) → IfSome (run_of p event) (P old)
    one_each old (exited run) modelled is reported = each old run modelled is reported
    one_each old other modelled is reported = tt

    pub each_run : (events : List (FileEvent p.R p.O p.E)) (old new : p.R) → p.rooms.is_modelled old
        → IsFileExecution p o old events new
        → ((x : X) → AnyEvent (Q x) (own_events p o old events) → Held x) → EachRun p P old events
    each_run [] old new modelled is reported = tt
    each_run (event ∷ events) old new modelled is reported = (
      one_each old event modelled is.0 (λ x here. reported x (inl here)),
      each_run events (files_after p event) new (one_event old event modelled is.0).0 is.1
          (λ x later. reported x (inr later)),
    )

pub owners_execute : (p : Program) (o : FileOwner p) → ExecutionsAreOfOwners p o
owners_execute p o lead old new events modelled is = executes p o lead events old new modelled is
