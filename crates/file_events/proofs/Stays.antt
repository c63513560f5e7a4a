-- What holds of each execution of a journal: the records that runs held stand.
use Rattle.std.proofs.Common.{inl, inr, List, [], ◌∷◌, ◌++◌, refl, sym, subst}
use Rattle.byte_formats.specs.Types.{Text}
use Rattle.file_events.specs.Events.{CrashStates, Event, EventHolds, FirstHolds, WereHeld}
use Rattle.file_events.specs.Events.{HasReleased}
use Rattle.file_events.specs.Executions.{IsPrefix}
use Rattle.file_events.specs.Laws.{IsDurablePrefix, DurableStay, HeldAreDurable, IsJournalExecution}
use Rattle.file_events.specs.Laws.{RecoveredIsValid, ReleasedAreDurable}
use Rattle.file_events.proofs.Records.{held_durable, one_list, stay_durable}

-- what was released was held
pub released_held : (list : List Text) (body : Text) (events : List Event)
    → HasReleased events list body → WereHeld events (list ++ body ∷ [])
released_held list body [] released = absurd released
released_held list body (event ∷ events) released = elim released [
  | inl is ↦ inl (subst (λ (e : Event). EventHolds (list ++ body ∷ []) e) (sym is) refl)
  | inr later ↦ inr (released_held list body events later)
]

-- the first event is one of them
pub first_held : (list : List Text) (events : List Event) → FirstHolds list events
    → WereHeld events list
first_held list [] held = absurd held
first_held list (event ∷ events) held = inl held

module _ {W : Type 0} (states : W → CrashStates) (Valid : List Text → Type 0) where
  durable_after : (prefix : List Text) (events : List Event) (old new : W)
      → IsDurablePrefix Valid prefix (states old) → IsJournalExecution states Valid old events new
      → IsDurablePrefix Valid prefix (states new)
  durable_after prefix [] old new durable is =
      subst (λ (w : W). IsDurablePrefix Valid prefix (states w)) (sym is) durable
  durable_after prefix (event ∷ events) old new durable is =
      durable_after prefix events is.0 new
      (stay_durable Valid prefix (states old) durable event (states is.0) is.1.0) is.1.1

  held_after : (list : List Text) (events : List Event) (old new : W) → WereHeld events list
      → IsJournalExecution states Valid old events new → IsDurablePrefix Valid list (states new)
  held_after list [] old new held is = absurd held
  held_after list (event ∷ events) old new held is = elim held [
    | inl here ↦ durable_after list events is.0 new
        (held_durable Valid list event (states old) (states is.0) here is.1.0) is.1.1
    | inr later ↦ held_after list events is.0 new later is.1.1
  ]

  pub durable_stay : DurableStay states Valid
  durable_stay prefix old new events durable is =
      durable_after prefix events old new durable is

  pub held_stand : HeldAreDurable states Valid
  held_stand list old new events held is = held_after list events old new held is

  pub released_stand : ReleasedAreDurable states Valid
  released_stand list body old new events released is =
      held_after (list ++ body ∷ []) events old new (released_held list body events released) is

  pub recovered_valid : RecoveredIsValid states Valid
  recovered_valid first list old new events held is recovered =
      let durable = held_after first events old new held is in
      let following = durable.each recovered.0 recovered.1.0 in
      let same = one_list recovered.0 following.list list following.stands recovered.1.1 in (
        subst Valid same following.valid,
        subst (λ (l : List Text). IsPrefix first l) same following.begins,
      )
