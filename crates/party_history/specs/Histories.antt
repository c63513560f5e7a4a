-- Histories: which steps are allowed, and the states after them.
use Rattle.std.specs.Prelude.{ℕ, ◌+◌, ◌&&◌, not, is_some, Bool, List, [], ◌∷◌, ◌++◌, map}
use Rattle.std.specs.Prelude.{slice_get, slice_set, Option, Some, None, option_and_then}
use Rattle.std.specs.Prelude.{option_map, Result, Ok, if◌then◌else◌}
use Rattle.byte_formats.specs.Types.{Text}
use Rattle.byte_formats.specs.Readings.{◌>>=◌, some_or}
use Rattle.party_history.specs.Parties.{HistoryState, fresh_party, begin, make_durable, release}
use Rattle.party_history.specs.Parties.{stop}
use Rattle.party_history.specs.Parties.{party_of_step}
use Rattle.party_history.specs.declared.start.PartyStart.{PartyStart}
use Rattle.party_history.specs.declared.step.PartyStep.{PartyStep}
use Rattle.party_history.specs.declared.step.PartyStep.TheVariants.{Begin, MakeDurable, Release}
use Rattle.party_history.specs.declared.step.PartyStep.TheVariants.{Stop}

-- Which bodies may follow a start.
abbrev pub Valid : Type 0
Valid = PartyStart → List Text → Bool

-- A record may begin if nothing is pending, and the records with it are valid.
abbrev pub may_begin : Valid → HistoryState → Text → Bool
may_begin valid s body = not (is_some s.pending) && valid s.start (s.durable ++ body ∷ [])

-- this state, where the step to it is allowed
abbrev pub if_allowed : Bool → HistoryState → Option HistoryState
if_allowed allowed s = if allowed then Some s else None

-- A party after a step of its own, if that is allowed.
abbrev pub moved : Valid → HistoryState → PartyStep → Option HistoryState
moved valid s (Begin party body) = if_allowed (may_begin valid s body) (begin body s)
moved valid s (MakeDurable party) = if_allowed (is_some s.pending) (make_durable s)
moved valid s (Release party) = if_allowed s.may_release (release s)
moved valid s (Stop party kept) = Some (stop kept s)

-- All parties after a step of one of them, which has to be there. The others stay.
abbrev pub states_after : Valid → List HistoryState → PartyStep → Option (List HistoryState)
states_after valid states step =
    option_and_then (λ s. option_map (slice_set states (party_of_step step)) (moved valid s step))
    (slice_get states (party_of_step step))

-- The states after steps, the first of which has number k; or the number of the first one that is
-- not allowed.
unfoldable pub states_from : Valid → ℕ → List HistoryState → List PartyStep
    → Result (List HistoryState) ℕ
states_from valid k states [] = Ok states
states_from valid k states (step ∷ steps) =
    some_or k (states_after valid states step)
    >>= λ next. states_from valid (k + 1) next steps

-- The states after all steps of parties that begin so, or the number of the first step that is not
-- allowed.
abbrev pub history_of : Valid → List PartyStart → List PartyStep → Result (List HistoryState) ℕ
history_of valid starts steps = states_from valid 0 (map fresh_party starts) steps
