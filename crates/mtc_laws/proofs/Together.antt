-- Histories of several parties make one history of all.
use Rattle.std.proofs.Common.{◌≡◌, ℕ, zero, suc, ◌+◌, List, [], ◌∷◌, ◌++◌, map, Option, None, Some}
use Rattle.std.proofs.Common.{Ok, refl, sym, subst, ap, ◌∙◌, option_map, option_and_then, slice_get}
use Rattle.std.specs.Prelude.{slice_set}
use Rattle.std.proofs.lemmas.Option.{same_Some}
use Rattle.byte_formats.specs.Readings.{◌>>=◌, some_or}
use Rattle.byte_formats.specs.Offsets.{IsBytes}
use Rattle.byte_formats.specs.Types.{HashFunction}
use Rattle.byte_formats.proofs.Values.{map_some}
use Rattle.disk_core.specs.declared.disk.Disk.{Ghosts as Disks}
use Rattle.mtc_io.specs.declared.sink.Sink.{Ghosts as Sinks}
use Rattle.mtc_room.specs.declared.room.Room.{Ghosts as Rooms}
use Rattle.mtc_command.proofs.Made.{OnlyNow, ReadsCrashState}
use Rattle.party_history.specs.Histories.{Valid, moved, states_after, states_from}
use Rattle.party_history.specs.Parties.{HistoryState, fresh_party, party_of_step}
use Rattle.party_history.specs.Rules.{may_follow}
use Rattle.party_history.specs.declared.step.PartyStep.{PartyStep}
use Rattle.party_history.specs.declared.step.PartyStep.TheVariants.{Begin, MakeDurable, Release}
use Rattle.party_history.specs.declared.step.PartyStep.TheVariants.{Stop}
use Rattle.party_history.proofs.Chains.{first_step, no_some, no_steps}
use Rattle.mtc_laws.specs.RoomLaws.{AreOneHistory, IsJournalOf, JournalsAreOneHistory}
use Rattle.mtc_laws.proofs.Recovered.{reached}
use Rattle.mtc_laws.proofs.Aliases.{ModelsFiles}
use Rattle.mtc_top.specs.Executions.{program}

-- the same step of the next party
abbrev later : PartyStep → PartyStep
later (Begin party body) = Begin (suc party) body
later (MakeDurable party) = MakeDurable (suc party)
later (Release party) = Release (suc party)
later (Stop party kept) = Stop (suc party) kept

-- a party of the list is moved on
abbrev moved_in : (HistoryState → Option HistoryState) → List HistoryState → ℕ
    → Option (List HistoryState)
moved_in f states n =
    option_and_then (λ s. option_map (slice_set states n) (f s)) (slice_get states n)

module _ (x : HistoryState) (xs : List HistoryState) where
  -- a party after the first one
  next_moved : (f : HistoryState → Option HistoryState) (n : ℕ)
      → moved_in f (x ∷ xs) (suc n) ≡ option_map (λ l. x ∷ l) (moved_in f xs n)
  next_moved f n = of (slice_get xs n)
    where
      of_move : (o : Option HistoryState) → option_map (slice_set (x ∷ xs) (suc n)) o
          ≡ option_map (λ l. x ∷ l) (option_map (slice_set xs n) o)
      of_move None = refl
      of_move (Some t) = refl

      of : (o : Option HistoryState)
          → option_and_then (λ s. option_map (slice_set (x ∷ xs) (suc n)) (f s)) o
          ≡ option_map (λ l. x ∷ l) (option_and_then (λ s. option_map (slice_set xs n) (f s)) o)
      of None = refl
      of (Some s) = of_move (f s)

  -- the only party, with others after it
  only_moved : (f : HistoryState → Option HistoryState) (n : ℕ) (next : List HistoryState)
      → moved_in f (x ∷ []) n ≡ Some next
      → (t : HistoryState) × (next ≡ t ∷ []) × (moved_in f (x ∷ xs) n ≡ Some (t ∷ xs))
  only_moved f zero next is =
      let found = map_some (slice_set (x ∷ []) 0) (f x) next is in
      (found.0, sym found.2, ap (option_map (slice_set (x ∷ xs) 0)) found.1)
  only_moved f (suc n) next is = no_some next is

module _ (valid : Valid) where
  later_after : (x : HistoryState) (xs : List HistoryState) (step : PartyStep)
      → states_after valid (x ∷ xs) (later step)
      ≡ option_map (λ l. x ∷ l) (states_after valid xs step)
  later_after x xs (Begin party body) =
      next_moved x xs (λ s. moved valid s (Begin party body)) party
  later_after x xs (MakeDurable party) =
      next_moved x xs (λ s. moved valid s (MakeDurable party)) party
  later_after x xs (Release party) = next_moved x xs (λ s. moved valid s (Release party)) party
  later_after x xs (Stop party kept) = next_moved x xs (λ s. moved valid s (Stop party kept)) party

  -- the first step leads to these states, and then come the others
  goes_first : (k : ℕ) (states : List HistoryState) (step : PartyStep) (steps : List PartyStep)
      (next ends : List HistoryState) → states_after valid states step ≡ Some next
      → states_from valid (k + 1) next steps ≡ Ok ends
      → states_from valid k states (step ∷ steps) ≡ Ok ends
  unfolding states_from
  goes_first k states step steps next ends is rest =
      ap (λ (o : Option (List HistoryState)). some_or k o
      >>= λ (s : List HistoryState). states_from valid (k + 1) s steps) is ∙ rest

  -- no step
  none : (k : ℕ) (states : List HistoryState) → states_from valid k states [] ≡ Ok states
  unfolding states_from
  none k states = refl

  -- the number of the first step doesn't matter
  any_number : (k j : ℕ) (states ends : List HistoryState) (steps : List PartyStep)
      → states_from valid k states steps ≡ Ok ends → states_from valid j states steps ≡ Ok ends
  any_number k j states ends [] is =
      ap (λ (l : List HistoryState). states_from valid j l []) (no_steps valid k states ends is)
      ∙ none j ends
  any_number k j states ends (step ∷ steps) is =
      let first = first_step valid k states step steps ends is in
      goes_first j states step steps first.0 ends first.1
      (any_number (k + 1) (j + 1) first.0 ends steps first.2)

  -- steps after steps
  goes_after : (k : ℕ) (states mid ends : List HistoryState) (earlier more : List PartyStep)
      → states_from valid k states earlier ≡ Ok mid → states_from valid 0 mid more ≡ Ok ends
      → states_from valid k states (earlier ++ more) ≡ Ok ends
  goes_after k states mid ends [] more is rest =
      ap (λ (l : List HistoryState). states_from valid k l more) (no_steps valid k states mid is)
      ∙ any_number 0 k mid ends more rest
  goes_after k states mid ends (step ∷ earlier) more is rest =
      let first = first_step valid k states step earlier mid is in
      goes_first k states step (earlier ++ more) first.0 ends first.1
      (goes_after (k + 1) first.0 mid ends earlier more first.2 rest)

  -- a history with a party before the others that takes no step
  with_first : (k : ℕ) (x : HistoryState) (states ends : List HistoryState)
      (steps : List PartyStep) → states_from valid k states steps ≡ Ok ends
      → states_from valid k (x ∷ states) (map later steps) ≡ Ok (x ∷ ends)
  with_first k x states ends [] is =
      none k (x ∷ states)
      ∙ ap (λ (l : List HistoryState). Ok (x ∷ l)) (no_steps valid k states ends is)
  with_first k x states ends (step ∷ steps) is =
      let first = first_step valid k states step steps ends is in
      goes_first k (x ∷ states) (later step) (map later steps) (x ∷ first.0) (x ∷ ends)
      (later_after x states step
      ∙ ap (option_map (λ (l : List HistoryState). x ∷ l)) first.1)
      (with_first (k + 1) x first.0 ends steps first.2)

  -- a history of one party, with others after it that take no step
  with_others : (k : ℕ) (x : HistoryState) (others ends : List HistoryState)
      (steps : List PartyStep) → states_from valid k (x ∷ []) steps ≡ Ok ends
      → (t : HistoryState) × (ends ≡ t ∷ [])
      × (states_from valid k (x ∷ others) steps ≡ Ok (t ∷ others))
  with_others k x others ends [] is =
      (x, sym (no_steps valid k (x ∷ []) ends is), none k (x ∷ others))
  with_others k x others ends (step ∷ steps) is =
      let first = first_step valid k (x ∷ []) step steps ends is in
      let only = only_moved x others (λ s. moved valid s step) (party_of_step step) first.0 first.1
      in
      let rest = with_others (k + 1) only.0 others ends steps
      (subst (λ (l : List HistoryState). states_from valid (k + 1) l steps ≡ Ok ends) only.1
      first.2) in (
        rest.0,
        rest.1,
        goes_first k (x ∷ others) step steps (only.0 ∷ others)
            (rest.0 ∷ others) only.2 rest.2,
      )

module _ {R S D O E : Type 0} (h : HashFunction) (rooms : Rooms R S D) (disks : Disks D)
    (outs : Sinks O) (errs : Sinks E) (crash_state : ReadsCrashState disks) (only : OnlyNow disks)
    (contents : ModelsFiles rooms disks)
    (bytes : (d : D) (b : List ℕ) → disks.contents d ≡ Some b → IsBytes b) where
  abbrev Journal : R → Type 0
  Journal = IsJournalOf h (program h rooms disks outs errs)

  one_history : (room : R) (journals : List (Journal room))
      → AreOneHistory h (program h rooms disks outs errs) room journals
  one_history room [] =
      record { steps = []; states = []; allowed = none (may_follow h) 0 []; each = tt }
  one_history room (j ∷ js) =
      let rest = one_history room js in
      let own =
      reached h rooms disks outs errs crash_state only contents bytes j.name j.start j.first j.old
      room j.events j.begun j.execution in
      let others = map fresh_party (map (λ (i : Journal room). i.start) js) in
      let wide = with_others (may_follow h) 0 (fresh_party j.start) others own.leads.states
      own.steps own.leads.allowed in
      let state_is : wide.0 ≡ own.state
      = same_Some wide.0 own.state (ap (λ (l : List HistoryState). slice_get l 0) (sym wide.1)
      ∙ own.leads.there) in
      record {
        steps = own.steps ++ map later rest.steps;
        states = own.state ∷ rest.states;
        allowed = goes_after (may_follow h) 0 (fresh_party j.start ∷ others) (own.state ∷ others)
            (own.state ∷ rest.states) own.steps (map later rest.steps)
            (wide.2 ∙ ap (λ (s : HistoryState). Ok (s ∷ others)) state_is)
            (with_first (may_follow h) 0 own.state others rest.states rest.steps rest.allowed);
        each = (record { stands = own.stands; released = own.released }, rest.each);
      }

  pub journals_together : JournalsAreOneHistory h (program h rooms disks outs errs)
  journals_together room journals = one_history room journals
