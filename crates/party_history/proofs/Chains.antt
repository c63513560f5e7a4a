-- What each step preserves holds after all steps of a history.
use Rattle.std.proofs.Common.{◌≡◌, ℕ, zero, suc, ◌+◌, ◌⊎◌, inl, inr, List, [], ◌∷◌, ◌++◌, length}
use Rattle.std.proofs.Common.{map, Option, Some, None, Ok, refl, ap, sym, ◌∙◌, option_map, subst}
use Rattle.std.proofs.Common.{arith, append_assoc, slice_get, option_and_then}
use Rattle.std.proofs.lemmas.List.{append-nil}
use Rattle.std.proofs.lemmas.Option.{slice_get-get_or, slice_get_within, slice_get-map, same_Some}
use Rattle.std.proofs.Math.ListN.{length-set}
use Rattle.std.specs.Prelude.{slice_set}
use Rattle.byte_formats.specs.Readings.{◌>>=◌, some_or}
use Rattle.byte_formats.proofs.Steps.{bind_ok, ok_is, some_or_ok}
use Rattle.byte_formats.proofs.Values.{map_some, then_some}
use Rattle.party_history.specs.Histories.{Valid, moved, states_after, states_from}
use Rattle.party_history.specs.Laws.{LeadsTo}
use Rattle.party_history.specs.Parties.{HistoryState, fresh_party, party_of_step}
use Rattle.party_history.specs.declared.start.PartyStart.{PartyStart}
use Rattle.party_history.specs.declared.step.PartyStep.{PartyStep}

pub no_some : {X Y : Type 0} (x : X) → None ≡ Some x → Y
no_some {X} x is = absurd cc

-- the item between two lists
pub at_seam : {T : Type 0} (xs : List T) (x : T) (rest : List T)
    → slice_get (xs ++ x ∷ rest) (length xs) ≡ Some x
at_seam {T} [] x rest = refl
at_seam {T} (y ∷ xs) x rest = at_seam xs x rest

-- an item of a list of which one was set
at_set : {X : Type 0} (xs : List X) (i j : ℕ) (a y : X) → slice_get (slice_set xs i a) j ≡ Some y
    → ((j ≡ i) × (a ≡ y)) ⊎ (slice_get xs j ≡ Some y)
at_set [] i j a y is = no_some y is
at_set (x ∷ xs) zero zero a y is = inl (refl, same_Some a y is)
at_set (x ∷ xs) zero (suc j) a y is = inr is
at_set (x ∷ xs) (suc i) zero a y is = inr is
at_set (x ∷ xs) (suc i) (suc j) a y is =
    elim (at_set xs i j a y is) [ inl p ↦ inl (ap suc p.0, p.1) | inr p ↦ inr p ]

module _ (valid : Valid) where
  -- a step of one party: its state before it and after it
  stepped : (states : List HistoryState) (step : PartyStep) (next : List HistoryState)
      → states_after valid states step ≡ Some next → (old : HistoryState)
      × (slice_get states (party_of_step step) ≡ Some old) × ((new : HistoryState)
      × (moved valid old step ≡ Some new) × (slice_set states (party_of_step step) new ≡ next))
  stepped states step next is =
      let found = then_some (λ (s : HistoryState). option_map
      (slice_set states (party_of_step step)) (moved valid s step))
      (slice_get states (party_of_step step)) next is in
      let made = map_some (slice_set states (party_of_step step)) (moved valid found.0 step) next
      found.2 in
      (found.0, found.1, (made.0, made.1, made.2))

  -- the first step, and the rest
  pub first_step : (k : ℕ) (states : List HistoryState) (step : PartyStep) (steps : List PartyStep)
      (ends : List HistoryState) → states_from valid k states (step ∷ steps) ≡ Ok ends
      → (next : List HistoryState) × (states_after valid states step ≡ Some next)
      × (states_from valid (k + 1) next steps ≡ Ok ends)
  unfolding states_from
  first_step k states step steps ends is =
      let found = bind_ok (some_or k (states_after valid states step))
      (λ (next : List HistoryState). states_from valid (k + 1) next steps) ends is in
      (found.0, some_or_ok k (states_after valid states step) found.0 found.1, found.2)

  pub no_steps : (k : ℕ) (states ends : List HistoryState) → states_from valid k states [] ≡ Ok ends
      → states ≡ ends
  unfolding states_from
  no_steps k states ends is = ok_is ℕ states ends is

  -- there are as many parties after the steps
  as_many : (k : ℕ) (states : List HistoryState) (steps : List PartyStep)
      (ends : List HistoryState) → states_from valid k states steps ≡ Ok ends
      → length ends ≡ length states
  as_many k states [] ends is = sym (ap (λ (l : List HistoryState). length l)
      (no_steps k states ends is))
  as_many k states (step ∷ steps) ends is =
      let first = first_step k states step steps ends is in
      let taken = stepped states step first.0 first.1 in
      as_many (k + 1) first.0 steps ends first.2
      ∙ sym (ap (λ (l : List HistoryState). length l) taken.2.2)
      ∙ length-set states (party_of_step step) taken.2.0

  -- What each step keeps. It may speak of the steps so far.
  module _ (P : List PartyStep → ℕ → HistoryState → Type 0)
      (stays : (done : List PartyStep) (step : PartyStep) (place : ℕ) (s : HistoryState)
      → P done place s → P (done ++ step ∷ []) place s)
      (moves : (done : List PartyStep) (step : PartyStep) (s t : HistoryState)
      → P done (party_of_step step) s → moved valid s step ≡ Some t
      → P (done ++ step ∷ []) (party_of_step step) t) where
    abbrev Holds : List PartyStep → List HistoryState → Type 0
    Holds done states = (place : ℕ) (s : HistoryState) → slice_get states place ≡ Some s
        → P done place s

    holds_after : (done : List PartyStep) (states : List HistoryState) (step : PartyStep)
        (next : List HistoryState) → Holds done states → states_after valid states step ≡ Some next
        → Holds (done ++ step ∷ []) next
    holds_after done states step next all is place s there =
        let taken = stepped states step next is in
        elim (at_set states (party_of_step step) place taken.2.0 s
        (ap (λ (l : List HistoryState). slice_get l place) taken.2.2 ∙ there)) [
          | inl p ↦ subst (λ (x : ℕ). P (done ++ step ∷ []) x s) (sym p.0)
              (subst (P (done ++ step ∷ []) (party_of_step step)) p.1
              (moves done step taken.0 taken.2.0 (all (party_of_step step) taken.0 taken.1)
              taken.2.1))
          | inr p ↦ stays done step place s (all place s p)
        ]

    pub holds_on : (k : ℕ) (done : List PartyStep) (states : List HistoryState)
        (steps : List PartyStep) (ends : List HistoryState) → Holds done states
        → states_from valid k states steps ≡ Ok ends → Holds (done ++ steps) ends
    holds_on k done states [] ends all is =
        subst (λ (l : List PartyStep). Holds l ends) (sym (append-nil done))
        (subst (Holds done) (no_steps k states ends is) all)
    holds_on k done states (step ∷ steps) ends all is =
        let first = first_step k states step steps ends is in
        subst (λ (l : List PartyStep). Holds l ends) (append_assoc done (step ∷ []) steps)
        (holds_on (k + 1) (done ++ step ∷ []) first.0 steps ends
        (holds_after done states step first.0 all first.1) first.2)

    -- so of each state to which a history leads
    pub holds_of : (starts : List PartyStart) (steps : List PartyStep) (place : ℕ)
        (s : HistoryState) → ((place : ℕ) (start : PartyStart) → slice_get starts place ≡ Some start
        → P [] place (fresh_party start)) → LeadsTo valid starts steps place s → P steps place s
    holds_of starts steps place s begins leads =
        holds_on 0 [] (map fresh_party starts) steps leads.states (λ place s there.
        let found = map_some fresh_party (slice_get starts place) s
        (sym (slice_get-map fresh_party starts place) ∙ there) in
        subst (P [] place) found.2 (begins place found.0 found.1)) leads.allowed place s leads.there

  -- steps that follow others
  pub joined : (k : ℕ) (states : List HistoryState) (earlier : List PartyStep)
      (mid : List HistoryState) → states_from valid k states earlier ≡ Ok mid → (j : ℕ)
      × ((later : List PartyStep)
      → states_from valid k states (earlier ++ later) ≡ states_from valid j mid later)
  unfolding states_from
  joined k states [] mid is =
      (k, λ later. ap (λ l. states_from valid k l later) (no_steps k states mid is))
  joined k states (step ∷ earlier) mid is =
      let first = first_step k states step earlier mid is in
      let rest = joined (k + 1) first.0 earlier mid first.2 in (
        rest.0,
        λ later. ap (λ (o : Option (List HistoryState)). some_or k o
            >>= λ (s : List HistoryState). states_from valid (k + 1) s (earlier ++ later)) first.1
            ∙ rest.1 later,
      )

  -- a party that was there is there after more steps
  pub still_there : (k : ℕ) (states : List HistoryState) (steps : List PartyStep)
      (ends : List HistoryState) (place : ℕ) (s : HistoryState)
      → states_from valid k states steps ≡ Ok ends → slice_get states place ≡ Some s
      → (t : HistoryState) × (slice_get ends place ≡ Some t)
  still_there k states steps ends place s is there =
      let within = slice_get_within states place s there in
      let count = as_many k states steps ends is in
      (_, slice_get-get_or ends place s (omega arith))

-- the item that was set
set_there : {X : Type 0} (xs : List X) (i : ℕ) (x a : X) → slice_get xs i ≡ Some x
    → slice_get (slice_set xs i a) i ≡ Some a
set_there {X} [] i x a is = no_some x is
set_there {X} (y ∷ xs) zero x a is = refl
set_there {X} (y ∷ xs) (suc i) x a is = set_there xs i x a is

module _ (valid : Valid) where
  pub continues : (starts : List PartyStart) (steps : List PartyStep) (place : ℕ)
      (s t : HistoryState) (step : PartyStep) → LeadsTo valid starts steps place s
      → party_of_step step ≡ place → moved valid s step ≡ Some t
      → LeadsTo valid starts (steps ++ step ∷ []) place t
  unfolding states_from
  continues starts steps place s t step leads here moves =
      let next = slice_set leads.states place t in
      let far = joined valid 0 (map fresh_party starts) steps leads.states leads.allowed in
      let stepped : states_after valid leads.states step ≡ Some next
      = ap (λ (n : ℕ). option_and_then (λ (u : HistoryState). option_map
      (slice_set leads.states n) (moved valid u step)) (slice_get leads.states n)) here
      ∙ ap (option_and_then (λ (u : HistoryState). option_map (slice_set leads.states place)
      (moved valid u step))) leads.there
      ∙ ap (option_map (slice_set leads.states place)) moves in
      record {
        states = next;
        allowed = far.1 (step ∷ []) ∙ ap (λ (o : Option (List HistoryState)). some_or far.0 o
            >>= λ (s : List HistoryState). states_from valid (far.0 + 1) s []) stepped;
        there = set_there leads.states place s t leads.there;
      }

  pub begins_fresh : (starts : List PartyStart) (place : ℕ) (start : PartyStart)
      → slice_get starts place ≡ Some start → LeadsTo valid starts [] place (fresh_party start)
  unfolding states_from
  begins_fresh starts place start there = record {
    states = map fresh_party starts;
    allowed = refl;
    there = slice_get-map fresh_party starts place ∙ ap (option_map fresh_party) there;
  }
