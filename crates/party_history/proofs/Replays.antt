-- The steps of a history, taken one by one.
use Rattle.std.proofs.Common.{◌≡◌, ℕ, ◌+◌, ◌<◌, ◌≤◌, Bool, true, false, List, ◌∷◌, length, drop}
use Rattle.std.proofs.Common.{get_or, Option, Some, None, Result, Ok, Err, ap, sym, ◌∙◌}
use Rattle.std.proofs.lemmas.List.{drop_all, drop_more}
use Rattle.byte_formats.specs.Readings.{◌>>=◌, some_or}
use Rattle.party_history.specs.Histories.{Valid, states_after, states_from}
use Rattle.party_history.specs.Parties.{HistoryState}
use Rattle.party_history.specs.Results.{HasMoved}
use Rattle.party_history.specs.declared.step.PartyStep.{PartyStep}

-- the steps from an index on
steps_at : (steps : List PartyStep) (i : ℕ) (step : PartyStep) → i < length steps
    → step ≡ get_or steps i step → drop i steps ≡ step ∷ drop (i + 1) steps
steps_at steps i step there is =
    drop_more steps i step there ∙ ap (λ (s : PartyStep). s ∷ drop (i + 1) steps) (sym is)

-- what was answered of a step
pub was_taken : {S : Type 0} (wanted : Option S) (new : S) (b : Bool) → HasMoved wanted new b
    → b ≡ true → wanted ≡ Some new
was_taken {S} wanted new true moved is = moved
was_taken {S} wanted new false moved is = let wrong : false ≡ true = is in absurd cc

pub was_none : {S : Type 0} (wanted : Option S) (new : S) (b : Bool) → HasMoved wanted new b
    → b ≡ false → wanted ≡ None
was_none {S} wanted new false moved is = moved
was_none {S} wanted new true moved is = let wrong : true ≡ false = is in absurd cc

module _ (valid : Valid) (wanted : Result (List HistoryState) ℕ) (k : ℕ)
    (states : List HistoryState) (steps : List PartyStep) (i : ℕ)
    (so_far : states_from valid k states (drop i steps) ≡ wanted) where
  module _ (step : PartyStep) (there : i < length steps) (is : step ≡ get_or steps i step) where
    taken : (o : Option (List HistoryState)) → states_after valid states step ≡ o
        → (some_or k o >>= λ s. states_from valid (k + 1) s (drop (i + 1) steps)) ≡ wanted
    unfolding states_from
    taken o moves =
        ap (λ (o : Option (List HistoryState)). some_or k o
        >>= λ (s : List HistoryState). states_from valid (k + 1) s (drop (i + 1) steps))
        (sym moves)
        ∙ ap (states_from valid k states) (sym (steps_at steps i step there is)) ∙ so_far

    -- the steps from an index on lead from here where they do from before this step
    pub one_step : (next : List HistoryState) → states_after valid states step ≡ Some next
        → states_from valid (k + 1) next (drop (i + 1) steps) ≡ wanted
    one_step next = taken (Some next)

    pub no_step : states_after valid states step ≡ None → wanted ≡ Err k
    no_step moves = sym (taken None moves)

  pub all_taken : length steps ≤ i → wanted ≡ Ok states
  unfolding states_from
  all_taken past = sym so_far ∙ ap (states_from valid k states) (drop_all i steps past)
