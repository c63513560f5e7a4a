-- What holds of each state to which a history leads.
use Rattle.std.proofs.Common.{◌≡◌, ℕ, zero, suc, ◌<◌, ◌≤◌, true, List, [], ◌∷◌, ◌++◌, length}
use Rattle.std.proofs.Common.{get_or, map, Some, Ok, ap, sym, ◌∙◌, subst, arith, slice_get}
use Rattle.std.proofs.lemmas.Option.{slice_get-get_or, same_Some}
use Rattle.std.proofs.lemmas.List.Elements.{Contains-get_or}
use Rattle.std.specs.Prelude.{Contains}
use Rattle.party_history.specs.Histories.{Valid, history_of}
use Rattle.party_history.specs.Laws.{AreAtMost, HasGrown, IsOfDurable, IsSoundParty, LeadsTo}
use Rattle.party_history.specs.Laws.{RisesFrom, WerePending}
use Rattle.party_history.specs.Parties.{HistoryState, fresh_party}
use Rattle.party_history.specs.declared.start.PartyStart.{PartyStart}
use Rattle.party_history.specs.declared.step.PartyStep.{PartyStep}
use Rattle.party_history.proofs.Steps.{pending_fresh, pending_moves, pending_stays, fresh_sound}
use Rattle.party_history.proofs.Steps.{grown_on}
use Rattle.party_history.proofs.Steps.{grown_same, moved_grown, moved_sound}
use Rattle.party_history.proofs.Chains.{holds_of, holds_on, joined, still_there}

module _ (valid : Valid) where
  pub sound : ((start : PartyStart) → valid start [] ≡ true) → (starts : List PartyStart)
      (steps : List PartyStep) (place : ℕ) (s : HistoryState)
      → LeadsTo valid starts steps place s → IsSoundParty valid s
  sound base starts steps place s leads =
      holds_of valid (λ done place. IsSoundParty valid) (λ done step place s was. was)
      (λ done step s t was moves. moved_sound valid s t step was moves) starts steps place s
      (λ place start there. fresh_sound valid start (base start)) leads

  pub were_pending : (starts : List PartyStart) (steps : List PartyStep) (place : ℕ)
      (s : HistoryState) → LeadsTo valid starts steps place s → WerePending steps place s
  were_pending starts steps place s leads =
      holds_of valid WerePending pending_stays (pending_moves valid) starts steps place s
      (λ place start there. pending_fresh place start) leads

  pub began_so : (starts : List PartyStart) (steps : List PartyStep) (place : ℕ)
      (s : HistoryState) → LeadsTo valid starts steps place s
      → slice_get starts place ≡ Some s.start
  began_so starts steps place s leads =
      holds_of valid (λ done place s. slice_get starts place ≡ Some s.start)
      (λ done step place s was. was) (λ done step s t was moves.
      was ∙ ap Some (sym (moved_grown valid s t step moves).start)) starts steps place s
      (λ place start there. there) leads

  pub grown : (starts : List PartyStart) (earlier later : List PartyStep) (place : ℕ)
      (old : HistoryState) (news : List HistoryState)
      → LeadsTo valid starts earlier place old
      → history_of valid starts (earlier ++ later) ≡ Ok news
      → (new : HistoryState) × ((slice_get news place ≡ Some new) × HasGrown old new)
  grown starts earlier later place old news leads whole =
      let far = joined valid 0 (map fresh_party starts) earlier leads.states leads.allowed in
      let rest = sym (far.1 later) ∙ whole in
      let there = still_there valid far.0 leads.states later news place old rest leads.there in
      let grew = holds_on valid (λ done x s. (was : HistoryState)
      → slice_get leads.states x ≡ Some was → HasGrown was s) (λ done step x s all. all)
      (λ done step s t all moves was found. grown_on was s t (all was found)
      (moved_grown valid s t step moves)) far.0 [] leads.states later news (λ x s found was same.
      subst (HasGrown was) (same_Some was s (sym same ∙ found)) (grown_same was)) rest place
      there.0 there.1 old leads.there in
      (there.0, (there.1, grew))

-- a number among those that rise to a bound
number_in : (low high : ℕ) (ns : List ℕ) → RisesFrom low ns → AreAtMost high ns → (n : ℕ)
    → Contains ns n → (low < n) × (n ≤ high)
number_in low high [] rise few n found = absurd (omega (arith, found.1))
number_in low high (m ∷ ns) rise few n (zero, within, is) =
    let same : m ≡ n = is in (omega (arith, rise.0), omega (arith, few.0))
number_in low high (m ∷ ns) rise few n (suc k, within, is) =
    let rest = number_in m high ns rise.1 few.1 n (k, omega arith, is) in
    (omega (arith, rise.0, rest.0), rest.1)

pub released_all : (valid : Valid) (steps : List PartyStep) (place : ℕ) (s : HistoryState)
    → IsSoundParty valid s → WerePending steps place s → (number : ℕ) → Contains s.released number
    → IsOfDurable steps place s number
released_all valid steps place s sound begun number found =
    of_number number (number_in 0 (length s.durable) s.released sound.rise sound.there number found)
  where
    of_number : (n : ℕ) → (0 < n) × (n ≤ length s.durable) → IsOfDurable steps place s n
    of_number zero within = absurd (omega (arith, within.0))
    of_number (suc i) within =
        let there : i < length s.durable = omega (arith, within.1) in record {
          before = i;
          is = omega arith;
          body = get_or s.durable i [];
          durable = slice_get-get_or s.durable i [] there;
          began = begun.durable (get_or s.durable i []) (Contains-get_or s.durable i [] there);
        }
