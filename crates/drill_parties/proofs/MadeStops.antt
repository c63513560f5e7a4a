-- Stops are counted where they are made.
use Rattle.std.proofs.Common.{◌≡◌, ◌+◌, ◌<◌, ℕ, zero, suc, List, [], ◌∷◌, length, take, get_or}
use Rattle.std.proofs.Common.{Option, Some, None, cond, refl, ap, arith}
use Rattle.std.proofs.lemmas.List.Sums.{sum_by-cons}
use Rattle.std.specs.Option.{is_some}
use Rattle.drill_parties.specs.Rounds.{stops_in}
use Rattle.drill_parties.specs.declared.turns.Stop.{Stop}

-- a call that is not stopped
pub none_stopped : (turn : Option Stop) → ((s : Stop) → turn ≡ Some s → ⊥)
    → stops_in (turn ∷ []) ≡ 0
none_stopped None other = refl
none_stopped (Some s) other = absurd (other s refl)

-- a call that is
pub one_stopped : (turn : Option Stop) (s : Stop) → turn ≡ Some s → stops_in (turn ∷ []) ≡ 1
one_stopped turn s is = ap (λ (t : Option Stop). stops_in (t ∷ [])) is

-- the next call of several
pub next_stopped : (turns : List (Option Stop)) (i : ℕ) → i < length turns
    → stops_in (take (suc i) turns)
    ≡ stops_in (take i turns) + stops_in (get_or turns i None ∷ [])
next_stopped [] i below = absurd (omega (arith, below))
next_stopped (t ∷ ts) zero below = omega arith
next_stopped (None ∷ ts) (suc i) below = next_stopped ts i (omega (arith, below))
next_stopped (Some s ∷ ts) (suc i) below =
    let rest = next_stopped ts i (omega (arith, below)) in
    let all = sum_by-cons (λ (t : Option Stop). cond (is_some t) 1 0) (Some s) (take (suc i) ts) in
    let first = sum_by-cons (λ (t : Option Stop). cond (is_some t) 1 0) (Some s) (take i ts) in
    omega (arith, rest, all, first)
