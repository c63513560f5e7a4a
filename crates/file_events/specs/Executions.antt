-- Executions: worlds, one after the other, each of which an event leads to.
use Rattle.std.specs.Prelude.{◌≡◌, ◌⊎◌, List, [], ◌∷◌, ◌++◌}

-- The events lead from the first world to the last one.
module _ {W Event : Type 0} (LeadsTo : Event → W → W → Type 0) where
  abbrev pub IsExecution : W → List Event → W → Type 0
  IsExecution old [] new = new ≡ old
  IsExecution old (event ∷ events) new =
      (mid : W) × (LeadsTo event old mid × IsExecution mid events new)

-- It is so of one of the events.
abbrev pub AnyEvent : {Event : Type 0} → (Event → Type 0) → List Event → Type 0
AnyEvent P [] = ⊥
AnyEvent P (event ∷ events) = P event ⊎ AnyEvent P events

-- The first list is a prefix of the second.
abbrev pub IsPrefix : {T : Type 0} → List T → List T → Type 0
IsPrefix {T} xs ys = (rest : List T) × (xs ++ rest ≡ ys)
