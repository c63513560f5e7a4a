-- One turn more.
use Rattle.std.proofs.Common.{◌≡◌, ℕ, ◌+◌, List, [], ◌∷◌, ◌++◌, Option, ap, ◌∙◌, add-one}
use Rattle.drill_parties.specs.Draws.{turn, turns, with_turn}
use Rattle.drill_parties.specs.declared.turns.Stop.{Stop}

pub next_turn : (count x y z : ℕ) (list : List (Option Stop)) (t : Option Stop)
    → (list, y) ≡ turns count x → (t, z) ≡ turn y → (list ++ t ∷ [], z) ≡ turns (count + 1) x
unfolding turns
next_turn count x y z list t before now =
    rw (add-one count)
    (ap (λ (p : Option Stop × ℕ). (list ++ p.0 ∷ [], p.1)) now ∙ ap with_turn before)
