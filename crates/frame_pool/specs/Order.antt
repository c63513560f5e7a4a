-- The order in which the slots of a pool were claimed.
use Rattle.std.specs.Prelude.{ℕ, ◌==◌, List, [], ◌∷◌, ◌++◌}
use Rattle.std.specs.List.{position_or_len, remove}

-- The order with this slot at its end.
abbrev pub moved_last : ℕ → List ℕ → List ℕ
moved_last slot order = remove order (position_or_len (λ at. at == slot) order) ++ slot ∷ []
