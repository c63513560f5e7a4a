-- Landmarks: sizes that the log had, in their order.
use Rattle.std.specs.Prelude.{ℕ, ◌-◌, ◌<◌, ◌≤◌, List, [], ◌∷◌, length, slice_index_or}

-- the size of the last landmark, 0 where there is none
abbrev pub last_mark : List ℕ → ℕ
last_mark marks = slice_index_or marks (length marks - 1) 0

-- the sizes rise strictly, the first is above `from`, and none is above `to`
abbrev pub AreRising : ℕ → ℕ → List ℕ → Type 0
AreRising from to [] = from ≤ to
AreRising from to (mark ∷ marks) = (from < mark) × AreRising mark to marks
