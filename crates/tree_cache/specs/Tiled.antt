-- The nodes that stand in full tiles.
use Rattle.std.specs.Prelude.{◌≡◌, ℕ, ◌+◌, ◌-◌, ◌*◌, ◌/◌, ◌%◌, ◌^◌, ◌≤◌, List, [], ◌∷◌, drop}
use Rattle.tree_cache.specs.Rows.{RowState, row_count}

-- How many nodes of a level stand in the tiles that the first `size` leaves fill. A tile has 256
-- hashes of every eighth level, and so 2^(8 - level % 8) nodes of the levels from there up to the
-- next.
abbrev pub gone_of : ℕ → ℕ → ℕ
gone_of size level = size / 256 ^ (level / 8 + 1) * 2 ^ (8 - level % 8)

-- A row can let hashes go until so many are gone.
pub record CanForget (gone : ℕ) (row : RowState) : Type 0 where
  pub before : row.gone ≤ gone
  pub within : gone ≤ row_count row

-- Each row, from this level on, can let those go that stand in full tiles.
unfoldable pub CanForgetAll : ℕ → ℕ → List RowState → Type 0
CanForgetAll size level [] = Unit {0}
CanForgetAll size level (row ∷ rows) =
    CanForget (gone_of size level) row × CanForgetAll size (level + 1) rows

-- So many hashes are gone from the start of a row, and those after them are as they were.
pub record HasForgotten (gone : ℕ) (old new : RowState) : Type 0 where
  pub gone_is : new.gone ≡ gone
  pub kept : new.kept ≡ drop (gone - old.gone) old.kept
  pub spare : old.spare ≤ new.spare
