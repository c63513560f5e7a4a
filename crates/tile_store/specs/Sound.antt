-- What a store keeps of its file, its rows and its frames.
use Rattle.std.specs.Prelude.{ℕ, List, [], ◌∷◌, ◌++◌, take}
use Rattle.std.proofs.Props.{props}
use Rattle.byte_formats.specs.Types.{Hash, HashFunction, Text}
use Rattle.frame_pool.specs.Frames.{PoolState}
use Rattle.tile_store.specs.Contents.{HoldsTiles, IsTile, stored_leaves}
use Rattle.tile_store.specs.Frames.{FramesHold}
use Rattle.tree_cache.specs.Rows.{AreFullRowsOf, AreRowsOf, IsRowOf, RowState, RowsState, first_row}
use Rattle.tree_cache.specs.Rows.{first_length, paired}

-- The leaf hashes: those in adopted tiles, and those that are retained in memory.
abbrev pub leaves_with : ℕ → RowsState → Text → List Hash
leaves_with adopted rows bytes = stored_leaves adopted bytes ++ first_row rows

-- Over a file with these bytes the rows are those of the leaf hashes, the tiles that were stored
-- are in the file, and the frames hold what is there.
pub record IsSoundOver (h : HashFunction) (adopted stored : ℕ) (rows : RowsState)
    (pool : PoolState) (bytes : Text) : Type 0 where
  pub stands : AreRowsOf h (leaves_with adopted rows bytes) rows
  pub tiles : HoldsTiles h (leaves_with adopted rows bytes) stored bytes
  pub frames : FramesHold bytes pool

-- each has one proof at most
IsRowOf-prop : (hashes : List Hash) (row : RowState) → IsProp (IsRowOf hashes row)
IsRowOf-prop hashes row = hlevel props

AreFullRowsOf-prop : (h : HashFunction) (hashes : List Hash) (rows : List RowState)
    → IsProp (AreFullRowsOf h hashes rows)
unfolding AreFullRowsOf
AreFullRowsOf-prop h hashes [] = hlevel props
AreFullRowsOf-prop h hashes (row ∷ rows) =
    hlevel (props, IsRowOf-prop hashes row, AreFullRowsOf-prop h (paired h hashes) rows)

AreRowsOf-prop : (h : HashFunction) (leaves : List Hash) (rows : RowsState)
    → IsProp (AreRowsOf h leaves rows)
AreRowsOf-prop h leaves rows =
    hlevel (
      props,
      IsRowOf-prop leaves rows.first,
      AreFullRowsOf-prop h (take (first_length rows.above) (paired h leaves)) rows.above,
    )

IsTile-prop : (h : HashFunction) (leaves : List Hash) (level place : ℕ) (tile : Text)
    → IsProp (IsTile h leaves level place tile)
IsTile-prop h leaves level place tile = hlevel props

pub IsSoundOver-prop : (h : HashFunction) (adopted stored : ℕ) (rows : RowsState)
    (pool : PoolState) (bytes : Text) → IsProp (IsSoundOver h adopted stored rows pool bytes)
IsSoundOver-prop h adopted stored rows pool bytes =
    hlevel (props, AreRowsOf-prop h (leaves_with adopted rows bytes) rows, IsTile-prop)
