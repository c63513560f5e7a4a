-- The hashes of the full subtrees of a list of leaf hashes, in rows from the leaves up.
use Rattle.std.specs.Prelude.{◌≡◌, ℕ, zero, suc, ◌+◌, ◌-◌, ◌*◌, ◌<◌, ◌≤◌, ◌/◌, ◌%◌, ◌^◌, ◌⊎◌}
use Rattle.std.specs.Prelude.{List, [], ◌∷◌, ◌++◌, length, take, drop, min, max}
use Rattle.std.specs.Prelude.{slice_index_or}
use Rattle.std.specs.List.{All}
use Rattle.byte_formats.specs.Types.{Hash, HashFunction}
use Rattle.tree_core.specs.Tree.{pair_hash}

-- How many hashes are gone from the start of a row, those after them, and how many more need no
-- memory.
pub record RowState : Type 0 where
  pub gone : ℕ
  pub kept : List Hash
  pub spare : ℕ

-- How many hashes a row has, with those that are gone.
abbrev pub row_count : RowState → ℕ
row_count row = row.gone + length row.kept

-- The hashes of the pairs of a row, but for a last one that has no sibling.
unfoldable pub paired : HashFunction → List Hash → List Hash
paired h [] = []
paired h (x ∷ []) = []
paired h (x ∷ y ∷ rest) = pair_hash h x y ∷ paired h rest

-- A row has these hashes, but for an even number at their start.
pub record IsRowOf (hashes : List Hash) (row : RowState) : Type 0 where
  pub kept : row.kept ≡ drop row.gone hashes
  pub within : row.gone ≤ length hashes
  pub even : row.gone % 2 ≡ 0

-- The first of these rows is that of these hashes, and each row that of the pairs of the one below
-- it. No hash is left where the rows end.
unfoldable pub AreFullRowsOf : HashFunction → List Hash → List RowState → Type 0
AreFullRowsOf h hashes [] = hashes ≡ []
AreFullRowsOf h hashes (row ∷ rows) = IsRowOf hashes row × AreFullRowsOf h (paired h hashes) rows

-- A row has so many hashes, of which an even number is gone.
pub record IsLong (count : ℕ) (row : RowState) : Type 0 where
  pub all : row_count row ≡ count
  pub even : row.gone % 2 ≡ 0

-- The first of these rows has so many hashes, and each row half as many as the one below it.
unfoldable pub AreLong : ℕ → List RowState → Type 0
AreLong count [] = count ≡ 0
AreLong count (row ∷ rows) = IsLong count row × AreLong (count / 2) rows

-- The rows have some number of hashes below 2^64, with those that are gone.
pub record HaveCount (rows : List RowState) : Type 0 where
  pub count : ℕ
  pub few : count < 2 ^ 64
  pub long : AreLong count rows

-- The rows can have so many hashes, and the nodes above them, without more memory.
unfoldable pub HoldUpTo : ℕ → List RowState → Type 0
HoldUpTo capacity [] = capacity ≡ 0
HoldUpTo capacity (row ∷ rows) =
    (capacity ≤ row_count row + row.spare) × HoldUpTo (capacity / 2) rows

-- The rows are those of some hashes, and one hash more needs no memory.
pub record HaveCapacity (rows : List RowState) : Type 0 where
  pub count : ℕ
  pub capacity : ℕ
  pub long : AreLong count rows
  pub holds : HoldUpTo capacity rows
  pub below : count < capacity

-- How many hashes are gone from the start of a level of some rows.
unfoldable pub gone_in : List RowState → ℕ → ℕ
gone_in [] level = 0
gone_in (row ∷ rows) zero = row.gone
gone_in (row ∷ rows) (suc level) = gone_in rows level

-- One hash follows those of the first of these rows, and above it each node of which it is the last
-- part. The capacity stays.
pub record HavePushed (h : HashFunction) (hash : Hash) (old new : List RowState) : Type 0 where
  pub pushed : (hashes : List Hash) → AreFullRowsOf h hashes old
      → AreFullRowsOf h (hashes ++ hash ∷ []) new
  pub long : (count : ℕ) → AreLong count old → AreLong (count + 1) new
  pub gone : (level : ℕ) → gone_in new level ≡ gone_in old level
  pub holds : (capacity : ℕ) → HoldUpTo capacity old → HoldUpTo capacity new

-- The nodes over the pairs of a row are made, from one of these on up to another. The capacity
-- stays.
pub record ArePairsFilled (h : HashFunction) (row : RowState) (from to : ℕ)
    (old new : List RowState) : Type 0 where
  pub filled : (hashes : List Hash) → IsRowOf hashes row
      → AreFullRowsOf h (take from (paired h hashes)) old
      → AreFullRowsOf h (take to (paired h hashes)) new
  pub long : AreLong to new
  pub gone : (level : ℕ) → gone_in new level ≡ gone_in old level
  pub holds : (capacity : ℕ) → HoldUpTo capacity old → HoldUpTo capacity new

-- The rows are those of so many hashes, and up to so many need no memory.
pub record CanReach (from to : ℕ) (rows : List RowState) : Type 0 where
  pub capacity : ℕ
  pub long : AreLong from rows
  pub holds : HoldUpTo capacity rows
  pub within : to ≤ capacity

-- How many hashes the first of some rows has, with those that are gone.
abbrev pub first_length : List RowState → ℕ
first_length [] = 0
first_length (row ∷ rows) = row_count row

-- A row has no hash, and none is gone.
pub record IsEmpty (row : RowState) : Type 0 where
  pub kept : row.kept ≡ []
  pub gone : row.gone ≡ 0

-- No row has a hash.
abbrev pub HaveNone : List RowState → Type 0
HaveNone rows = All IsEmpty rows

-- There are no rows yet, or one for each level above the leaves that a list of fewer than 2^64
-- leaves can have.
abbrev pub HaveLevels : List RowState → Type 0
HaveLevels rows = (length rows ≡ 0) ⊎ (length rows ≡ 63)

-- These rows are as before, but for their capacity, which is no less.
pub record NodesHaveGrown (old new : List RowState) : Type 0 where
  pub count : first_length new ≡ first_length old
  pub gone : (level : ℕ) → gone_in new level ≡ gone_in old level
  pub same : (h : HashFunction) (hashes : List Hash) → AreFullRowsOf h hashes old
      → AreFullRowsOf h hashes new
  pub long : (count : ℕ) → AreLong count old → AreLong count new
  pub kept : (capacity : ℕ) → HoldUpTo capacity old → HoldUpTo capacity new

-- The row of the leaf hashes, the rows of the nodes above them, and how many leaves these can have
-- without more memory. The nodes are made over the first leaves alone.
pub record RowsState : Type 0 where
  pub first : RowState
  pub above : List RowState
  pub capacity : ℕ

-- The rows are those of these leaf hashes: the first row has all of them, and the others are those
-- of the first of their pairs.
pub record AreRowsOf (h : HashFunction) (leaves : List Hash) (r : RowsState) : Type 0 where
  pub first : IsRowOf leaves r.first
  pub above : AreFullRowsOf h (take (first_length r.above) (paired h leaves)) r.above

-- The leaf hashes that are retained: all of them, where none is gone.
abbrev pub first_row : RowsState → List Hash
first_row r = r.first.kept

-- How many leaves there are.
abbrev pub count_of : RowsState → ℕ
count_of r = row_count r.first

-- The nodes over the first so many leaves are made. A last one of these without a sibling needs
-- none.
abbrev pub filled_of : RowsState → ℕ
filled_of r = min (count_of r) (2 * first_length r.above + 1)

-- The same once the nodes over the first `size` leaves are made too: those over their pairs, and no
-- others.
abbrev pub filled_to : ℕ → RowsState → ℕ
filled_to size r = max (filled_of r) (min (count_of r) (2 * (size / 2) + 1))

-- How many hashes are gone from the start of a level.
unfoldable pub gone_at : RowsState → ℕ → ℕ
gone_at r zero = r.first.gone
gone_at r (suc level) = gone_in r.above level

-- The rows from the leaves up.
abbrev pub levels_of : RowsState → List RowState
levels_of r = r.first ∷ r.above

-- The row is that of a level.
pub record IsRowAt (r : RowsState) (level : ℕ) (row : RowState) : Type 0 where
  pub inside : level < length (levels_of r)
  pub is : row ≡ slice_index_or (levels_of r) level row

-- No hash is gone.
abbrev pub AreWhole : RowsState → Type 0
AreWhole r = (level : ℕ) → gone_at r level ≡ 0

-- The rows are those of these leaves with all their nodes, and no hash of theirs is gone.
pub record AreAllOf (h : HashFunction) (leaves : List Hash) (r : RowsState) : Type 0 where
  pub rows_of : AreRowsOf h leaves r
  pub whole : AreWhole r
  pub filled : filled_of r ≡ count_of r

-- The rows above the leaves are those of the first pairs, the first of which are gone where the
-- leaves below them are, and all hold up to so many leaves.
pub record AreSound (r : RowsState) : Type 0 where
  pub levels : HaveLevels r.above
  pub even : r.first.gone % 2 ≡ 0
  pub long : AreLong (first_length r.above) r.above
  pub made : 2 * first_length r.above ≤ count_of r
  pub following : r.first.gone ≤ 2 * first_length r.above
  pub leaves : r.capacity ≤ count_of r + r.first.spare
  pub nodes : HoldUpTo (r.capacity / 2) r.above
  pub within : count_of r ≤ r.capacity

-- The rows are as before, but for their capacity, which is no less.
pub record HaveGrown (old new : RowsState) : Type 0 where
  pub first : first_row new ≡ first_row old
  pub count : count_of new ≡ count_of old
  pub filled : filled_of new ≡ filled_of old
  pub gone : (level : ℕ) → gone_at new level ≡ gone_at old level
  pub same : (h : HashFunction) (leaves : List Hash) → AreRowsOf h leaves old
      → AreRowsOf h leaves new

-- The rows are as before, but for nodes over more of the leaves.
pub record HaveFilled (h : HashFunction) (old new : RowsState) : Type 0 where
  pub first : first_row new ≡ first_row old
  pub count : count_of new ≡ count_of old
  pub capacity : new.capacity ≡ old.capacity
  pub gone : (level : ℕ) → gone_at new level ≡ gone_at old level
  pub same : (leaves : List Hash) → AreRowsOf h leaves old → AreRowsOf h leaves new
  pub more : filled_of old ≤ filled_of new

-- So many leaves more need no memory.
abbrev pub spare_of : RowsState → ℕ
spare_of r = r.capacity - count_of r
