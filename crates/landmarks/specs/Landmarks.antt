-- The landmarks of a log (the draft on Merkle Tree Certificates, where it defines landmarks).
-- Landmarks are numbered from 0 on, each has a size of the log, and the sizes rise from 0 on. The
-- newest of them are active.
use Rattle.std.specs.Prelude.{◌≡◌, ℕ, ◌+◌, ◌-◌, ◌^◌, ◌<◌, ◌≤◌, ◌==◌, ◌||◌, nat_lt, List}
use Rattle.std.specs.Prelude.{◌∷◌, length, take, reverse, slice_index, Option, Some, None}
use Rattle.std.specs.Prelude.{option_map}
use Rattle.std.specs.Prelude.{if◌then◌else◌}
use Rattle.std.specs.List.{count_by}
use Rattle.tree_core.specs.Cover.{cover_of}
use Rattle.tree_core.specs.Laws.{IsSubtree}
use Rattle.tree_core.specs.declared.spans.Cover.{Cover}
use Rattle.tree_core.specs.declared.spans.Span.{Span}

-- The number of the newest landmark, and the sizes of the active ones and of the one before them,
-- the newest first.
pub record LandmarkList : Type 0 where
  pub last : ℕ
  pub sizes : List ℕ

-- How many are active.
abbrev pub active_count : LandmarkList → ℕ
active_count l = length l.sizes - 1

-- The size of a landmark, which is active or the one before them.
abbrev pub landmark_size : LandmarkList → ℕ → ℕ
landmark_size l number = slice_index l.sizes (l.last - number)

-- The numbers of the active landmarks.
abbrev pub active_of : LandmarkList → Span
active_of l = record { start = l.last + 1 - active_count l; end = l.last + 1 }

-- The number is one of these.
pub record IsActive (l : LandmarkList) (number : ℕ) : Type 0 where
  pub from : l.last < number + active_count l
  pub below : number ≤ l.last

-- There is one before the active ones, and the sizes rise with the numbers: they fall in the list.
-- Landmark 0 has size 0.
pub record IsLandmarks (l : LandmarkList) : Type 0 where
  pub some : 0 < length l.sizes
  pub numbered : active_count l ≤ l.last
  pub last : l.last < 2 ^ 63
  pub small : (i : ℕ) → slice_index l.sizes i < 2 ^ 63
  pub falls : (i : ℕ) → i + 1 < length l.sizes
      → slice_index l.sizes (i + 1) < slice_index l.sizes i
  pub zero : active_count l ≡ l.last → slice_index l.sizes l.last ≡ 0

-- No more are active than may be, and the log has all their entries.
pub record IsAllowed (most log_size : ℕ) (l : LandmarkList) : Type 0 where
  pub few : active_count l ≤ most
  pub within : slice_index l.sizes 0 ≤ log_size

-- ---- of a log

-- Those of a log that was marked at these sizes, at most so many of them active. Landmark 0 has
-- size 0, and landmark i that of mark i, counted from 1.
unfoldable pub landmarks_of : List ℕ → ℕ → LandmarkList
landmarks_of marks most = record {
  last = length marks;
  sizes = take (most + 1) (reverse (0 ∷ marks));
}

-- ---- what they cover

-- The subtrees of a landmark: those that cover the entries after the landmark before it.
abbrev pub subtrees_of : LandmarkList → ℕ → Cover
subtrees_of l number = cover_of (landmark_size l (number - 1)) (landmark_size l number)

-- The second subtree where there is one, and else the first.
abbrev pub or_second : Option Span → Span → Span
or_second None first = first
or_second (Some second) first = second

-- The subtree of a cover that holds the entry.
abbrev pub part_with : Cover → ℕ → Span
part_with cover index =
    if nat_lt index cover.first.end then cover.first else or_second cover.second cover.first

-- The active landmark with this number is the least of all whose size is above the index.
pub record IsLeastAbove (l : LandmarkList) (index number : ℕ) : Type 0 where
  pub active : IsActive l number
  pub above : index < landmark_size l number
  pub least : landmark_size l (number - 1) ≤ index

-- The span is a subtree that holds the entry, and ends by the size of the least landmark above it.
pub record IsCovering (l : LandmarkList) (index : ℕ) (span : Span) : Type 0 where
  pub number : ℕ
  pub least : IsLeastAbove l index number
  pub subtree : IsSubtree span.start span.end
  pub from : span.start ≤ index
  pub below : index < span.end
  pub within : span.end ≤ landmark_size l number

-- How many of the listed landmarks have a size above the index: they are the newest.
abbrev pub above_count : LandmarkList → ℕ → ℕ
above_count l index = count_by (λ size. nat_lt index size) l.sizes

-- The active landmark that is the least of all whose size is above the index. There is none where
-- no landmark's size is, or where the least such isn't active.
unfoldable pub least_of : LandmarkList → ℕ → Option ℕ
least_of l index =
    if (above_count l index == 0) || (above_count l index == length l.sizes) then None
    else Some (l.last + 1 - above_count l index)

-- Its subtree that holds the entry.
abbrev pub covering_of : LandmarkList → ℕ → Option Span
covering_of l index = option_map (λ number. part_with (subtrees_of l number) index)
    (least_of l index)
