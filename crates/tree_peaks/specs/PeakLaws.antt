-- What holds of the peaks of a list, for a hash function h.
use Rattle.std.specs.Prelude.{◌≡◌, ◌<◌, ◌≤◌, ◌^◌, ◌*◌, ℕ, List, [], ◌∷◌, ◌++◌, length, take, drop}
use Rattle.std.specs.Prelude.{count_ones}
use Rattle.byte_formats.specs.Types.{Hash, HashFunction}
use Rattle.tree_core.specs.Tree.{root_of}
use Rattle.tree_peaks.specs.Peaks.{ArePeaksOf, PeaksState, peaks_of, root_of_peaks, with_leaf}
use Rattle.tree_peaks.specs.Peaks.{with_leaves}

-- No leaves have no peaks. Of n leaves they are the root of the first ones, so many as the largest
-- power of two that isn't above n, and then the peaks of the rest: as many as n has ones in binary.
pub record ArePeaks (h : HashFunction) : Type 0 where
  pub none : peaks_of h [] ≡ []
  pub more : (leaves : List Hash) (e : ℕ) → 2 ^ e ≤ length leaves → length leaves < 2 * 2 ^ e
      → peaks_of h leaves ≡ root_of h (take (2 ^ e) leaves) ∷ peaks_of h (drop (2 ^ e) leaves)
  pub count : (leaves : List Hash) → length (peaks_of h leaves) ≡ count_ones (length leaves)

-- The peaks of a list give its root.
abbrev pub PeaksGiveRoot : HashFunction → Type 0
PeaksGiveRoot h = (leaves : List Hash) → root_of_peaks h (peaks_of h leaves) ≡ root_of h leaves

-- A state that takes leaves is that of the list with these leaves after its own.
pub record PeaksTakeLeaves (h : HashFunction) : Type 0 where
  pub none : ArePeaksOf h [] (record { size = 0; peaks = [] })
  pub one : (leaves : List Hash) (state : PeaksState) (leaf : Hash) → ArePeaksOf h leaves state
      → ArePeaksOf h (leaves ++ leaf ∷ []) (with_leaf h state leaf)
  pub more : (leaves : List Hash) (state : PeaksState) (others : List Hash)
      → ArePeaksOf h leaves state → ArePeaksOf h (leaves ++ others) (with_leaves h state others)
