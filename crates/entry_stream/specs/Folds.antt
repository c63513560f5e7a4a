-- What is known of the items that a fold took.
use Rattle.std.specs.Prelude.{◌≡◌, ℕ, [], length, map, slice_index_or}
use Rattle.byte_formats.specs.Types.{HashFunction, Text}
use Rattle.entry_list.specs.Items.{ItemLists}
use Rattle.tree_core.specs.Path.{part_of}
use Rattle.tree_core.specs.Tree.{leaf_hash}
use Rattle.tree_peaks.specs.Peaks.{ArePeaksOf, PeaksState}

-- A part of a list: where it begins and ends, how many items were taken, and the peaks of the part.
pub record RangeState : Type 0 where
  pub start : ℕ
  pub end : ℕ
  pub items : ℕ
  pub peaks : PeaksState

-- These items were taken, and the peaks are those of the part as far as it is there.
pub record IsRangeOf (h : HashFunction) (r : RangeState) (items : ItemLists) : Type 0 where
  pub count : r.items ≡ length items.entries
  pub peaks : ArePeaksOf h (map (leaf_hash h) (part_of items.entries r.start r.end)) r.peaks

-- The item at an index, how many items were taken: no bytes where none has that index.
pub record PickState : Type 0 where
  pub index : ℕ
  pub items : ℕ
  pub entry : Text
  pub spki : Text

-- These items were taken, and the entry and the key are those at the index.
pub record IsPickOf (p : PickState) (items : ItemLists) : Type 0 where
  pub count : p.items ≡ length items.entries
  pub even : length items.keys ≡ length items.entries
  pub entry : p.entry ≡ slice_index_or items.entries p.index []
  pub spki : p.spki ≡ slice_index_or items.keys p.index []
