-- The items of a drill's log, as a file of entries has them.
use Rattle.std.specs.Prelude.{◌≡◌, ◌<◌, ℕ, [], length, slice_index_or}
use Rattle.byte_formats.specs.Types.{Text}
use Rattle.entry_list.specs.Items.{ItemLists}
use Rattle.issuance_log.specs.Folds.{LogState}

-- The items of a log: its entries, and the key of each.
abbrev pub log_items : LogState → ItemLists
log_items s = record { entries = s.entries; keys = s.keys }

-- These are the entry at an index and its key, whose lengths fit in two bytes.
pub record IsListedAt (s : LogState) (index : ℕ) (entry key : Text) : Type 0 where
  pub entry_is : entry ≡ slice_index_or s.entries index []
  pub key_is : key ≡ slice_index_or s.keys index []
  pub short_entry : length entry < 65536
  pub short_key : length key < 65536
