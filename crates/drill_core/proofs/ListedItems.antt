-- The items of a log, one after the other.
use Rattle.std.proofs.Common.{◌≡◌, ℕ, zero, suc, ◌<◌, ◌≤◌, List, [], length, slice_index_or, take}
use Rattle.std.proofs.Common.{Ok, true, ap, sym, ◌∙◌, arith}
use Rattle.std.proofs.Math.Seq.{take-length}
use Rattle.byte_formats.specs.Types.{HashFunction, Text}
use Rattle.entry_list.specs.Items.{file_text, first_items, is_key_of}
use Rattle.entry_list.specs.Reading.{items_in}
use Rattle.entry_list.proofs.OwnKeys.{own_key, no_key}
use Rattle.entry_list.proofs.Written.{items_again}
use Rattle.issuance_log.specs.Folds.{LogState}
use Rattle.issuance_log.specs.Refusals.{item_at}
use Rattle.issuance_log.specs.Sound.{IsSound}
use Rattle.authority_core.proofs.Certificates.{item_is, items_short}
use Rattle.drill_core.specs.Listed.{IsListedAt, log_items}

pub is_item : (h : HashFunction) (s : LogState) (index : ℕ) (entry key : Text) → IsSound h s
    → index < length s.entries → item_at s index ≡ Ok (entry, key) → IsListedAt s index entry key
is_item h s index entry key sound below is =
    let same = item_is s index entry key below is in
    let both = items_short h s index sound below in
    record {
      entry_is = sym same.0;
      key_is = sym same.1;
      short_entry = rw same.0 at both.0;
      short_key = rw same.1 at both.1;
    }

-- ---- the file

key_at : (h : HashFunction) (s : LogState) (i : ℕ) → IsSound h s → i < length s.entries
    → is_key_of h (slice_index_or s.entries i []) (slice_index_or s.keys i []) ≡ true
key_at h s zero sound below = rw (sound.first_entry, sound.first_key) (no_key h)
key_at h s (suc i) sound below =
    let item = sound.items (suc i) (omega arith) below in
    own_key h (slice_index_or s.entries (suc i) []) (slice_index_or s.keys (suc i) []) item.belongs

-- The file of the first items of a log is read as these.
pub listed_again : (h : HashFunction) (s : LogState) (count : ℕ) → IsSound h s
    → count ≤ length s.entries
    → items_in h (file_text (log_items s) count) ≡ Ok (first_items count (log_items s))
listed_again h s count sound le =
    items_again h (log_items s) count
    (record { even = sound.even; each = λ i below. key_at h s i sound below })
    (record {
      entries = λ i below. (items_short h s i sound below).0;
      keys = λ i below. (items_short h s i sound below).1;
    })
    le

-- The file of all items of a log is read as them.
pub listed_whole : (h : HashFunction) (s : LogState) → IsSound h s
    → items_in h (file_text (log_items s) (length s.entries)) ≡ Ok (log_items s)
listed_whole h s sound =
    let keys : take (length s.entries) s.keys ≡ s.keys =
    ap (λ (n : ℕ). take n s.keys) (sym sound.even) ∙ take-length s.keys in
    listed_again h s (length s.entries) sound (omega arith)
    ∙ ap (λ (entries : List Text). Ok (record {
      entries = entries;
      keys = take (length s.entries) s.keys;
    })) (take-length s.entries)
    ∙ ap (λ (list : List Text). Ok (record { entries = s.entries; keys = list })) keys
