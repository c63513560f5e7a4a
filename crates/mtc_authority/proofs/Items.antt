-- The items of a log, one after the other.
use Rattle.std.proofs.Common.{◌≡◌, ℕ, zero, suc, ◌+◌, ◌<◌, ◌++◌, [], length, slice_index_or}
use Rattle.std.proofs.Common.{Option, Some, None, IfSome, Ok, true, ap, sym, ◌∙◌, ◌≤◌}
use Rattle.std.proofs.Common.{append_assoc, arith}
use Rattle.std.specs.Int.{w16}
use Rattle.byte_formats.specs.Types.{HashFunction, Text}
use Rattle.tls_wire.specs.Encoding.{vector}
use Rattle.entry_list.specs.Items.{file_part, file_text, first_items, is_key_of}
use Rattle.entry_list.specs.Items.{later_items, listed_text}
use Rattle.entry_list.specs.Reading.{items_in}
use Rattle.entry_list.proofs.OwnKeys.{own_key, no_key}
use Rattle.entry_list.proofs.Written.{part_again}
use Rattle.issuance_log.specs.Folds.{LogState, LogView, view_in}
use Rattle.issuance_log.specs.Refusals.{item_at}
use Rattle.issuance_log.specs.Sound.{IsSound}
use Rattle.authority_core.proofs.Certificates.{item_is, items_short}
use Rattle.mtc_authority.specs.LogOutcomes.{IsItemAt, items_of}

pub is_item : (h : HashFunction) (s : LogState) (index : ℕ) (entry key : Text) → IsSound h s
    → index < length s.entries → item_at s index ≡ Ok (entry, key) → IsItemAt s index entry key
is_item h s index entry key sound below is =
    let same = item_is s index entry key below is in
    let both = items_short h s index sound below in
    record {
      entry_is = sym same.0;
      key_is = sym same.1;
      short_entry = rw same.0 at both.0;
      short_key = rw same.1 at both.1;
    }

-- if the model knows the log of the journal
pub item_modelled : (h : HashFunction) (contents : Option LogState) (v : LogView) (index : ℕ)
    (entry key : Text) → index < v.size → IfSome contents (IsSound h)
    → IfSome contents (λ s. view_in s ≡ v)
    → IfSome contents (λ s. item_at s index ≡ Ok (entry, key))
    → IfSome contents (λ s. IsItemAt s index entry key)
item_modelled h None v index entry key below sound shows item = tt
item_modelled h (Some s) v index entry key below sound shows item =
    let same : length s.entries ≡ v.size = ap (λ (u : LogView). u.size) shows in
    is_item h s index entry key sound (omega arith) item

-- ---- the file

key_at : (h : HashFunction) (s : LogState) (i : ℕ) → IsSound h s → i < length s.entries
    → is_key_of h (slice_index_or s.entries i []) (slice_index_or s.keys i []) ≡ true
key_at h s zero sound below = rw (sound.first_entry, sound.first_key) (no_key h)
key_at h s (suc i) sound below =
    let item = sound.items (suc i) (omega arith) below in
    own_key h (slice_index_or s.entries (suc i) []) (slice_index_or s.keys (suc i) []) item.belongs

-- What is printed of a log is read as its items.
pub part_printed_again : (h : HashFunction) (s : LogState) (first count : ℕ) → IsSound h s
    → first + count ≤ length s.entries
    → items_in h (file_part (items_of s) first count)
    ≡ Ok (first_items count (later_items first (items_of s)))
part_printed_again h s first count sound le =
    part_again h (items_of s) first count
    (record { even = sound.even; each = λ i below. key_at h s i sound below })
    (record {
      entries = λ i below. (items_short h s i sound below).0;
      keys = λ i below. (items_short h s i sound below).1;
    })
    le

pub printed_again : (h : HashFunction) (s : LogState) (count : ℕ) → IsSound h s
    → count ≤ length s.entries
    → items_in h (file_text (items_of s) count) ≡ Ok (first_items count (items_of s))
printed_again h s count sound le =
    let within : 0 + count ≤ length s.entries = omega arith in
    part_printed_again h s 0 count sound within

-- an item after the bytes
pub item_after : (contents : Option LogState) (index : ℕ) (entry key out mid new : Text)
    → IfSome contents (λ s. IsItemAt s index entry key) → mid ≡ out ++ vector w16 entry
    → new ≡ mid ++ vector w16 key
    → IfSome contents (λ s. new ≡ out ++ listed_text (items_of s) index)
item_after None index entry key out mid new item first second = tt
item_after (Some s) index entry key out mid new item first second =
    second
    ∙ ap (λ (t : Text). t ++ vector w16 key) first
    ∙ append_assoc out (vector w16 entry) (vector w16 key)
    ∙ ap (λ (e : Text). out ++ (vector w16 e ++ vector w16 key)) item.entry_is
    ∙ ap (λ (k : Text). out ++ (vector w16 (slice_index_or s.entries index []) ++ vector w16 k))
    item.key_is
