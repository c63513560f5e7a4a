-- Keys that belong to their entries, and the file of one item more.
use Rattle.std.proofs.Common.{◌≡◌, ℕ, ◌+◌, ◌++◌, [], ◌∷◌, Option, Some, None, Result, Ok, Err, true}
use Rattle.std.proofs.Common.{refl, ap, ◌∙◌, arith}
use Rattle.std.specs.Prelude.{map, ◌&&◌}
use Rattle.std.specs.List.{concat, range_with_len}
use Rattle.std.proofs.lemmas.List.{append-nil}
use Rattle.std.proofs.lemmas.List.Folds.{concat-append}
use Rattle.std.proofs.lemmas.List.FromFn.{map-range_with_len_more}
use Rattle.byte_formats.specs.Types.{HashFunction, Text}
use Rattle.cert_fields.specs.Keys.{is_public_key}
use Rattle.log_entry.specs.Entries.{TbsParts}
use Rattle.log_entry.specs.Matching.{holds, matches}
use Rattle.log_entry.specs.Reading.{entry_in}
use Rattle.log_entry.specs.declared.fault.EntryError.{EntryError}
use Rattle.entry_list.specs.Items.{ItemLists, file_part, file_text, has_key}
use Rattle.entry_list.specs.Items.{is_key_of, listed_text}

-- One item more in the file.
pub part_more : (items : ItemLists) (first count : ℕ)
    → file_part items first (count + 1)
    ≡ file_part items first count ++ listed_text items (first + count)
part_more items first count =
    let before = map (listed_text items) (range_with_len first count) in
    let last = listed_text items (first + count) in
    ap concat (map-range_with_len_more (listed_text items) first count (first + count) refl)
    ∙ concat-append before (last ∷ [])
    ∙ ap (λ text. concat before ++ text) (append-nil last)

pub items_more : (items : ItemLists) (count : ℕ)
    → file_text items (count + 1) ≡ file_text items count ++ listed_text items count
items_more items count =
    let here : 0 + count ≡ count = omega arith in
    part_more items 0 count ∙ ap (λ n. file_text items count ++ listed_text items n) here

has_hash : (h : HashFunction) (key : Text) (read : Result (Option TbsParts) EntryError)
    → (holds h key read && is_public_key key) ≡ true → has_key read ≡ true
has_hash h key (Ok (Some p)) is = refl
has_hash h key (Ok None) is = absurd cc
has_hash h key (Err e) is = absurd cc

-- A key that matches an entry is its key.
pub own_key : (h : HashFunction) (entry key : Text) → matches h entry key ≡ true
    → is_key_of h entry key ≡ true
unfolding is_key_of matches
own_key h entry key is = rw (has_hash h key (entry_in entry) is) is

-- The null entry has no key.
pub no_key : (h : HashFunction) → is_key_of h (0 ∷ 0 ∷ []) [] ≡ true
unfolding is_key_of entry_in
no_key h = refl
