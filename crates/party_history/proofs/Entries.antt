-- The record of an item that a log doesn't refuse is read as that item.
use Rattle.std.proofs.Common.{◌≡◌, ℕ, ◌+◌, ◌≤◌, ◌==◌, Bool, true, false, nat_lt, length, None, Some}
use Rattle.std.proofs.Common.{option_map, refl, arith}
use Rattle.std.proofs.lemmas.Bool.{ltb-false}
use Rattle.std.specs.Prelude.{if◌then◌else◌}
use Rattle.byte_formats.specs.Types.{Text}
use Rattle.issuance_log.specs.Folds.{LogView}
use Rattle.issuance_log.specs.Records.{entry_record, item_in}
use Rattle.issuance_log.specs.Refusals.{add_refusal, append_refusal}
use Rattle.issuance_log.specs.Settings.{most_item}
use Rattle.issuance_log.specs.declared.error.LogError.TheVariants.{Append, Full, TooLarge}
use Rattle.issuance_log.proofs.Encoded.{item_again}

-- its lengths take two bytes
item_small : (v : LogView) (broken : Bool) (end : ℕ) (entry key : Text)
    → add_refusal v broken end entry key ≡ None → length entry + length key ≤ most_item
unfolding add_refusal
item_small v broken end entry key is =
    go (v.size == v.settings.limit) (nat_lt most_item (length entry + length key)) refl is
  where
    go : (full large : Bool) → nat_lt most_item (length entry + length key) ≡ large
        → (if full then Some Full else (if large then Some TooLarge
        else option_map Append (append_refusal broken end (entry_record entry key)))) ≡ None
        → length entry + length key ≤ most_item
    go true large test none = let wrong : Some Full ≡ None = none in absurd cc
    go false true test none = let wrong : Some TooLarge ≡ None = none in absurd cc
    go false false test none = ltb-false most_item (length entry + length key) test

pub item_read : (v : LogView) (broken : Bool) (end : ℕ) (entry key : Text)
    → add_refusal v broken end entry key ≡ None
    → item_in (entry_record entry key) ≡ Some (entry, key)
item_read v broken end entry key is =
    let small = item_small v broken end entry key is in
    item_again entry key (omega arith) (omega arith)
