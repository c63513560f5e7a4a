-- The cosigners of a store file, and the rules over them.
use Rattle.std.specs.Prelude.{ℕ, ◌+◌, ◌&&◌, not, nat_le, nat_lt, List, [], ◌∷◌, length}
use Rattle.std.specs.Prelude.{codes, Option, Some, None, Result, Ok, if◌then◌else◌, option_map}
use Rattle.std.specs.List.{position}
use Rattle.std.specs.Option.{option_and_then}
use Rattle.std.specs.Str.{bytes_eq}
use Rattle.byte_formats.specs.Types.{Text}
use Rattle.byte_formats.specs.Readings.{◌>>=◌}
use Rattle.hss_core.specs.Hss.{hss_key_types}
use Rattle.toml.specs.Data.{Data, Items, no_items, item, as_array, get_member}
use Rattle.toml_fields.specs.Codes.{bytes_data, number_data}
use Rattle.policy_core.specs.declared.cosigners.Known.{Known}
use Rattle.policy_core.specs.declared.rules.Rule.{Rule}
use Rattle.policy_core.specs.declared.error.Key.TheVariants.{CosignerId, CosignerKey, Count}
use Rattle.policy_core.specs.declared.error.Key.TheVariants.{Cosigners}
use Rattle.policy_core.specs.declared.error.StoreError.{StoreError}
use Rattle.policy_core.specs.Fields.{table_with, store_field, id_data, items_at, list_at}
use Rattle.policy_core.specs.Limits.{most_cosigners}
use Rattle.policy_core.specs.Stores.{has_repeat, is_same_index}

-- ---- cosigners

-- The keys of a cosigner's table.
abbrev pub cosigner_keys : List Text
cosigner_keys = codes "id" ∷ codes "key" ∷ []

-- The id of the cosigner at this index, counted from 0; there is none after the most cosigners.
abbrev pub id_data_at : ℕ → Data → Option Text
id_data_at place d = if nat_lt place most_cosigners then id_data d else None

-- Bytes that are an HSS public key (RFC 8554, 6.1), and the text of one in base64.
unfoldable pub hss_key : Text → Option Text
hss_key bytes = option_map (λ types. bytes) (hss_key_types bytes)

unfoldable pub hss_key_data : Data → Option Text
hss_key_data d = option_and_then hss_key (bytes_data d)

-- The cosigner at this index: its table has no other keys, and the id is tested before the key.
unfoldable pub cosigner_data : ℕ → Data → Result Known StoreError
cosigner_data place d = do
  ms ← table_with cosigner_keys d
  id ← store_field CosignerId (id_data_at place) (get_member (codes "id") ms)
  key ← store_field CosignerKey hss_key_data (get_member (codes "key") ms)
  Ok (record { id = id; key = key })

-- Each cosigner from this index on: the first fault is reported.
abbrev pub cosigners_from : ℕ → Items → Result (List Known) StoreError
cosigners_from place no_items = Ok []
cosigners_from place (item d ds) =
    cosigner_data place d >>= λ k. cosigners_from (place + 1) ds >>= λ ks. Ok (k ∷ ks)

abbrev pub cosigners_at : Option Data → Result (List Known) StoreError
cosigners_at d = items_at d >>= cosigners_from 0

-- ---- rules

-- The keys of a rule's table.
abbrev pub rule_keys : List Text
rule_keys = codes "cosigners" ∷ codes "count" ∷ []

-- The index of the cosigner that a value names.
abbrev pub index_found : List Known → Text → Option ℕ
index_found known id = position (λ k. bytes_eq k.id id) known

unfoldable pub index_data : List Known → Data → Option ℕ
index_data known d = option_and_then (index_found known) (id_data d)

-- The indices that all the items name.
abbrev pub indices_among : List Known → Items → Option (List ℕ)
indices_among known no_items = Some []
indices_among known (item d ds) =
    option_and_then (λ n. option_map (λ ns. n ∷ ns) (indices_among known ds)) (index_data known d)

-- Indices of so many cosigners, none of which occurs twice.
abbrev pub if_different : ℕ → List ℕ → Option (List ℕ)
if_different known ns =
    if nat_le (length ns) known && not (has_repeat is_same_index ns) then Some ns else None

unfoldable pub indices_data : List Known → Data → Option (List ℕ)
indices_data known d =
    option_and_then (if_different (length known))
    (option_and_then (indices_among known) (as_array d))

-- A number from 1 to the most.
abbrev pub if_counts : ℕ → ℕ → Option ℕ
if_counts most n = if nat_le 1 n && nat_le n most then Some n else None

unfoldable pub count_data : ℕ → Data → Option ℕ
count_data most d = option_and_then (if_counts most) (number_data d)

-- One rule over these cosigners: its table has no other keys, and the indices are tested before the
-- count, which is no larger than their number.
unfoldable pub rule_data : List Known → Data → Result Rule StoreError
rule_data known d = do
  ms ← table_with rule_keys d
  indices ← store_field Cosigners (indices_data known) (get_member (codes "cosigners") ms)
  count ← store_field Count (count_data (length indices)) (get_member (codes "count") ms)
  Ok (record { count = count; cosigners = indices })

-- The rules of the list of tables; none where it is absent.
abbrev pub rules_at : List Known → Option Data → Result (List Rule) StoreError
rules_at known d = list_at (rule_data known) d
