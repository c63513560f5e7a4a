-- Tables of a store file, and their fields.
use Rattle.std.specs.Prelude.{List, [], ◌∷◌, Option, Some, None, Result, Ok, Err, if◌then◌else◌}
use Rattle.std.specs.Option.{option_and_then}
use Rattle.std.specs.Result.{result_ok}
use Rattle.byte_formats.specs.Types.{Text}
use Rattle.byte_formats.specs.Readings.{◌>>=◌, some_or}
use Rattle.tls_wire.specs.Anchors.{anchor_text}
use Rattle.toml.specs.Data.{Data, Items, no_items, item, Members, as_array, as_str, as_table}
use Rattle.toml_fields.specs.Tree.{has_only}
use Rattle.toml_fields.specs.Fields.{required_field}
use Rattle.policy_core.specs.declared.error.Key.{Key}
use Rattle.policy_core.specs.declared.error.Key.TheVariants.{Table}
use Rattle.policy_core.specs.declared.error.StoreError.{StoreError}
use Rattle.policy_core.specs.declared.error.StoreError.TheVariants.{UnknownKey, Missing, BadValue}

-- A table that has no other keys than these.
abbrev pub table_with : List Text → Data → Result Members StoreError
table_with names d =
    some_or (BadValue Table) (as_table d) >>= λ ms.
    if has_only names ms then Ok ms else Err UnknownKey

-- The field of a table: it is there, and in its form.
abbrev pub store_field : {A : Type 0} → Key → (Data → Option A) → Option Data → Result A StoreError
store_field key read d = required_field (Missing key) (BadValue key) read d

-- The text of an anchor id.
unfoldable pub id_data : Data → Option Text
id_data d = option_and_then (λ text. result_ok (anchor_text text)) (as_str d)

-- Each item, in their order: the first fault is reported.
abbrev pub each_of : {A : Type 0}
    → (Data → Result A StoreError) → Items → Result (List A) StoreError
each_of read no_items = Ok []
each_of read (item d ds) = read d >>= λ x. each_of read ds >>= λ xs. Ok (x ∷ xs)

-- The items of a list of tables; none where it is absent.
abbrev pub items_at : Option Data → Result Items StoreError
items_at None = Ok no_items
items_at (Some d) = some_or (BadValue Table) (as_array d)

abbrev pub list_at : {A : Type 0}
    → (Data → Result A StoreError) → Option Data → Result (List A) StoreError
list_at read d = items_at d >>= each_of read
