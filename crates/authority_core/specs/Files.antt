-- The request file: what a text says, or why it is none. The faults stand in the order of their
-- tests.
use Rattle.std.specs.Prelude.{ℕ, ◌+◌, ◌&&◌, ◌==◌, nat_le, int_lt, Bool, ℤ, List, [], ◌∷◌, length}
use Rattle.std.specs.Prelude.{codes, Option, Some, None, option_map, Result, Ok, Err, if◌then◌else◌}
use Rattle.std.specs.Option.{option_and_then}
use Rattle.byte_formats.specs.Types.{Text}
use Rattle.byte_formats.specs.Readings.{◌>>=◌}
use Rattle.cert_fields.specs.Keys.{is_public_key}
use Rattle.cert_time.specs.Texts.{text_unix_time}
use Rattle.toml.specs.Data.{Data, Items, no_items, item, Members, as_array, as_str, get_member}
use Rattle.toml_fields.specs.Tree.{tree_of, has_only}
use Rattle.toml_fields.specs.Fields.{required_field, optional_field}
use Rattle.toml_fields.specs.Codes.{bytes_data}
use Rattle.cert_names.specs.Hosts.{is_host_name}
use Rattle.authority_core.specs.Requests.{RequestParts}
use Rattle.authority_core.specs.declared.requests.error.Field.{Field}
use Rattle.authority_core.specs.declared.requests.error.Field.TheVariants.{NotBefore, NotAfter, Dns}
use Rattle.authority_core.specs.declared.requests.error.Field.TheVariants.{CommonName, PublicKey}
use Rattle.authority_core.specs.declared.requests.error.RequestError.{RequestError}
use Rattle.authority_core.specs.declared.requests.error.RequestError.TheVariants.{NotToml}
use Rattle.authority_core.specs.declared.requests.error.RequestError.TheVariants.{UnknownKey}
use Rattle.authority_core.specs.declared.requests.error.RequestError.TheVariants.{Missing, BadValue}
use Rattle.authority_core.specs.declared.requests.error.RequestError.TheVariants.{DatesReversed}
use Rattle.authority_core.specs.declared.requests.error.RequestError.TheVariants.{NoNames}

-- The keys of a request.
abbrev pub request_keys : List Text
request_keys =
    codes "not_before" ∷ codes "not_after" ∷ codes "dns" ∷ codes "common_name" ∷ codes "key" ∷ []

-- A field that has to be there, and one that may be absent.
abbrev pub field : {A : Type 0} → Field → (Data → Option A) → Option Data → Result A RequestError
field which read d = required_field (Missing which) (BadValue which) read d

abbrev pub field_or_none : {A : Type 0}
    → Field → (Data → Option A) → Option Data → Result (Option A) RequestError
field_or_none which read d = optional_field (BadValue which) read d

-- What passes a test.
abbrev pub if_passes : {A : Type 0} → (A → Bool) → A → Option A
if_passes test x = if test x then Some x else None

-- A time, as a text.
unfoldable pub time_data : Data → Option ℤ
time_data d = option_and_then text_unix_time (as_str d)

-- One host name.
unfoldable pub host_data : Data → Option Text
host_data d = option_and_then (λ text. if_passes is_host_name text) (as_str d)

-- The host names that the items are, each of them.
abbrev pub hosts_in : Items → Option (List Text)
hosts_in no_items = Some []
hosts_in (item d ds) =
    option_and_then (λ name. option_map (λ names. name ∷ names) (hosts_in ds)) (host_data d)

-- How many items there are.
abbrev pub item_count : Items → ℕ
item_count no_items = 0
item_count (item d ds) = item_count ds + 1

-- An array of at most 100 host names.
abbrev pub few_hosts : Items → Option (List Text)
few_hosts ds = if nat_le (item_count ds) 100 then hosts_in ds else None

unfoldable pub names_data : Data → Option (List Text)
names_data d = option_and_then few_hosts (as_array d)

-- A text of 1 to 64 bytes.
abbrev pub is_common_name : Text → Bool
is_common_name text = nat_le 1 (length text) && nat_le (length text) 64

unfoldable pub common_name_data : Data → Option Text
common_name_data d = option_and_then (λ text. if_passes is_common_name text) (as_str d)

-- A public key, in base64.
unfoldable pub public_key_data : Data → Option Text
public_key_data d = option_and_then (λ bytes. if_passes is_public_key bytes) (bytes_data d)

-- The request as a whole.
unfoldable pub checked_request : RequestParts → Result RequestParts RequestError
checked_request r =
    if int_lt r.validity.not_after r.validity.not_before then Err DatesReversed
    else (if length r.names == 0 then Err NoNames else Ok r)

-- The request that the root's members say.
unfoldable pub request_in : Members → Result RequestParts RequestError
request_in ms = do
  not_before ← field NotBefore time_data (get_member (codes "not_before") ms)
  not_after ← field NotAfter time_data (get_member (codes "not_after") ms)
  names ← field Dns names_data (get_member (codes "dns") ms)
  common_name ← field_or_none CommonName common_name_data (get_member (codes "common_name") ms)
  key ← field PublicKey public_key_data (get_member (codes "key") ms)
  checked_request (record {
    validity = record { not_before = not_before; not_after = not_after };
    names = names;
    common_name = common_name;
    key = key;
  })

-- The request that a text says.
abbrev pub request_of_tree : Option Members → Result RequestParts RequestError
request_of_tree None = Err NotToml
request_of_tree (Some ms) = if has_only request_keys ms then request_in ms else Err UnknownKey

unfoldable pub request_of : Text → Result RequestParts RequestError
request_of text = request_of_tree (tree_of text)
