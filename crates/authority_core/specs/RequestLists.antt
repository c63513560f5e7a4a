-- A file of several requests: what a text says, or why it is none. The faults stand in the order of
-- their tests.
use Rattle.std.specs.Prelude.{ℕ, ◌+◌, List, [], ◌∷◌, codes, Option, Some, None, option_map}
use Rattle.std.specs.Prelude.{Result, Ok, Err, if◌then◌else◌}
use Rattle.std.specs.Option.{option_and_then, unwrap_or}
use Rattle.byte_formats.specs.Types.{Text}
use Rattle.byte_formats.specs.Readings.{◌>>=◌, lifted}
use Rattle.toml.specs.Data.{Data, Items, no_items, item, Members, as_array, as_table, get_member}
use Rattle.toml_fields.specs.Tree.{tree_of, has_only}
use Rattle.toml_fields.specs.Fields.{required_field}
use Rattle.authority_core.specs.Files.{request_of_tree}
use Rattle.authority_core.specs.Requests.{RequestParts}
use Rattle.authority_core.specs.declared.requests.error.RequestError.{RequestError}
use Rattle.authority_core.specs.declared.requests.error.RequestListError.{RequestListError}
use Rattle.authority_core.specs.declared.requests.error.RequestListError.TheVariants.{NotToml}
use Rattle.authority_core.specs.declared.requests.error.RequestListError.TheVariants.{UnknownKey}
use Rattle.authority_core.specs.declared.requests.error.RequestListError.TheVariants.{Missing}
use Rattle.authority_core.specs.declared.requests.error.RequestListError.TheVariants.{BadValue}
use Rattle.authority_core.specs.declared.requests.error.RequestListError.TheVariants.{OfRequest}

-- The keys of the root.
abbrev pub request_list_keys : List Text
request_list_keys = codes "request" ∷ []

-- The tables that the items are, each of them.
abbrev pub tables_in : Items → Option (List Members)
tables_in no_items = Some []
tables_in (item d ds) =
    option_and_then (λ ms. option_map (λ tables. ms ∷ tables) (tables_in ds)) (as_table d)

-- The tables of items, each of which is one.
abbrev pub member_tables : Items → List Members
member_tables ds = unwrap_or (tables_in ds) []

-- One table at least.
abbrev pub some_tables : List Members → Option (List Members)
some_tables [] = None
some_tables (ms ∷ tables) = Some (ms ∷ tables)

-- An array of tables, and at least one.
unfoldable pub tables_data : Data → Option (List Members)
tables_data d = option_and_then some_tables (option_and_then tables_in (as_array d))

-- The request of the table with this number, counted from 0: as that of a request file.
abbrev pub numbered_request : ℕ → Members → Result RequestParts RequestListError
numbered_request number ms = lifted (λ why. OfRequest why number) (request_of_tree (Some ms))

-- The requests of tables, of which the first has this number: the first fault is reported.
unfoldable pub requests_from : ℕ → List Members → Result (List RequestParts) RequestListError
requests_from number [] = Ok []
requests_from number (ms ∷ tables) =
    numbered_request number ms >>= λ r. requests_from (number + 1) tables >>= λ rs. Ok (r ∷ rs)

-- The requests that the root's members say.
unfoldable pub requests_in : Members → Result (List RequestParts) RequestListError
requests_in ms =
    required_field Missing BadValue tables_data (get_member (codes "request") ms)
    >>= requests_from 0

-- The requests that a text says.
abbrev pub requests_of_tree : Option Members → Result (List RequestParts) RequestListError
requests_of_tree None = Err NotToml
requests_of_tree (Some ms) =
    if has_only request_list_keys ms then requests_in ms else Err UnknownKey

unfoldable pub requests_of : Text → Result (List RequestParts) RequestListError
requests_of text = requests_of_tree (tree_of text)
