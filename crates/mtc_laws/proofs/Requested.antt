-- What a text says that is a list of requests: there are some, and each can be issued. It should
-- stand in authority_core.
use Rattle.std.proofs.Common.{◌≡◌, ℕ, zero, suc, ◌+◌, ◌≤◌, List, [], ◌∷◌, length, slice_get, Option}
use Rattle.std.proofs.Common.{None, Some, Ok, Err, refl, subst, codes, arith}
use Rattle.std.proofs.lemmas.Option.{same_Some}
use Rattle.byte_formats.specs.Offsets.{IsBytes}
use Rattle.byte_formats.specs.Types.{Text}
use Rattle.byte_formats.proofs.Steps.{bind_ok, lifted_ok, ok_is, pass_ok, some_or_ok}
use Rattle.byte_formats.proofs.Values.{then_some}
use Rattle.toml.specs.Data.{Data, Members, get_member}
use Rattle.toml_fields.specs.Fields.{required_field}
use Rattle.toml_fields.specs.Tree.{has_only, tree_of}
use Rattle.authority_core.specs.Files.{request_of_tree}
use Rattle.authority_core.specs.RequestLists.{numbered_request, request_list_keys, requests_from}
use Rattle.authority_core.specs.RequestLists.{requests_in, requests_of, requests_of_tree}
use Rattle.authority_core.specs.RequestLists.{some_tables, tables_data}
use Rattle.authority_core.specs.Requests.{CanBeIssued, RequestParts}
use Rattle.authority_core.specs.declared.requests.error.RequestError.{RequestError}
use Rattle.authority_core.specs.declared.requests.error.RequestListError.{RequestListError}
use Rattle.authority_core.specs.declared.requests.error.RequestListError.TheVariants.{BadValue}
use Rattle.authority_core.specs.declared.requests.error.RequestListError.TheVariants.{Missing}
use Rattle.authority_core.specs.declared.requests.error.RequestListError.TheVariants.{NotToml}
use Rattle.authority_core.specs.declared.requests.error.RequestListError.TheVariants.{OfRequest}
use Rattle.authority_core.specs.declared.requests.error.RequestListError.TheVariants.{UnknownKey}
use Rattle.mtc_laws.proofs.Issuable.{can_be_of}

-- as many as tables, and each is the request of one
record AreOfTables (tables : List Members) (requests : List RequestParts) : Type 0 where
  as_many : length requests ≡ length tables
  each : (i : ℕ) (r : RequestParts) → slice_get requests i ≡ Some r → (ms : Members)
      × (request_of_tree (Some ms) ≡ Ok r)

none_of : AreOfTables [] []
none_of = record {
  as_many = refl;
  each = λ i r there. let wrong : None ≡ Some r = there in absurd cc;
}

one_more : (ms : Members) (tables : List Members) (r : RequestParts) (rs : List RequestParts)
    → request_of_tree (Some ms) ≡ Ok r → AreOfTables tables rs → AreOfTables (ms ∷ tables) (r ∷ rs)
one_more ms tables r rs is rest = record { as_many = omega (arith, rest.as_many); each = go }
  where
    go : (i : ℕ) (x : RequestParts) → slice_get (r ∷ rs) i ≡ Some x → (m : Members)
        × (request_of_tree (Some m) ≡ Ok x)
    go zero x there = (
      ms,
      subst (λ (y : RequestParts). request_of_tree (Some ms) ≡ Ok y) (same_Some r x there) is,
    )
    go (suc i) x there = rest.each i x there

from_tables : (number : ℕ) (tables : List Members) (rs : List RequestParts)
    → requests_from number tables ≡ Ok rs → AreOfTables tables rs
unfolding requests_from
from_tables number [] rs is = subst (AreOfTables []) (ok_is RequestListError [] rs is) none_of
from_tables number (ms ∷ tables) rs is =
    let one = bind_ok (numbered_request number ms) _ rs is in
    let rest = bind_ok (requests_from (number + 1) tables)
    (λ (more : List RequestParts). Ok (one.0 ∷ more)) rs one.2 in
    subst (AreOfTables (ms ∷ tables)) (ok_is RequestListError (one.0 ∷ rest.0) rs rest.2)
    (one_more ms tables one.0 rest.0
    (lifted_ok (λ (why : RequestError). OfRequest why number) (request_of_tree (Some ms)) one.0
    one.1) (from_tables (number + 1) tables rest.0 rest.1))

-- a list of tables isn't empty
some_of : (tables all : List Members) → some_tables tables ≡ Some all → 1 ≤ length all
some_of [] all is = let wrong : None ≡ Some all = is in absurd cc
some_of (ms ∷ tables) all is =
    subst (λ (l : List Members). 1 ≤ length l) (same_Some (ms ∷ tables) all is) (omega arith)

tables_some : (d : Data) (tables : List Members) → tables_data d ≡ Some tables → 1 ≤ length tables
unfolding tables_data
tables_some d tables is =
    let all = then_some some_tables _ tables is in
    some_of all.0 tables all.2

required_some : (o : Option Data) (tables : List Members)
    → required_field Missing BadValue tables_data o ≡ Ok tables → 1 ≤ length tables
required_some None tables is = let wrong : Err Missing ≡ Ok tables = is in absurd cc
required_some (Some d) tables is =
    tables_some d tables (some_or_ok BadValue (tables_data d) tables is)

-- There is a request, and each is that of a table.
pub record AreRequests (requests : List RequestParts) : Type 0 where
  pub some : 1 ≤ length requests
  pub can_be : (i : ℕ) (r : RequestParts) → slice_get requests i ≡ Some r → IsBytes r.key
      → CanBeIssued r

in_root : (ms : Members) (rs : List RequestParts) → requests_in ms ≡ Ok rs → AreRequests rs
unfolding requests_in
in_root ms rs is =
    let tables = bind_ok
    (required_field Missing BadValue tables_data (get_member (codes "request") ms))
    (requests_from 0) rs is in
    let are = from_tables 0 tables.0 rs tables.2 in
    let many = required_some (get_member (codes "request") ms) tables.0 tables.1 in
    record {
      some = omega (arith, are.as_many, many);
      can_be = λ i r there bytes. let one = are.each i r there in
          can_be_of (Some one.0) r one.1 bytes;
    }

pub are_requests : (text : Text) (rs : List RequestParts) → requests_of text ≡ Ok rs
    → AreRequests rs
unfolding requests_of
are_requests text rs is = go (tree_of text) is
  where
    go : (o : Option Members) → requests_of_tree o ≡ Ok rs → AreRequests rs
    go None none = let wrong : Err NotToml ≡ Ok rs = none in absurd cc
    go (Some ms) some = in_root ms rs
        (pass_ok (has_only request_list_keys ms) (requests_in ms) UnknownKey rs some).1
