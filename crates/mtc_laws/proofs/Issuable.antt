-- What a text says that is a request can be issued. It should stand in authority_core.
use Rattle.std.proofs.Common.{◌≡◌, ◌+◌, ◌≤◌, ◌==◌, Bool, true, false, List}
use Rattle.std.proofs.Common.{[], ◌∷◌, length, Option, None, Some, IfSome, Ok, Err, refl}
use Rattle.std.proofs.Common.{sym, subst, nat_le, option_map, codes, arith}
use Rattle.std.specs.Prelude.{◌≤ℤ◌, ℤ, int_lt}
use Rattle.std.specs.List.{AllByRecursion}
use Rattle.std.proofs.lemmas.Bool.{and_parts, leb-true}
use Rattle.std.proofs.lemmas.Option.{same_Some}
use Rattle.byte_formats.specs.Offsets.{IsBytes}
use Rattle.byte_formats.specs.Types.{Text}
use Rattle.byte_formats.proofs.Steps.{bind_ok, guard_ok, ok_is, pass_ok, some_or_ok}
use Rattle.byte_formats.proofs.Values.{map_some, not_zero, then_some, when_some}
use Rattle.cert_fields.specs.Keys.{is_public_key}
use Rattle.cert_fields.proofs.PublicKeys.{public_key_only}
use Rattle.cert_names.specs.Hosts.{IsHostName, is_host_name}
use Rattle.cert_time.specs.Calendar.{IsUnixTime}
use Rattle.cert_time.specs.Texts.{text_unix_time}
use Rattle.cert_time.proofs.BothWays.{text_unix_time-only}
use Rattle.toml.specs.Data.{Data, Items, no_items, item, Members, as_array, as_str, get_member}
use Rattle.toml_fields.specs.Codes.{bytes_data}
use Rattle.toml_fields.specs.Tree.{has_only, tree_of}
use Rattle.authority_core.specs.Files.{checked_request, common_name_data, few_hosts, field}
use Rattle.authority_core.specs.Files.{field_or_none, host_data, hosts_in, if_passes}
use Rattle.authority_core.specs.Files.{is_common_name, item_count, names_data, public_key_data}
use Rattle.authority_core.specs.Files.{request_in, request_keys, request_of, request_of_tree}
use Rattle.authority_core.specs.Files.{time_data}
use Rattle.authority_core.specs.Hosts.{AreHostNames}
use Rattle.authority_core.specs.Requests.{CanBeIssued, IsCommonName, RequestParts}
use Rattle.authority_core.specs.declared.requests.error.Field.{Field}
use Rattle.authority_core.specs.declared.requests.error.Field.TheVariants.{CommonName, Dns}
use Rattle.authority_core.specs.declared.requests.error.Field.TheVariants.{NotAfter, NotBefore}
use Rattle.authority_core.specs.declared.requests.error.Field.TheVariants.{PublicKey}
use Rattle.authority_core.specs.declared.requests.error.RequestError.{RequestError}
use Rattle.authority_core.specs.declared.requests.error.RequestError.TheVariants.{DatesReversed}
use Rattle.authority_core.specs.declared.requests.error.RequestError.TheVariants.{NoNames}

-- ---- fields

-- a field that has to be there is read from its value
field_read : {A : Type 0} (which : Field) (read : Data → Option A) (o : Option Data) (x : A)
    → field which read o ≡ Ok x → (d : Data) × (read d ≡ Some x)
field_read which read None x is = absurd cc
field_read which read (Some d) x is = (d, some_or_ok _ (read d) x is)

-- and one that is there, where it may be absent
field_or_none_read : {A : Type 0} (which : Field) (read : Data → Option A) (P : A → Type 0)
    → ((d : Data) (x : A) → read d ≡ Some x → P x) → (o : Option Data) (x : Option A)
    → field_or_none which read o ≡ Ok x → IfSome x P
field_or_none_read {A} which read P each None x is =
    subst (λ (y : Option A). IfSome y P) (ok_is RequestError None x is) tt
field_or_none_read {A} which read P each (Some d) x is =
    let some = map_some Some (read d) x (some_or_ok _ (option_map Some (read d)) x is) in
    subst (λ (y : Option A). IfSome y P) some.2 (each d some.0 some.1)

-- what passes a test
passed : {A : Type 0} (test : A → Bool) (x y : A) → if_passes test x ≡ Some y
    → (test y ≡ true) × (x ≡ y)
passed {A} test x y is =
    let some = when_some (test x) (Some x) y is in
    let same : x ≡ y = same_Some x y some.1 in
    (subst (λ (z : A). test z ≡ true) same some.0, same)

-- ---- values

time_is : (d : Data) (z : ℤ) → time_data d ≡ Some z → IsUnixTime z
unfolding time_data
time_is d z is =
    let text = then_some text_unix_time (as_str d) z is in
    (text_unix_time-only text.0 z text.2).0

host_is : (d : Data) (name : Text) → host_data d ≡ Some name → IsHostName name
unfolding host_data
host_is d name is =
    let text = then_some (λ text. if_passes is_host_name text) (as_str d) name is in
    record { labels = (passed is_host_name text.0 name text.2).0 }

-- as many host names as items
hosts_are : (ds : Items) (names : List Text) → hosts_in ds ≡ Some names
    → AllByRecursion IsHostName names × (length names ≡ item_count ds)
hosts_are no_items names is =
    subst (λ (l : List Text). AllByRecursion IsHostName l × (length l ≡ 0)) (same_Some [] names is)
    (tt, refl)
hosts_are (item d ds) names is =
    let one = then_some (λ (name : Text). option_map (λ (l : List Text). name ∷ l) (hosts_in ds))
    (host_data d) names is in
    let rest = map_some (λ (l : List Text). one.0 ∷ l) (hosts_in ds) names one.2 in
    let more = hosts_are ds rest.0 rest.1 in
    subst (λ (l : List Text). AllByRecursion IsHostName l × (length l ≡ item_count ds + 1)) rest.2
    ((host_is d one.0 one.1, more.0), omega (arith, more.1))

names_are : (d : Data) (names : List Text) → names_data d ≡ Some names → AreHostNames names
unfolding names_data
names_are d names is =
    let array = then_some few_hosts (as_array d) names is in
    let few = when_some (nat_le (item_count array.0) 100) (hosts_in array.0) names array.2 in
    let hosts = hosts_are array.0 names few.1 in
    let most : item_count array.0 ≤ 100 = leb-true (item_count array.0) 100 few.0 in
    record { few = omega (arith, most, hosts.1); each = hosts.0 }

common_name_is : (d : Data) (name : Text) → common_name_data d ≡ Some name → IsCommonName name
unfolding common_name_data
common_name_is d name is =
    let text = then_some (λ text. if_passes is_common_name text) (as_str d) name is in
    let test = (passed is_common_name text.0 name text.2).0 in
    let both = and_parts (nat_le 1 (length name)) (nat_le (length name) 64) test in
    (leb-true 1 (length name) both.0, leb-true (length name) 64 both.1)

key_passes : (d : Data) (key : Text) → public_key_data d ≡ Some key → is_public_key key ≡ true
unfolding public_key_data
key_passes d key is =
    let bytes = then_some (λ bytes. if_passes is_public_key bytes) (bytes_data d) key is in
    (passed is_public_key bytes.0 key bytes.2).0

-- ---- the request

in_order : (from to : ℤ) → int_lt to from ≡ false → from ≤ℤ to
in_order from to is = grind (arith, is)

-- the parts of a request passed their tests
record IsRead (r : RequestParts) : Type 0 where
  not_before : IsUnixTime r.validity.not_before
  not_after : IsUnixTime r.validity.not_after
  names : AreHostNames r.names
  common_name : IfSome r.common_name IsCommonName
  key : is_public_key r.key ≡ true

can_be : (r checked : RequestParts) → IsRead r → checked_request r ≡ Ok checked
    → IsBytes checked.key
    → CanBeIssued checked
unfolding checked_request
can_be r checked read is bytes =
    let dates = guard_ok (int_lt r.validity.not_after r.validity.not_before) DatesReversed _ checked
    is in
    let names = guard_ok (length r.names == 0) NoNames (Ok r) checked dates.1 in
    let same : r ≡ checked = ok_is RequestError r checked names.1 in
    subst CanBeIssued same (record {
      validity = record { not_before = read.not_before; not_after = read.not_after };
      dates = in_order r.validity.not_before r.validity.not_after dates.0;
      some = not_zero (length r.names) names.0;
      names = read.names;
      common_name = read.common_name;
      key = public_key_only r.key (subst (λ (x : RequestParts). IsBytes x.key) (sym same) bytes)
          read.key;
    })

can_be_in : (ms : Members) (r : RequestParts) → request_in ms ≡ Ok r → IsBytes r.key
    → CanBeIssued r
unfolding request_in
can_be_in ms r is bytes =
    let from = bind_ok (field NotBefore time_data (get_member (codes "not_before") ms)) _ r is in
    let to = bind_ok (field NotAfter time_data (get_member (codes "not_after") ms)) _ r from.2 in
    let names = bind_ok (field Dns names_data (get_member (codes "dns") ms)) _ r to.2 in
    let common = bind_ok (field_or_none CommonName common_name_data
    (get_member (codes "common_name") ms)) _ r names.2 in
    let key = bind_ok (field PublicKey public_key_data (get_member (codes "key") ms)) _ r
    common.2 in
    let not_before = field_read NotBefore time_data _ from.0 from.1 in
    let not_after = field_read NotAfter time_data _ to.0 to.1 in
    let hosts = field_read Dns names_data _ names.0 names.1 in
    let public = field_read PublicKey public_key_data _ key.0 key.1 in
    can_be (record {
      validity = record { not_before = from.0; not_after = to.0 };
      names = names.0;
      common_name = common.0;
      key = key.0;
    }) r (record {
      not_before = time_is not_before.0 from.0 not_before.1;
      not_after = time_is not_after.0 to.0 not_after.1;
      names = names_are hosts.0 names.0 hosts.1;
      common_name = field_or_none_read CommonName common_name_data IsCommonName common_name_is _
          common.0 common.1;
      key = key_passes public.0 key.0 public.1;
    }) key.2 bytes

no_request : (why : RequestError) (r : RequestParts) → Err why ≡ Ok r → ⊥
no_request why r is = cc

-- of the tree of a text
pub can_be_of : (o : Option Members) (r : RequestParts) → request_of_tree o ≡ Ok r → IsBytes r.key
    → CanBeIssued r
can_be_of None r is bytes = absurd (no_request _ r is)
can_be_of (Some ms) r is bytes =
    can_be_in ms r (pass_ok (has_only request_keys ms) (request_in ms) _ r is).1 bytes

pub can_be_issued : (text : Text) (r : RequestParts) → request_of text ≡ Ok r → IsBytes r.key
    → CanBeIssued r
unfolding request_of
can_be_issued text r is bytes = can_be_of (tree_of text) r is bytes
