-- How long the parts of an entry that is issued are at most.
use Rattle.std.proofs.Common.{◌≡◌, ℕ, ◌*◌, ◌≤◌, Bool, true, false, List, [], ◌∷◌, ◌++◌, length}
use Rattle.std.proofs.Common.{arith, append-nil}
use Rattle.std.specs.List.{flat_map, AllByRecursion}
use Rattle.std.proofs.lemmas.List.{length-append}
use Rattle.der_core.specs.Elements.{element}
use Rattle.der_core.proofs.Elements.{element-short}
use Rattle.cert_fields.specs.Extensions.{ExtensionFields}
use Rattle.cert_fields.specs.Grammar.{mark, extension, extension_contents}
use Rattle.authority_core.specs.Hosts.{AreHostNames}
use Rattle.cert_names.specs.Hosts.{IsHostName}
use Rattle.authority_core.specs.Requests.{CanBeIssued, RequestParts}
use Rattle.authority_core.specs.Issuing.{dns_names, alt_name_of}
use Rattle.authority_core.proofs.Labels.{host-short}

-- One extension alone.
pub sole : (x : ExtensionFields) → flat_map extension (x ∷ []) ≡ extension x
sole x = append-nil (extension x)

pub names-size : (names : List (List ℕ)) → AllByRecursion IsHostName names
    → length (dns_names names) ≤ 258 * length names
names-size [] hosts = omega arith
names-size (name ∷ names) hosts =
    omega (
      arith,
      names-size names hosts.1,
      host-short name hosts.0,
      element-short 130 name,
      length-append (element 130 name) (dns_names names),
    )

pub names-short : (names : List (List ℕ)) → AreHostNames names
    → length (dns_names names) ≤ 25800
names-short names hosts = omega (arith, names-size names hosts.each, hosts.few)

pub octets-short : (names : List (List ℕ)) → AreHostNames names
    → length (element 48 (dns_names names)) ≤ 25805
octets-short names hosts = omega (
  arith,
  names-short names hosts,
  element-short 48 (dns_names names),
)

mark-short : (critical : Bool) → length (mark critical) ≤ 3
mark-short true = omega arith
mark-short false = omega arith

pub contents-short : (r : RequestParts) → CanBeIssued r
    → length (extension_contents (alt_name_of r)) ≤ 26000
contents-short r f =
    let x : ExtensionFields = alt_name_of r in
    let octets = octets-short r.names f.names in
    omega (
      arith,
      octets,
      length-append (element 6 x.identifier) (mark x.critical ++ element 4 x.octets),
      length-append (mark x.critical) (element 4 x.octets),
      element-short 6 x.identifier,
      mark-short x.critical,
      element-short 4 x.octets,
    )

pub extension-short : (r : RequestParts) → CanBeIssued r
    → length (extension (alt_name_of r)) ≤ 26010
extension-short r f = omega (
  arith,
  contents-short r f,
  element-short 48 (extension_contents (alt_name_of r)),
)

pub sequence-short : (r : RequestParts) → CanBeIssued r
    → length (element 48 (extension (alt_name_of r))) ≤ 26020
sequence-short r f = omega (
  arith,
  extension-short r f,
  element-short 48 (extension (alt_name_of r)),
)
