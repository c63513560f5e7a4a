-- Parts of the code's values as contracts see them: slices as their bytes.
use denote.Ref.{Bor}
use Rattle.std.specs.Prelude.{List, map}
use Rattle.std.specs.List.Sorted.{IsSortedBy}
use Rattle.std.specs.Ordering.{nat_cmp, is_lt}
use Rattle.std.specs.Cmp.Lexicographic.{slice_cmp}
use Rattle.byte_formats.specs.Types.{Text}
use Rattle.cert_time.specs.Periods.{period}
use Rattle.cert_fields.specs.Certificate.{Parts, Body}
use Rattle.cert_fields.specs.Extensions.{ExtensionFields}
use Rattle.cert_fields.specs.declared.cert.Cert.{Cert}
use Rattle.cert_fields.specs.declared.certificate.Fields.{Fields}
use Rattle.cert_fields.specs.declared.extensions.Extension.{Extension}

-- A certificate.
abbrev pub parts : Cert → Parts
parts c = record {
  serial = c.serial;
  algorithm = c.algorithm.now;
  issuer = c.issuer.now;
  validity = period c.validity;
  validity_der = c.validity_der.now;
  subject = c.subject.now;
  spki = c.spki.now;
  extensions = c.extensions.now;
  proof = c.proof.now;
}

-- The fields after the serial number.
abbrev pub body : Fields → Body
body f = (
  f.algorithm.now,
  (
    f.issuer.now,
    (
      (f.validity_der.now, period f.validity),
      (f.subject.now, (f.spki.now, f.extensions.now)),
    ),
  ),
)

-- An extension.
abbrev pub extension_fields : Extension → ExtensionFields
extension_fields x =
    record { identifier = x.identifier.now; critical = x.critical; octets = x.octets.now }

-- The bytes of each slice.
abbrev pub texts : List (Bor Text) → List Text
texts slices = map (λ slice. slice.now) slices

-- The slices rise, byte by byte.
abbrev pub AreSorted : List (Bor Text) → Type 0
AreSorted = IsSortedBy (λ x y. is_lt (slice_cmp nat_cmp x.now y.now))
