-- How long the parts of a certificate that is written are at most.
use Rattle.std.proofs.Common.{◌+◌, ◌^◌, ◌<◌, ◌≤◌, ◌∷◌, ◌++◌, length, arith, inl, inr}
use Rattle.std.specs.Prelude.{ℤ}
use Rattle.std.proofs.lemmas.List.{length-append}
use Rattle.byte_formats.specs.Types.{Text}
use Rattle.der_core.specs.Elements.{element}
use Rattle.der_core.specs.Integers.{integer}
use Rattle.der_core.proofs.Elements.{element-short}
use Rattle.der_core.proofs.Integers.{length-integer}
use Rattle.cert_time.specs.Calendar.{Period}
use Rattle.cert_time.specs.Periods.{period}
use Rattle.cert_time.specs.Times.{time_tag, time_contents, short_element, validity_element}
use Rattle.cert_time.proofs.BothWays.{time_shape}
use Rattle.cert_fields.specs.Certificate.{Parts}
use Rattle.cert_fields.specs.Encoding.{version, tbs_fields, certificate_fields}
use Rattle.cert_fields.specs.Given.{mtc_proof, given, size_of}
use Rattle.cert_fields.specs.declared.parts.CertParts.{CertParts}

pub time-short : (z : ℤ) → length (time_contents z) ≤ 15
time-short z = elim (time_shape z) [ inl s ↦ omega (arith, s.1) | inr s ↦ omega (arith, s.1) ]

validity-short : (p : Period) → length (validity_element p) ≤ 36
unfolding validity_element
validity-short p =
    let from : Text = short_element (time_tag p.not_before) (time_contents p.not_before) in
    let to : Text = short_element (time_tag p.not_after) (time_contents p.not_after) in
    omega (arith, length-append from to, time-short p.not_before, time-short p.not_after)

tbs-size : (p : Parts) → p.serial < 2 ^ 64
    → length (tbs_fields p) ≤ 19 + length p.algorithm + length p.issuer + length
    p.validity_der + length p.subject + length p.spki + length p.extensions
tbs-size p small =
    let number = element-short 0x02 (integer p.serial) in
    omega (
      arith,
      number,
      length-integer p.serial small,
      length-append version (element 0x02 (integer p.serial)
          ++ (p.algorithm ++ (p.issuer ++ (p.validity_der
          ++ (p.subject ++ (p.spki ++ p.extensions)))))),
      length-append (element 0x02 (integer p.serial)) (p.algorithm
          ++ (p.issuer ++ (p.validity_der ++ (p.subject ++ (p.spki ++ p.extensions))))),
      length-append p.algorithm (p.issuer
          ++ (p.validity_der ++ (p.subject ++ (p.spki ++ p.extensions)))),
      length-append p.issuer (p.validity_der ++ (p.subject ++ (p.spki ++ p.extensions))),
      length-append p.validity_der (p.subject ++ (p.spki ++ p.extensions)),
      length-append p.subject (p.spki ++ p.extensions),
      length-append p.spki p.extensions,
    )

-- The contents of what is signed, of the signature and of the whole are short enough.
pub record AreShort (p : Parts) : Type 0 where
  pub signed : length (tbs_fields p) < 2 ^ 24
  pub signature : length (0 ∷ p.proof) < 2 ^ 24
  pub whole : length (certificate_fields p) < 2 ^ 24

pub given-short : (p : CertParts) → p.serial < 2 ^ 64 → size_of p ≤ 16000000 → AreShort (given p)
given-short p small le =
    let q : Parts = given p in
    let signed : length (tbs_fields q)
    ≤ 69 + length p.issuer + length p.subject + length p.spki + length p.extensions =
    omega (arith, tbs-size q small, validity-short (period p.validity)) in
    let whole = length-append (element 0x30 (tbs_fields q) ++ mtc_proof)
    (element 0x03 (0 ∷ p.proof)) in
    let prefix = length-append (element 0x30 (tbs_fields q)) mtc_proof in
    record {
      signed = omega (arith, signed, le);
      signature = omega (arith, le);
      whole = omega (
        arith,
        signed,
        le,
        whole,
        prefix,
        element-short 0x30 (tbs_fields q),
        element-short 0x03 (0 ∷ p.proof),
      );
    }
