-- Requests, and which can be issued (RFC 5280, sections 4.1.2.5, 4.1.2.7 and 4.2.1.6, of their
-- parts).
use Rattle.std.specs.Prelude.{◌≤◌, ◌≤ℤ◌, List, length, Option}
use Rattle.std.specs.Option.{IfSome}
use Rattle.byte_formats.specs.Types.{Text}
use Rattle.cert_fields.specs.Grammar.{IsPublicKey}
use Rattle.cert_time.specs.Calendar.{IsPeriod, Period}
use Rattle.authority_core.specs.Hosts.{AreHostNames}

-- What is asked for: the period, the host names, a common name or none, and the public key.
pub record RequestParts : Type 0 where
  pub validity : Period
  pub names : List Text
  pub common_name : Option Text
  pub key : Text

-- The length of a common name.
abbrev pub IsCommonName : Text → Type 0
IsCommonName name = (1 ≤ length name) × (length name ≤ 64)

-- The dates are times in their order, the names are 1 to 100 host names, the common name has 1 to
-- 64 bytes, and the key is one subjectPublicKeyInfo.
pub record CanBeIssued (r : RequestParts) : Type 0 where
  pub validity : IsPeriod r.validity
  pub dates : r.validity.not_before ≤ℤ r.validity.not_after
  pub some : 1 ≤ length r.names
  pub names : AreHostNames r.names
  pub common_name : IfSome r.common_name IsCommonName
  pub key : IsPublicKey r.key
