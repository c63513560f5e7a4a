-- Validity (RFC 5280, section 4.1.2.5).
use Rattle.std.specs.Prelude.{ℕ, ℤ, Ok, if◌then◌else◌}
use Rattle.byte_formats.specs.Types.{Text}
use Rattle.byte_formats.specs.Offsets.{begins_with}
use Rattle.byte_formats.specs.Readings.{◌>>=◌, both_at, mapped_at, some_or, Reading}
use Rattle.der_core.specs.Reading.{wanted_at}
use Rattle.der_core.specs.Fields.{der, noted_at}
use Rattle.der_core.specs.declared.fault.CertError.{CertError}
use Rattle.der_core.specs.declared.fault.CertError.TheVariants.{BadTime}
use Rattle.cert_time.specs.Calendar.{Period}
use Rattle.cert_time.specs.Times.{unix_time_in}

-- The tag that a time here has to have: GeneralizedTime where its tag stands, else UTCTime.
abbrev pub tag_wanted : Text → ℕ
tag_wanted rest = if begins_with 0x18 rest then 0x18 else 0x17

-- Time: the time that its contents name.
unfoldable pub time_at : Reading ℤ CertError
time_at a =
    der (wanted_at (tag_wanted a.rest) a) >>= λ e.
    some_or BadTime (unix_time_in (tag_wanted a.rest) e.0.contents) >>= λ z. Ok (z, e.1)

-- A validity from its two times.
abbrev pub from_to : ℤ × ℤ → Period
from_to v = record { not_before = v.0; not_after = v.1 }

-- Validity: a SEQUENCE of two times, with the bytes that encode it.
unfoldable pub validity_at : Reading (Text × Period) CertError
validity_at = noted_at 0x30 (mapped_at from_to (both_at time_at time_at))
