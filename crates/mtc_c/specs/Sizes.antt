-- How long a certificate may be.
use Rattle.std.specs.Prelude.{ℕ}

-- The most bytes of a certificate that is read.
abbrev pub most_cert_bytes : ℕ
most_cert_bytes = 57344
