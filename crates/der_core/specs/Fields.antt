-- Readings of the fields of a certificate, made of readings of elements.
use Rattle.std.specs.Prelude.{ℕ, Result, Ok}
use Rattle.byte_formats.specs.Types.{Text}
use Rattle.byte_formats.specs.Offsets.{at}
use Rattle.byte_formats.specs.Readings.{Reading, ◌>>=◌, lifted, discarded, some_or}
use Rattle.der_core.specs.Items.{inside}
use Rattle.der_core.specs.Reading.{element_at, wanted_at, end_at}
use Rattle.der_core.specs.Contents.{unsigned_of}
use Rattle.der_core.specs.declared.fault.DerError.{DerError}
use Rattle.der_core.specs.declared.fault.CertError.{CertError}
use Rattle.der_core.specs.declared.fault.CertError.TheVariants.{Der}

-- A fault of an element as a fault of the certificate.
abbrev pub der : {A : Type 0} → Result A DerError → Result A CertError
der r = lifted Der r

-- What is read inside an element with this tag, all of its contents.
abbrev pub inside_at : {X : Type 0} → ℕ → Reading X CertError → Reading X CertError
inside_at tag read a =
    der (wanted_at tag a) >>= λ e. read (inside e.0) >>= λ x. der (end_at x.1) >>= λ done.
    Ok (x.0, e.1)

-- The bytes of such an element, with its contents read.
abbrev pub whole_at : {X : Type 0} → ℕ → Reading X CertError → Reading Text CertError
whole_at tag read a =
    der (wanted_at tag a) >>= λ e. discarded (read (inside e.0)) >>= λ b.
    der (end_at b) >>= λ done. Ok (e.0.whole, e.1)

-- Both: the bytes of the element, and what is read inside.
abbrev pub noted_at : {X : Type 0} → ℕ → Reading X CertError → Reading (Text × X) CertError
noted_at tag read a =
    der (wanted_at tag a) >>= λ e. read (inside e.0) >>= λ x. der (end_at x.1) >>= λ done.
    Ok ((e.0.whole, x.0), e.1)

-- The value of an element with this tag, by the rule for its contents.
abbrev pub decoded_at : {X : Type 0} → ℕ → (ℕ → Text → Result X DerError) → Reading X CertError
decoded_at tag decode a =
    der (wanted_at tag a) >>= λ e. der (decode e.0.place e.0.contents) >>= λ x. Ok (x, e.1)

-- The contents of an element with this tag.
abbrev pub contents_at : ℕ → Reading Text CertError
contents_at tag a = der (wanted_at tag a) >>= λ e. Ok (e.0.contents, e.1)

-- The bytes of an element with this tag; its contents aren't read.
abbrev pub element_with_at : ℕ → Reading Text CertError
element_with_at tag a = der (wanted_at tag a) >>= λ e. Ok (e.0.whole, e.1)

-- The bytes of one element, whatever it is.
abbrev pub any_at : Reading Text CertError
any_at a = der (element_at a) >>= λ e. Ok (e.0.whole, e.1)

-- A whole number below 2 ^ 64; another one is this fault.
abbrev pub unsigned_at : CertError → Reading ℕ CertError
unsigned_at fault a =
    der (wanted_at 0x02 a) >>= λ e. der (unsigned_of e.0.place e.0.contents) >>= λ o.
    some_or fault o >>= λ n. Ok (n, e.1)

-- All of the bytes.
abbrev pub all_of : {X : Type 0} → Reading X CertError → Text → Result X CertError
all_of read bytes = read (at bytes 0) >>= λ x. der (end_at x.1) >>= λ done. Ok x.0
