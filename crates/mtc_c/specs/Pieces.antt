-- What the C library writes of a certificate.
use Rattle.std.specs.Prelude.{ℕ, ◌≡◌, ◌==◌, ◌++◌, drop, length, nat_le, if◌then◌else◌}
use Rattle.std.specs.Prelude.{Option, Some, None, Result, Ok, Err}
use Rattle.std.specs.List.{slice_get}
use Rattle.byte_formats.specs.Types.{Hash, HashFunction, Text}
use Rattle.byte_formats.specs.Readings.{◌>>=◌}
use Rattle.cert_fields.specs.Certificate.{Parts, parts_of}
use Rattle.cert_fields.specs.Extensions.{dns_names_in}
use Rattle.der_core.specs.declared.fault.CertError.{CertError}
use Rattle.log_entry.specs.EntryOf.{entry_of}
use Rattle.log_entry.specs.declared.entry.Form.{Form}
use Rattle.log_entry.specs.declared.entry.Form.TheVariants.{One, Two}
use Rattle.tree_core.specs.Tree.{leaf_hash}
use Rattle.mtc_c.specs.Sizes.{most_cert_bytes}

-- Whatever is wrong with bytes that are no certificate is the status 2.
abbrev pub read_as_cert : Result Parts CertError → Result Parts ℕ
read_as_cert (Ok c) = Ok c
read_as_cert (Err why) = Err 2

-- The certificate that these bytes are; 2 where they are none, or too many.
abbrev pub cert_in : Text → Result Parts ℕ
cert_in bytes =
    if nat_le (length bytes) most_cert_bytes then read_as_cert (parts_of bytes) else Err 2

-- The SubjectPublicKeyInfo of a certificate.
abbrev pub public_key_in : Text → Result Text ℕ
public_key_in bytes = cert_in bytes >>= λ c. Ok c.spki

-- A name that isn't there is the status 4.
abbrev pub is_there : Option Text → Result Text ℕ
is_there (Some name) = Ok name
is_there None = Err 4

-- The dNSName of a certificate with this number, counted from 0; 4 where there is none.
abbrev pub name_in : Text → ℕ → Result Text ℕ
name_in bytes number =
    cert_in bytes >>= λ c. is_there (slice_get (dns_names_in c.extensions) number)

-- The form of an entry that a number names; 2 where it names none.
abbrev pub form_numbered : ℕ → Result Form ℕ
form_numbered number =
    if number == 1 then Ok One else (if number == 2 then Ok Two else Err 2)

-- The hash of its entry in the log, in the form with this number.
abbrev pub entry_hash_in : HashFunction → ℕ → Text → Result Hash ℕ
entry_hash_in h number bytes =
    cert_in bytes >>= λ c. form_numbered number >>= λ form. Ok (leaf_hash h (entry_of h form c))

-- Bytes are put at the start of a buffer, if they fit, and the rest of it stays; or the status is 9
-- and the buffer as it was.
abbrev pub put_in : Text → Text → ℕ × Text
put_in piece before = if nat_le (length piece) (length before)
    then (0, piece ++ drop (length piece) before) else (9, before)

-- What a call that writes a part of a certificate makes of the caller's buffer, of its length and
-- of the status. Where there is no such part the buffer stays, the length is 0, and the status says
-- why.
abbrev pub IsPutInBuffer : Result Text ℕ → Text → Text → ℕ → ℕ → Type 0
IsPutInBuffer (Err status) before after len result =
    (result ≡ status) × ((after ≡ before) × (len ≡ 0))
IsPutInBuffer (Ok piece) before after len result = (len ≡ length piece)
    × ((result ≡ (put_in piece before).0) × (after ≡ (put_in piece before).1))
