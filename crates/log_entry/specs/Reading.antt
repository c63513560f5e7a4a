-- Reading an entry, with its faults in their order.
use Rattle.std.specs.Prelude.{ℕ, ◌+◌, ◌*◌, ◌==◌, Bool, [], ◌∷◌, length, Option, Some, None, Result}
use Rattle.std.specs.Prelude.{Ok, Err, if◌then◌else◌}
use Rattle.byte_formats.specs.Types.{Text, Hash}
use Rattle.byte_formats.specs.Offsets.{At, at}
use Rattle.byte_formats.specs.Readings.{Reading, ◌>>=◌, lifted, lifted_at, both_at, mapped_at}
use Rattle.byte_formats.specs.Readings.{optional_at, tested_at}
use Rattle.der_core.specs.Reading.{end_at}
use Rattle.der_core.specs.Fields.{der, contents_at}
use Rattle.der_core.specs.declared.fault.CertError.{CertError}
use Rattle.cert_time.specs.Calendar.{Period}
use Rattle.cert_fields.specs.Certificate.{version_at}
use Rattle.cert_fields.specs.Keys.{algorithm_at}
use Rattle.cert_fields.specs.Names.{name_at}
use Rattle.cert_fields.specs.Times.{validity_at}
use Rattle.cert_fields.specs.Extensions.{extensions_at}
use Rattle.log_entry.specs.Entries.{TbsParts}
use Rattle.log_entry.specs.declared.fault.EntryError.{EntryError}
use Rattle.log_entry.specs.declared.fault.EntryError.TheVariants.{Short, UnknownType, Body}
use Rattle.log_entry.specs.declared.fault.EntryError.TheVariants.{BadHashLength, NullHasBody}

-- A field of a certificate, with its faults as faults of the entry.
abbrev pub field_at : {X : Type 0} → Reading X CertError → Reading X EntryError
field_at read = lifted_at Body read

-- It has the 32 bytes of a hash.
abbrev pub has_hash_length : Hash → Bool
has_hash_length hash = length hash == 32

-- The hash of the public key: the contents of an OCTET STRING, 32 bytes.
unfoldable pub key_hash_at : Reading Hash EntryError
key_hash_at = tested_at has_hash_length BadHashLength (field_at (contents_at 0x04))

-- The algorithm of the key, where a SEQUENCE stands.
abbrev pub named_algorithm_at : Reading (Option Text) EntryError
named_algorithm_at = optional_at 0x30 (field_at algorithm_at)

-- Version, issuer, validity, subject, algorithm, hash, extensions.
abbrev pub Fields : Type 0
Fields = Unit {0} × (Text × ((Text × Period) × (Text × (Option Text × (Hash × Text)))))

-- The parts of what was read.
abbrev pub to_tbs : Fields → TbsParts
to_tbs x =
    record {
      issuer = x.1.0;
      validity = x.1.1.0.1;
      validity_der = x.1.1.0.0;
      subject = x.1.1.1.0;
      algorithm = x.1.1.1.1.0;
      key_hash = x.1.1.1.1.1.0;
      extensions = x.1.1.1.1.1.1;
    }

-- The fields, one after the other.
abbrev pub fields_at : Reading Fields EntryError
fields_at =
    both_at (field_at version_at) (both_at (field_at name_at) (both_at (field_at validity_at)
    (both_at (field_at name_at) (both_at named_algorithm_at
    (both_at key_hash_at (field_at extensions_at))))))

-- The fields after the type, and nothing after them.
unfoldable pub body_of : At → Result TbsParts EntryError
body_of a = mapped_at to_tbs fields_at a >>= λ x. lifted Body (der (end_at x.1)) >>= λ done. Ok x.0

-- The entry of type 1 whose body was read.
abbrev pub as_tbs : Result TbsParts EntryError → Result (Option TbsParts) EntryError
as_tbs (Ok p) = Ok (Some p)
as_tbs (Err e) = Err e

-- By the type: the null entry has no body, and offsets in a body count from the type on.
abbrev pub typed : ℕ → Text → Text → Result (Option TbsParts) EntryError
typed kind entry rest =
    if kind == 0 then (if length rest == 0 then Ok None else Err NullHasBody)
    else (if kind == 1 then as_tbs (body_of (at entry 2))
    else Err (UnknownType kind))

-- The entry that these bytes are: the null entry as none, one of type 1 as its parts. Or the first
-- fault.
unfoldable pub entry_in : Text → Result (Option TbsParts) EntryError
entry_in [] = Err Short
entry_in (high ∷ []) = Err Short
entry_in (high ∷ low ∷ rest) = typed (high * 256 + low) (high ∷ low ∷ rest) rest
