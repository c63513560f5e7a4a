-- Reading a request, with its faults in their order.
use Rattle.std.specs.Prelude.{ℕ, ◌==◌, List, length, Result, Ok, Err, if◌then◌else◌}
use Rattle.std.specs.Int.{w8, w64}
use Rattle.byte_formats.specs.Types.{Hash, Text}
use Rattle.byte_formats.specs.Offsets.{at, has_bytes}
use Rattle.byte_formats.specs.Readings.{Reading, both_at, lifted_at, mapped_at, tested_at, ◌>>=◌}
use Rattle.tls_wire.specs.declared.cursor.HashesError.{HashesError}
use Rattle.tls_wire.specs.declared.cursor.HashesError.TheVariants.{HashLength as NoMultiple}
use Rattle.tls_wire.specs.declared.cursor.HashesError.TheVariants.{Short as NotFitting}
use Rattle.tls_wire.specs.declared.cursor.Short.{Short as ShortForm}
use Rattle.tls_wire.specs.Reading.{bytes_at, hashes_at, number_at, vector_at}
use Rattle.cosigner_core.specs.declared.fault.FormError.{FormError}
use Rattle.cosigner_core.specs.declared.fault.FormError.TheVariants.{EmptyId, HashLength, Short}
use Rattle.cosigner_core.specs.declared.fault.FormError.TheVariants.{Trailing}
use Rattle.cosigner_core.specs.Requests.{AdvanceParts, SubtreeParts}

-- A form that doesn't fit, as a fault of the request.
abbrev pub short_fault : ShortForm → FormError
short_fault s = Short s.place

abbrev pub hashes_fault : HashesError → FormError
hashes_fault (NotFitting s) = Short s.place
hashes_fault NoMultiple = HashLength

-- The hashes of a proof.
abbrev pub proof_at : Reading (List Hash) FormError
proof_at = lifted_at hashes_fault hashes_at

-- The id of a log, from 1 to 255 bytes.
abbrev pub log_id_at : Reading Text FormError
log_id_at = tested_at has_bytes EmptyId (lifted_at short_fault (vector_at w8))

-- A number of eight bytes.
abbrev pub u64_at : Reading ℕ FormError
u64_at = lifted_at short_fault (number_at w64)

-- A hash.
abbrev pub hash_at : Reading Hash FormError
hash_at = lifted_at short_fault (bytes_at 32)

-- A request to hold a larger log from what was read.
abbrev pub to_advance : Text × (ℕ × (Hash × List Hash)) → AdvanceParts
to_advance x = record { log = x.0; size = x.1.0; root = x.1.1.0; proof = x.1.1.1 }

-- Such a request.
unfoldable pub advance_at : Reading AdvanceParts FormError
advance_at = mapped_at to_advance (both_at log_id_at (both_at u64_at (both_at hash_at proof_at)))

-- A request to sign a subtree from what was read.
abbrev pub to_subtree : Text × (ℕ × (ℕ × (Hash × List Hash))) → SubtreeParts
to_subtree x = record {
  log = x.0;
  start = x.1.0;
  end = x.1.1.0;
  hash = x.1.1.1.0;
  proof = x.1.1.1.1;
}

-- Such a request.
unfoldable pub subtree_at : Reading SubtreeParts FormError
subtree_at =
    mapped_at to_subtree
    (both_at log_id_at (both_at u64_at (both_at u64_at (both_at hash_at proof_at))))

-- All of the bytes, and nothing after them.
abbrev pub whole_in : {X : Type 0} → Reading X FormError → Text → Result X FormError
whole_in read bytes =
    read (at bytes 0) >>= λ x. if length x.1.rest == 0 then Ok x.0 else Err Trailing

-- The request that these bytes are.
unfoldable pub advance_in : Text → Result AdvanceParts FormError
advance_in bytes = whole_in advance_at bytes

unfoldable pub subtree_in : Text → Result SubtreeParts FormError
subtree_in bytes = whole_in subtree_at bytes
