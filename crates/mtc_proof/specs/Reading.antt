-- Reading a proof, with its faults in their order.
use Rattle.std.specs.Prelude.{ℕ, ◌-◌, ◌==◌, List, length, Result, Ok, Err}
use Rattle.std.specs.Prelude.{if◌then◌else◌}
use Rattle.std.specs.Int.{Width, w8, w16, w64}
use Rattle.byte_formats.specs.Types.{Hash, Text}
use Rattle.byte_formats.specs.Offsets.{At, at, has_bytes}
use Rattle.byte_formats.specs.Readings.{Reading, ◌>>=◌, lifted_at, discarded, both_at, mapped_at}
use Rattle.byte_formats.specs.Readings.{tested_at}
use Rattle.byte_formats.specs.Lists.{up_to_end}
use Rattle.byte_formats.specs.Left.{left_at}
use Rattle.tls_wire.specs.Reading.{number_at, vector_at, hashes_at}
use Rattle.tls_wire.specs.declared.cursor.HashesError.{HashesError}
use Rattle.tls_wire.specs.declared.cursor.HashesError.TheVariants.{Short as NotFitting}
use Rattle.tls_wire.specs.declared.cursor.HashesError.TheVariants.{HashLength as NoMultiple}
use Rattle.tls_wire.specs.declared.cursor.Short.{Short as ShortForm}
use Rattle.mtc_proof.specs.Proofs.{SigParts, ProofParts}
use Rattle.mtc_proof.specs.declared.fault.ProofError.{ProofError}
use Rattle.mtc_proof.specs.declared.fault.ProofError.TheVariants.{Short, HashLength, Trailing}
use Rattle.mtc_proof.specs.declared.fault.ProofError.TheVariants.{EmptyId}

-- A form that doesn't fit, as a fault of the proof.
abbrev pub of_short : ShortForm → ProofError
of_short s = Short s.place

-- A vector that doesn't fit, or whose length is no multiple of 32, as a fault of the proof.
abbrev pub of_hashes : HashesError → ProofError
of_hashes (NotFitting s) = Short s.place
of_hashes NoMultiple = HashLength

-- A number of eight bytes.
abbrev pub word_at : Reading ℕ ProofError
word_at = lifted_at of_short (number_at w64)

-- The path: a vector of hashes.
abbrev pub path_at : Reading (List Hash) ProofError
path_at = lifted_at of_hashes hashes_at

-- A vector after a length of this width.
abbrev pub text_at : Width → Reading Text ProofError
text_at w = lifted_at of_short (vector_at w)

-- ---- signatures

-- The id of a cosigner, from 1 to 255 bytes. An id of no bytes is reported with the offset of the
-- signature.
abbrev pub id_at : Reading Text ProofError
id_at a = tested_at has_bytes (EmptyId a.place) (text_at w8) a

-- A signature from its two parts.
abbrev pub to_signature : Text × Text → SigParts
to_signature x = record { cosigner = x.0; signature = x.1 }

-- One signature: the id, and the signature after it.
unfoldable pub mtc_signature_at : Reading SigParts ProofError
mtc_signature_at = mapped_at to_signature (both_at id_at (text_at w16))

-- What is left is signatures up to the end.
abbrev pub checked_signatures : At → Result (Unit {0}) ProofError
checked_signatures a = discarded (up_to_end mtc_signature_at a) >>= λ end. Ok tt

-- The signatures from here on, up to the first that doesn't read.
abbrev pub signatures_left : At → List SigParts
signatures_left = left_at mtc_signature_at

-- ---- proofs

-- A proof from its parts.
abbrev pub to_proof : ℕ × (ℕ × (List Hash × Text)) → ProofParts
to_proof x = record { start = x.0; end = x.1.0; path = x.1.1.0; signatures = x.1.1.1 }

-- The parts, whose signatures aren't read.
unfoldable pub proof_parts_at : Reading ProofParts ProofError
proof_parts_at =
    mapped_at to_proof (both_at word_at (both_at word_at (both_at path_at (text_at w16))))

-- The offset of the signatures in the proof: they end where the parts do.
abbrev pub inside_list : ProofParts × At → At
inside_list x = record { place = x.1.place - length x.0.signatures; rest = x.0.signatures }

-- The proof that these bytes are: first its parts, then the signatures, then nothing.
unfoldable pub proof_in : Text → Result ProofParts ProofError
proof_in bytes =
    proof_parts_at (at bytes 0) >>= λ x.
    checked_signatures (inside_list x) >>= λ done.
    if length x.1.rest == 0 then Ok x.0 else Err Trailing
