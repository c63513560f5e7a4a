-- Signatures one after another, up to the first that doesn't read.
use Rattle.std.proofs.Common.{◌≡◌, List, [], ◌∷◌, Ok, Err, ap, lit≤}
use Rattle.std.specs.List.{flat_map, AllByRecursion}
use Rattle.std.specs.Int.{w8, w16}
use Rattle.byte_formats.specs.Offsets.{At, at, has_bytes}
use Rattle.byte_formats.specs.Left.{first_at}
use Rattle.byte_formats.proofs.Left.{Takes, less_takes, lifted_takes, tested_takes, mapped_takes}
use Rattle.byte_formats.proofs.Left.{then_takes, left_next, left_end, left_found}
use Rattle.tls_wire.proofs.Vectors.{vector_takes}
use Rattle.mtc_proof.specs.Proofs.{SigParts, signature_text, IsMtcSignature}
use Rattle.mtc_proof.specs.Reading.{of_short, id_at, to_signature, mtc_signature_at}
use Rattle.mtc_proof.specs.Reading.{signatures_left}
use Rattle.mtc_proof.specs.declared.fault.ProofError.{ProofError}
use Rattle.mtc_proof.specs.declared.fault.ProofError.TheVariants.{EmptyId}
use Rattle.mtc_proof.proofs.Forms.{signature_form}

id_takes : Takes 1 id_at
id_takes = record {
  less = λ a x b e.
      (tested_takes (lifted_takes (vector_takes w8) of_short) has_bytes (EmptyId a.place)).less a x
      b
      e;
}

-- A signature takes at least the bytes of its two lengths.
signature_takes : Takes 1 mtc_signature_at
unfolding mtc_signature_at
signature_takes = less_takes (mapped_takes (then_takes id_takes
    (lifted_takes (vector_takes w16) of_short)) to_signature) 1 (lit≤ tt)

-- One signature, and those after it.
pub signatures_next : (a : At) (x : SigParts) (b : At) → mtc_signature_at a ≡ Ok (x, b)
    → signatures_left a ≡ x ∷ signatures_left b
signatures_next = left_next signature_takes

-- No signature is left that reads.
pub signatures_end : (a : At) (fault : ProofError) → mtc_signature_at a ≡ Err fault
    → signatures_left a ≡ []
signatures_end = left_end mtc_signature_at

pub signatures_none : (a : At) → a ≡ at [] 0 → signatures_left a ≡ []
unfolding first_at
signatures_none a e = ap signatures_left e

pub signatures_found : (xs : List SigParts) → AllByRecursion IsMtcSignature xs
    → signatures_left (at (flat_map signature_text xs) 0) ≡ xs
signatures_found xs f = left_found signature_takes signature_form xs 0 f
