-- A signature after signatures that stand one after the other.
use Rattle.std.proofs.Common.{[], ◌∷◌, ◌++◌, ◌∙◌, ap}
use Rattle.std.proofs.lemmas.List.{flat_map_more}
use Rattle.std.proofs.lemmas.List.Elements.{All-append, All-from_recursion, recursion_from_All}
use Rattle.byte_formats.specs.Types.{Text}
use Rattle.mtc_proof.specs.Proofs.{AreSignatures, IsMtcSignature, SigParts, signature_text}

pub signatures_more : (bytes : Text) (s : SigParts) → AreSignatures bytes → IsMtcSignature s
    → AreSignatures (bytes ++ signature_text s)
signatures_more bytes s those this = record {
  list = those.list ++ s ∷ [];
  each = recursion_from_All IsMtcSignature (those.list ++ s ∷ [])
      (All-append IsMtcSignature those.list (s ∷ [])
      (All-from_recursion IsMtcSignature those.list those.each)
      (All-from_recursion IsMtcSignature (s ∷ []) (this, tt)));
  encoded = ap (λ (t : Text). t ++ signature_text s) those.encoded
      ∙ flat_map_more signature_text [] those.list s;
}
