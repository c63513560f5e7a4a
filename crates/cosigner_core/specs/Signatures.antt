-- The signature of a cosigner (RFC 8554, section 6.2).
use Rattle.std.specs.Prelude.{◌≡◌, ℕ, ◌++◌, ◌/◌, ◌^◌, Some}
use Rattle.std.specs.Int.{w32, to_be_bytes}
use Rattle.byte_formats.specs.Types.{Hash, Text}
use Rattle.hss_keys.specs.Keys.{key_signature, lower_key, upper_part}
use Rattle.lms_core.specs.Heights.{height}
use Rattle.lms_core.specs.Trees.{lms_public, lms_signature}
use Rattle.lms_core.specs.declared.heights.LmsType.{LmsType}
use Rattle.lms_core.specs.declared.private_key.PrivateKey.{PrivateKey}
use Rattle.mtc_proof.specs.Inputs.{signed_text}
use Rattle.cosigner_core.specs.Folds.{CosignerState}

-- the signature of a subtree of its log, by the next one-time key
abbrev pub signature_by : CosignerState → ℕ → ℕ → Hash → Text
signature_by s start end hash =
    key_signature s.key.key s.key.next (signed_text s.id s.log start end hash)

-- what the upper tree of a key says of lower tree c: its signature of the public key of that tree,
-- by its one-time key c, and that public key
abbrev pub tree_signature : PrivateKey → LmsType → ℕ → Text
tree_signature top low c =
    let public = lms_public (lower_key top low c) in
    to_be_bytes w32 1 ++ lms_signature top c public ++ public

-- What a signature of a cosigner of two levels has of the upper tree is what that says of the lower
-- tree of the one-time key, whatever is signed: so upper one-time key c signs nothing but the
-- public key of lower tree c.
abbrev pub SignsInItsTree : CosignerState → LmsType → Type 0
SignsInItsTree s low = s.key.key.low ≡ Some low → (start end : ℕ) (hash : Hash)
    → upper_part s.key.key.top (signature_by s start end hash)
    ≡ tree_signature s.key.key.top low (s.key.next / 2 ^ height low)
