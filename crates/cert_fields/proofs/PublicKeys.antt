-- Public keys by their grammar.
use Rattle.std.proofs.Common.{◌≡◌, ℕ, ◌^◌, ◌<◌, true, ◌++◌, length, sym, ap, subst, ◌∙◌, lit<, refl}
use Rattle.byte_formats.specs.Types.{Text}
use Rattle.byte_formats.specs.Offsets.{IsBytes}
use Rattle.byte_formats.specs.Readings.{is_read}
use Rattle.byte_formats.specs.Forms.{Anything, FitsBoth, IsForm, both, itself}
use Rattle.byte_formats.proofs.FormLaws.{ended_form, then_form}
use Rattle.byte_formats.proofs.Steps.{read_ok}
use Rattle.der_core.specs.Fields.{all_of}
use Rattle.der_core.specs.Elements.{element}
use Rattle.der_core.specs.Forms.{bit_string}
use Rattle.cert_fields.specs.Keys.{first_part, is_public_key, key_algorithm, key_parts_at, spki_at}
use Rattle.cert_fields.specs.Grammar.{IsAlgorithm, IsBits, IsPublicKey}
use Rattle.cert_fields.proofs.FieldForms.{algorithm_form, bits_form, spki_form}
use Rattle.der_core.proofs.Fields.{tag_of}
use Rattle.der_core.proofs.FieldLaws.{all_takes, all_again, inside_form}

-- Bytes that pass as a public key are one.
pub public_key_only : (bytes : Text) → IsBytes bytes → is_public_key bytes ≡ true
    → IsPublicKey bytes
unfolding is_public_key
public_key_only bytes h e =
    let r = read_ok (all_of spki_at bytes) e in
    let known = all_takes spki_form bytes r.0 h r.1 in
    subst IsPublicKey (sym known.0) known.1

-- Each public key passes.
pub public_key_again : (bytes : Text) → IsPublicKey bytes → is_public_key bytes ≡ true
unfolding is_public_key
public_key_again bytes f = ap is_read (all_again spki_form bytes f)

-- ---- the algorithm

abbrev key_parts_text : Text × (ℕ × Text) → Text
key_parts_text = both itself (λ b. element 0x03 (bit_string b))

abbrev AreKeyParts : Text × (ℕ × Text) → Type 0
AreKeyParts x = FitsBoth IsAlgorithm IsBits x × (length (key_parts_text x) < 2 ^ 24)

key_parts_form : IsForm (λ x. element 0x30 (key_parts_text x)) AreKeyParts Anything key_parts_at
unfolding key_parts_at
key_parts_form =
    inside_form (ended_form (then_form algorithm_form bits_form) tt) 0x30
    (tag_of 0x30 (lit< tt) refl)

-- It is the first part.
pub algorithm_first : (algorithm : Text) (bits : ℕ × Text) → IsAlgorithm algorithm → IsBits bits
    → length (algorithm ++ element 0x03 (bit_string bits)) < 2 ^ 24
    → key_algorithm (element 0x30 (algorithm ++ element 0x03 (bit_string bits))) ≡ algorithm
unfolding key_algorithm
algorithm_first algorithm bits one two short =
    ap first_part (all_again key_parts_form (algorithm, bits) ((one, two), short))

-- Each public key has one.
pub algorithm_of : (bytes : Text) → IsPublicKey bytes → IsAlgorithm (key_algorithm bytes)
algorithm_of bytes is =
    let x = is.0 in
    subst IsAlgorithm (sym (ap key_algorithm is.2
    ∙ algorithm_first x.0 x.1 is.1.0.0 is.1.0.1 is.1.1)) is.1.0.0
