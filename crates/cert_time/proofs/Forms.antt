-- Texts that have a form.
use Rattle.std.proofs.Common.{◌≡◌, true, false, [], ◌∷◌, length, arith, refl}
use Rattle.std.proofs.lemmas.Bool.{and_parts, false_from_ne_true}
use Rattle.byte_formats.specs.Types.{Text}
use Rattle.cert_time.specs.Forms.{fits_byte, fits_form}

-- a text that has a form is as long
pub fits_form-length : (form text : Text) → fits_form form text ≡ true → length text ≡ length form
fits_form-length [] [] h = refl
fits_form-length [] (b ∷ text) h = cc
fits_form-length (f ∷ form) [] h = cc
fits_form-length (f ∷ form) (b ∷ text) h =
    omega (arith, fits_form-length form text (and_parts (fits_byte f b) (fits_form form text) h).1)

-- and one of another length doesn't have it
pub other_length : (form text : Text) → (length text ≡ length form → ⊥)
    → fits_form form text ≡ false
other_length form text h = false_from_ne_true (fits_form form text)
    (λ e. h (fits_form-length form text e))

pub ruleset lengths = (fits_form-length, other_length)
