-- One field at an offset of a longer input.
use Rattle.std.proofs.Common.{◌≡◌, ℕ, ◌+◌, ◌≤◌, length, drop, Ok, sym, ap, ◌∙◌, arith}
use Rattle.std.proofs.lemmas.List.{length-append, length-drop}
use Rattle.byte_formats.specs.Types.{Text}
use Rattle.byte_formats.specs.Readings.{Reading}
use Rattle.byte_formats.specs.Offsets.{At, IsBytes, at}
use Rattle.byte_formats.specs.Forms.{IsForm}
use Rattle.byte_formats.proofs.Steps.{IsBytes-drop}

-- The offset after a field lies from its own offset to the end of the input.
pub read_within : {X E : Type 0} (encode : X → Text) (Fits : X → Type 0) (Follows : Text
    → Type 0) (read : Reading X E)
    → IsForm encode Fits Follows read → (input : Text) (place : ℕ) → IsBytes input
    → place ≤ length input
    → (a : At) (x : X) (b : At) (following : ℕ) → a ≡ at input place → read a ≡ Ok (x, b)
    → following ≡ b.place
    → (place ≤ following) × (following ≤ length input)
read_within encode Fits Follows read form input place h le a x b following here e far =
    let known = form.takes (at input place) x b (IsBytes-drop place input h) (ap read (sym here)
    ∙ e) in
    let all : length (drop place input) ≡ length (encode x) + length b.rest =
    ap length known.0.parts
    ∙ length-append (encode x) b.rest in (
      omega (arith, far, known.0.place),
      omega (
        arith,
        far,
        known.0.place,
        all,
        length-drop place input,
      ),
    )
