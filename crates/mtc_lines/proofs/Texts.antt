-- The text of a command that writes it while it reads, where the model knows what it reads, and
-- where it doesn't.
use Rattle.std.proofs.Common.{◌≡◌, ◌<◌, ◌++◌, [], ◌∷◌, length, Option, None, Some, IfSome}
use Rattle.std.proofs.Common.{refl, arith, length-append, subst, sym}
use Rattle.std.specs.Io.KnownBytes.{Appends}
use Rattle.std.proofs.KnownBytes.{Appends-nil}
use Rattle.std.proofs.Math.Seq.{take-append_seam}
use Rattle.byte_formats.specs.Types.{Text}
use Rattle.mtc_io.specs.Streams.{AppendsPrefix}
use Rattle.mtc_io.proofs.Streams.{prefix_more, prefix_whole}

-- a text of which this holds, and which is this one where the model knows what is read
pub record IsTextOf {X : Type 0} (text_of : X → Text) (known : Option X) (Holds : Text → Type 0)
    : Type 0 where
  pub text : Text
  pub is : IfSome known (λ x. text ≡ text_of x)
  pub holds : Holds text

-- a prefix of a text, which isn't all of it
abbrev pub GoesShort : Option Text → Option Text → Text → Type 0
GoesShort before after text =
    (prefix : AppendsPrefix before after text) × (prefix.0 < length text)

-- the first of two texts, the second of which isn't empty
pub first_goes : (before after : Option Text) (first second : Text) → Appends before after first
    → 0 < length second → GoesShort before after (first ++ second)
first_goes before after first second gone some = (
  (
    length first,
    subst (Appends before after) (sym (take-append_seam first second)) gone,
  ),
  omega (arith, length-append first second, some),
)

-- a prefix of a text that isn't empty
abbrev pub GoesInPart : Option Text → Option Text → Text → Type 0
GoesInPart before after text = AppendsPrefix before after text × (0 < length text)

module _ {X : Type 0} (text_of : X → Text) (before after : Option Text)
    (grows : (text : Text) × Appends before after text) where
  -- all of it went out
  pub whole_text : (known : Option X) → IfSome known (λ x. Appends before after (text_of x))
      → IsTextOf text_of known (Appends before after)
  whole_text None went = record { text = grows.0; is = tt; holds = grows.1 }
  whole_text (Some x) went = record { text = text_of x; is = refl; holds = went }

  -- not all of it did
  pub short_text : (known : Option X) → IfSome known (λ x. GoesShort before after (text_of x))
      → IsTextOf text_of known (GoesShort before after)
  short_text None went = record {
    text = grows.0 ++ 0 ∷ [];
    is = tt;
    holds = first_goes before after grows.0 (0 ∷ []) grows.1 (omega arith);
  }
  short_text (Some x) went = record { text = text_of x; is = refl; holds = went }

  -- a prefix of one that isn't empty did
  pub part_text : (known : Option X) → IfSome known (λ x. GoesInPart before after (text_of x))
      → IsTextOf text_of known (GoesInPart before after)
  part_text None went = record {
    text = grows.0 ++ 0 ∷ [];
    is = tt;
    holds = (
      prefix_more before before after [] grows.0 (0 ∷ []) (Appends-nil before)
          (prefix_whole before after grows.0 grows.1),
      omega (arith, length-append grows.0 (0 ∷ [])),
    );
  }
  part_text (Some x) went = record { text = text_of x; is = refl; holds = went }
