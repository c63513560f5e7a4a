-- Elements and contents are encoded as the bytes from which they were read, and each encoding is
-- read again.
use Rattle.std.specs.Prelude.{slice_index, flat_map, ◌≡◌, ◌≢◌, ℕ, ◌<◌, ◌≤◌, Bool, true, false, List}
use Rattle.std.specs.Prelude.{[], ◌∷◌, length, Result, Ok}
use Rattle.std.specs.List.{AllByRecursion}
use Rattle.std.specs.Ordering.{nat_cmp, is_gt}
use Rattle.std.specs.Cmp.Lexicographic.{slice_cmp}
use Rattle.byte_formats.specs.Types.{Text}
use Rattle.byte_formats.specs.Offsets.{At, IsBytes}
use Rattle.byte_formats.specs.Forms.{Stands, itself}
use Rattle.der_core.specs.Elements.{element, FitsElement}
use Rattle.der_core.specs.Items.{Item}
use Rattle.der_core.specs.Contents.{are_unused}
use Rattle.der_core.specs.Sets.{last_of}
use Rattle.der_core.specs.declared.fault.DerError.{DerError}

-- This element was read at a, and b is the position after it.
pub record IsRead (a : At) (e : Item) (b : At) : Type 0 where
  pub stands : Stands a (element e.tag e.contents) b
  pub fits : FitsElement e.tag e.contents
  pub whole : e.whole ≡ element e.tag e.contents
  pub place : e.place ≡ a.place
  pub bytes : IsBytes e.contents

-- The element with this tag and these contents, at this offset.
abbrev pub element_item : ℕ → Text → ℕ → Item
element_item tag contents place = record {
  tag = tag;
  place = place;
  whole = element tag contents;
  contents = contents;
}

-- The bytes are one element.
pub record IsElement (bytes : Text) : Type 0 where
  pub tag : ℕ
  pub contents : Text
  pub fits : FitsElement tag contents
  pub encoded : bytes ≡ element tag contents

-- A rule for contents reads exactly the encodings of its values.
pub record IsContents {X : Type 0} (encode : X → Text) (Fits : X → Type 0)
    (decode : ℕ → Text → Result X DerError) : Type 0 where
  pub takes : (place : ℕ) (contents : Text) (x : X) → IsBytes contents
      → decode place contents ≡ Ok x → (contents ≡ encode x) × Fits x
  pub again : (place : ℕ) (x : X) → Fits x → decode place (encode x) ≡ Ok x

-- The contents of a BOOLEAN (X.690, 8.2 and 11.1).
abbrev pub boolean : Bool → Text
boolean false = 0x00 ∷ []
boolean true = 0xFF ∷ []

-- Any truth value has contents.
abbrev pub FitsBoolean : Bool → Type 0
FitsBoolean b = Unit {0}

-- Bytes of which the last alone has a highest bit of 0.
abbrev pub EndsOnce : Text → Type 0
EndsOnce [] = ⊥
EndsOnce (b ∷ []) = b < 0x80
EndsOnce (b ∷ c ∷ bytes) = (0x80 ≤ b) × EndsOnce (c ∷ bytes)

-- The bytes of one subidentifier, in the fewest: the first digit in base 128 isn't 0
-- (X.690, 8.19.2).
pub record IsSubidentifier (bytes : Text) : Type 0 where
  pub ends : EndsOnce bytes
  pub fewest : slice_index bytes 0 ≢ 0x80

-- The contents of an OBJECT IDENTIFIER: subidentifiers, one after the other, at least one.
pub record IsOid (contents : Text) : Type 0 where
  pub arcs : List Text
  pub are_arcs : AllByRecursion IsSubidentifier arcs
  pub encoded : contents ≡ flat_map itself arcs
  pub some : 0 < length contents

-- The contents of a BIT STRING (8.6 and 11.2): the number of unused bits and the bytes.
abbrev pub bit_string : ℕ × Text → Text
bit_string (unused, bytes) = unused ∷ bytes

-- What has such contents: at most 7 unused bits, which are zero.
pub record IsBitString (b : ℕ × Text) : Type 0 where
  pub few : b.0 ≤ 7
  pub zero : are_unused b.0 b.1 ≡ true

-- One more element of a set: it isn't below the last one.
pub record IsRisen (seen : List Text) (bytes : Text) : Type 0 where
  pub is_element : IsElement bytes
  pub risen : is_gt (slice_cmp nat_cmp (last_of seen) bytes) ≡ false
