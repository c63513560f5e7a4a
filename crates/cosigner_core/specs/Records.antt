-- The records of a cosigner's journal: a tag of one byte, and what it says. Numbers have their
-- highest byte first.
use Rattle.std.specs.Prelude.{◌≡◌, ℕ, ◌+◌, ◌^◌, ◌<◌, ◌==◌, Bool, true, false, List, ◌++◌, length}
use Rattle.std.specs.Prelude.{Option, Some, None, IfSome, option_map, option_and_then}
use Rattle.std.specs.Prelude.{Result, Ok, Err, if◌then◌else◌}
use Rattle.std.specs.Int.{w8, w32, w64}
use Rattle.byte_formats.specs.Types.{Hash, Text}
use Rattle.byte_formats.specs.Offsets.{At, at}
use Rattle.byte_formats.specs.Forms.{optional}
use Rattle.byte_formats.specs.Readings.{Reading, both_at, lifted_at, mapped_at, whole_of}
use Rattle.lmots_core.specs.Parameters.{typecode, type_of_code}
use Rattle.lmots_core.specs.declared.parameters.OtsType.{OtsType}
use Rattle.lms_core.specs.Heights.{IsSigningHeight, lms_code}
use Rattle.lms_core.specs.declared.heights.LmsType.{LmsType}
use Rattle.lms_core.specs.declared.heights.LmsType.TheVariants.{H5, H10}
use Rattle.tls_wire.specs.Anchors.{anchor_of}
use Rattle.tls_wire.specs.Arcs.{IsAnchorId}
use Rattle.tls_wire.specs.Reading.{bytes_at, number_at, vector_at}
use Rattle.tls_wire.specs.Encoding.{AreHashes, hashes, number, vector}
use Rattle.tls_wire.specs.declared.cursor.Short.{Short}
use Rattle.tls_wire.specs.declared.fault.AnchorBytesError.{AnchorBytesError}
use Rattle.cosigner_core.specs.Reading.{hash_at, proof_at, short_fault, u64_at}
use Rattle.cosigner_core.specs.declared.fault.FormError.{FormError}
use Rattle.cosigner_core.specs.declared.settings.CosignerSettings.{CosignerSettings}
use Rattle.cosigner_core.specs.declared.step.Step.{Step}
use Rattle.cosigner_core.specs.declared.step.Step.TheVariants.{Advance, Child, Sign}

-- ---- encodings

-- the tag of a first record: 0x11 of a Cosigner, whose key has one level, and 0x15 of a Cosigner2,
-- whose key has lower trees
abbrev pub first_tag : Option LmsType → ℕ
first_tag None = 0x11
first_tag (Some low) = 0x15

-- the typecode of a tree, in four bytes
abbrev pub height_text : LmsType → Text
height_text l = number w32 (lms_code l)

-- Cosigner or Cosigner2: the tag, the ids of the cosigner and of its log, each after its length of
-- one byte, the typecodes of the tree, of the lower trees if there are any, and of the one-time
-- keys in four bytes each, and the secret of 48 bytes
unfoldable pub cosigner_record : CosignerSettings → Text → Text
cosigner_record s secret =
    number w8 (first_tag s.low) ++ (vector w8 s.id ++ (vector w8 s.log ++ (height_text s.lms
    ++ (optional height_text s.low ++ (number w32 (typecode s.ots) ++ secret)))))

-- how long the typecode of the lower trees is
abbrev pub low_length : Option LmsType → ℕ
low_length None = 0
low_length (Some low) = 4

-- how long the first record is, with these ids and heights and a secret of 48 bytes
abbrev pub first_record_length : Text → Text → Option LmsType → ℕ
first_record_length id log low = 59 + length id + length log + low_length low

-- Advance, with tag 0x12: the size in eight bytes, the root in 32, and the hashes in a vector
unfoldable pub advance_record : ℕ → Hash → List Hash → Text
advance_record size root proof = number w8 0x12 ++ (number w64 size ++ (root ++ hashes proof))

-- Sign, with tag 0x13: the number of the one-time key in four bytes, start and end in eight bytes
-- each, the hash in 32, and the hashes in a vector
unfoldable pub sign_record : ℕ → ℕ → ℕ → Hash → List Hash → Text
sign_record index start end hash proof =
    number w8 0x13 ++ (number w32 index ++ (number w64 start ++ (number w64 end
    ++ (hash ++ hashes proof))))

-- Child, with tag 0x14: the number of the lower tree and its typecode in four bytes each
unfoldable pub child_record : ℕ → LmsType → Text
child_record child low = number w8 0x14 ++ (number w32 child ++ height_text low)

-- The record of a step.
abbrev pub step_record : Step → Text
step_record (Advance size root proof) = advance_record size root proof
step_record (Sign index start end hash proof) = sign_record index start end hash proof
step_record (Child child low) = child_record child low

-- ---- read

-- the typecode of lower trees, where there are two levels
abbrev pub low_at : Bool → Reading (Option ℕ) Short
low_at false a = Ok (None, a)
low_at true a = mapped_at (λ code. Some code) (number_at w32) a

-- what a first record says after its tag: the ids, the typecodes of its trees and of its one-time
-- keys, and the secret
abbrev pub FirstFields : Type 0
FirstFields = Text × (Text × (ℕ × (Option ℕ × (ℕ × Text))))

-- what follows the tag of a Cosigner, or of a Cosigner2 where there are two levels
unfoldable pub cosigner_at : Bool → Reading FirstFields Short
cosigner_at two a =
    both_at (vector_at w8) (both_at (vector_at w8) (both_at (number_at w32)
    (both_at (low_at two) (both_at (number_at w32) (bytes_at 48))))) a

-- what follows the tag of an Advance
unfoldable pub advance_step_at : Reading (ℕ × (Hash × List Hash)) FormError
advance_step_at a = both_at u64_at (both_at hash_at proof_at) a

-- A number of four bytes: of a one-time key, of a lower tree or of a height.
abbrev pub index_at : Reading ℕ FormError
index_at = lifted_at short_fault (number_at w32)

-- what follows the tag of a Sign
unfoldable pub sign_step_at : Reading (ℕ × (ℕ × (ℕ × (Hash × List Hash)))) FormError
sign_step_at a = both_at index_at (both_at u64_at (both_at u64_at (both_at hash_at proof_at))) a

-- what follows the tag of a Child
unfoldable pub child_step_at : Reading (ℕ × ℕ) FormError
child_step_at a = both_at index_at index_at a

-- the heights of a key that signs
abbrev pub signing_type : ℕ → Option LmsType
signing_type code = if code == 5 then Some H5 else (if code == 6 then Some H10 else None)

-- the same of lower trees, if there are any
abbrev pub low_type : Option ℕ → Option (Option LmsType)
low_type None = Some None
low_type (Some code) = option_map (λ low. Some low) (signing_type code)

-- settings with these ids, where both are ids
abbrev pub with_ids : LmsType → Option LmsType → OtsType → Result Text AnchorBytesError
    → Result Text AnchorBytesError → Option CosignerSettings
with_ids lms low ots (Ok id) (Ok log) =
    Some (record { id = id; log = log; lms = lms; low = low; ots = ots })
with_ids lms low ots (Ok id) (Err fault) = None
with_ids lms low ots (Err fault) log = None

-- settings, where the codes are those of a key that signs
abbrev pub cosigner_settings_with : Text → Text → ℕ → Option ℕ → ℕ → Option CosignerSettings
cosigner_settings_with id log lms low ots =
    option_and_then (λ l. option_and_then (λ below. option_and_then
    (λ t. with_ids l below t (anchor_of id) (anchor_of log)) (type_of_code ots)) (low_type low))
    (signing_type lms)

-- settings, and the secret after them
abbrev pub founded : FirstFields → Option (CosignerSettings × Text)
founded x =
    option_map (λ s. (s, x.1.1.1.1.1))
    (cosigner_settings_with x.0 x.1.0 x.1.1.0 x.1.1.1.0 x.1.1.1.1.0)

-- by the tag of a first record; any other breaks the rules
abbrev pub first_by_tag : Result (ℕ × At) Short → Option (CosignerSettings × Text)
first_by_tag (Ok tag) =
    if tag.0 == 0x11 then option_and_then founded (whole_of (cosigner_at false tag.1))
    else (if tag.0 == 0x15 then option_and_then founded (whole_of (cosigner_at true tag.1))
    else None)
first_by_tag (Err short) = None

-- the settings and the secret in a Cosigner or a Cosigner2, which is the first record and nowhere
-- else
unfoldable pub cosigner_in : Text → Option (CosignerSettings × Text)
cosigner_in body = first_by_tag (number_at w8 (at body 0))

-- An Advance from what was read.
abbrev pub advance_of : ℕ × (Hash × List Hash) → Step
advance_of x = Advance x.0 x.1.0 x.1.1

-- A Sign from what was read.
abbrev pub sign_of : ℕ × (ℕ × (ℕ × (Hash × List Hash))) → Step
sign_of x = Sign x.0 x.1.0 x.1.1.0 x.1.1.1.0 x.1.1.1.1

-- A Child from what was read, where the typecode is that of a tree that signs.
abbrev pub child_of : ℕ × ℕ → Option Step
child_of x = option_map (λ low. Child x.0 low) (signing_type x.1)

-- by the tag of a later record; any other breaks the rules
abbrev pub step_by_tag : Result (ℕ × At) Short → Option Step
step_by_tag (Ok tag) =
    if tag.0 == 0x12 then option_map advance_of (whole_of (advance_step_at tag.1))
    else (if tag.0 == 0x13 then option_map sign_of (whole_of (sign_step_at tag.1))
    else (if tag.0 == 0x14 then option_and_then child_of (whole_of (child_step_at tag.1))
    else None))
step_by_tag (Err short) = None

-- what an Advance, a Sign or a Child says
unfoldable pub step_in : Text → Option Step
step_in body = step_by_tag (number_at w8 (at body 0))

-- ---- what can be encoded

pub record FitsAdvance (size : ℕ) (root : Hash) (proof : List Hash) : Type 0 where
  pub word : size < 2 ^ 64
  pub sized : length root ≡ 32
  pub all_hashes : AreHashes proof

pub record FitsSign (index start end : ℕ) (hash : Hash) (proof : List Hash) : Type 0 where
  pub short_word : index < 2 ^ 32
  pub start_word : start < 2 ^ 64
  pub end_word : end < 2 ^ 64
  pub sized : length hash ≡ 32
  pub all_hashes : AreHashes proof

pub record FitsChild (child : ℕ) (low : LmsType) : Type 0 where
  pub short_word : child < 2 ^ 32
  pub small : IsSigningHeight low

abbrev pub FitsStep : Step → Type 0
FitsStep (Advance size root proof) = FitsAdvance size root proof
FitsStep (Sign index start end hash proof) = FitsSign index start end hash proof
FitsStep (Child child low) = FitsChild child low

-- the settings are those of a cosigner, and the secret is one
pub record FitsCosigner (s : CosignerSettings) (secret : Text) : Type 0 where
  pub id : IsAnchorId s.id
  pub log : IsAnchorId s.log
  pub small : IsSigningHeight s.lms
  pub low : IfSome s.low IsSigningHeight
  pub sized : length secret ≡ 48
