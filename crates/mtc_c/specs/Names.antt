-- The words of refusals and of the fields of a store, by the numbers of the C library: those that
-- `mtc verify` prints.
use Rattle.std.specs.Prelude.{ℕ, ◌==◌, nat_lt, List, [], ◌∷◌, Result, Ok, Err, codes}
use Rattle.std.specs.Prelude.{if◌then◌else◌}
use Rattle.byte_formats.specs.Types.{Text}

-- The word of a number in a table; no bytes where the table has none.
abbrev pub word_in : List (ℕ × Text) → ℕ → Text
word_in [] number = []
word_in (row ∷ rows) number = if number == row.0 then row.1 else word_in rows number

-- The fields of a store file.
abbrev pub field_words : List (ℕ × Text)
field_words = (0, codes "LogId") ∷ (1, codes "CosignerId") ∷ (2, codes "CosignerKey")
    ∷ (3, codes "Count") ∷ (4, codes "Cosigners") ∷ (5, codes "Start") ∷ (6, codes "End")
    ∷ (7, codes "Hash") ∷ (8, codes "Table") ∷ (9, codes "AlgorithmFrom") ∷ []

-- Why a text is no store file.
abbrev pub store_words : List (ℕ × Text)
store_words = (1, codes "NotToml") ∷ (2, codes "UnknownKey") ∷ (3, codes "Missing")
    ∷ (4, codes "BadValue") ∷ (5, codes "RepeatedId") ∷ (6, codes "RepeatedSubtree")
    ∷ (7, codes "BadRange") ∷ []

-- Why bytes are no certificate: a fault of an element, or one of the whole; or they aren't read.
abbrev pub cert_words : List (ℕ × Text)
cert_words = (16, codes "Truncated") ∷ (17, codes "LongForm") ∷ (18, codes "HighTag")
    ∷ (19, codes "WrongTag") ∷ (20, codes "BadInteger") ∷ (21, codes "BadBool")
    ∷ (22, codes "BadOid") ∷ (23, codes "BadBits") ∷ (24, codes "SetOrder")
    ∷ (25, codes "Trailing") ∷ (32, codes "BadVersion") ∷ (33, codes "BadSerial")
    ∷ (34, codes "BadTime") ∷ (35, codes "AlgorithmsDiffer") ∷ (36, codes "RepeatedExtension")
    ∷ (37, codes "UniqueId") ∷ (38, codes "BadExtension") ∷ (39, codes "BadName")
    ∷ (40, codes "TooLong") ∷ []

-- Why the bytes of a signature are no proof, and why a certificate is refused.
abbrev pub judgement_words : List (ℕ × Text)
judgement_words = (48, codes "Short") ∷ (49, codes "HashLength") ∷ (50, codes "Trailing")
    ∷ (51, codes "EmptyId") ∷ (64, codes "Algorithm") ∷ (65, codes "UnknownLog")
    ∷ (66, codes "NotYet") ∷ (67, codes "Expired") ∷ (68, codes "UnknownCritical")
    ∷ (69, codes "Revoked") ∷ (70, codes "ProofShape BadSubtree")
    ∷ (71, codes "ProofShape Outside") ∷ (72, codes "ProofShape WrongLength")
    ∷ (73, codes "LandmarkDiffers") ∷ (74, codes "TooFewCosigners") ∷ []

-- The word of a refusal; no bytes where the number is that of none.
abbrev pub refusal_word : ℕ → Text
refusal_word number = if nat_lt number 16 then word_in store_words number
    else (if nat_lt number 48 then word_in cert_words number
    else word_in judgement_words number)

-- A word that isn't there is the status 4.
abbrev pub word_there : Text → Result Text ℕ
word_there [] = Err 4
word_there (code ∷ codes) = Ok (code ∷ codes)

-- The word of a refusal; 4 where the number is that of none.
abbrev pub refusal_name : ℕ → Result Text ℕ
refusal_name number = word_there (refusal_word number)

-- The word of a field; 4 where the number is that of none.
abbrev pub field_name : ℕ → Result Text ℕ
field_name number = word_there (word_in field_words number)
