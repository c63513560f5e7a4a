-- Object identifiers that have a meaning here, as the contents of their encodings.
use Rattle.std.specs.Prelude.{Bool, ◌||◌, [], ◌∷◌}
use Rattle.std.specs.Str.{bytes_eq}
use Rattle.byte_formats.specs.Types.{Text}

-- id-ce-subjectAltName, 2.5.29.17 (RFC 5280, section 4.2.1.6).
abbrev pub subject_alt_name : Text
subject_alt_name = 0x55 ∷ 0x1D ∷ 0x11 ∷ []

-- id-ce-basicConstraints, 2.5.29.19 (4.2.1.9).
abbrev pub basic_constraints : Text
basic_constraints = 0x55 ∷ 0x1D ∷ 0x13 ∷ []

-- id-ce-keyUsage, 2.5.29.15 (4.2.1.3).
abbrev pub key_usage : Text
key_usage = 0x55 ∷ 0x1D ∷ 0x0F ∷ []

-- id-ce-extKeyUsage, 2.5.29.37 (4.2.1.12).
abbrev pub extended_key_usage : Text
extended_key_usage = 0x55 ∷ 0x1D ∷ 0x25 ∷ []

-- The extensions that may be critical.
abbrev pub is_known_extension : Text → Bool
is_known_extension identifier =
    bytes_eq identifier subject_alt_name || bytes_eq identifier basic_constraints
    || bytes_eq identifier key_usage || bytes_eq identifier extended_key_usage
