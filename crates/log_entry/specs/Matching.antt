-- Whether a key is the one of an entry.
use Rattle.std.specs.Prelude.{◌≡◌, ◌&&◌, Bool, true, false, Option, Some, None, IfSome, Result}
use Rattle.std.specs.Prelude.{Ok, Err, is_none, is_some}
use Rattle.std.specs.Str.{bytes_eq}
use Rattle.byte_formats.specs.Types.{Text, HashFunction}
use Rattle.cert_fields.specs.Keys.{is_public_key, key_algorithm}
use Rattle.cert_fields.specs.Grammar.{IsPublicKey}
use Rattle.log_entry.specs.Entries.{TbsParts, tbs_text, IsTbs}
use Rattle.log_entry.specs.Reading.{entry_in}
use Rattle.log_entry.specs.declared.entry.Form.{Form}
use Rattle.log_entry.specs.declared.entry.Form.TheVariants.{One, Two}
use Rattle.log_entry.specs.declared.fault.EntryError.{EntryError}

-- The algorithm that stands in an entry, if there is one, is that of the key.
abbrev pub algorithm_agrees : Option Text → Text → Bool
algorithm_agrees None spki = true
algorithm_agrees (Some algorithm) spki = bytes_eq algorithm (key_algorithm spki)

-- The entry is of type 1 and holds the hash of the key, and its algorithm if it has one.
abbrev pub holds : HashFunction → Text → Result (Option TbsParts) EntryError → Bool
holds h spki (Ok (Some p)) = algorithm_agrees p.algorithm spki && bytes_eq p.key_hash (h spki)
holds h spki (Ok None) = false
holds h spki (Err e) = false

-- A key matches an entry: the entry reads as type 1, the key is one subjectPublicKeyInfo (RFC 5280,
-- section 4.1.2.7), and the entry holds its hash, and its algorithm if it has one.
unfoldable pub matches : HashFunction → Text → Text → Bool
matches h entry spki = holds h spki (entry_in entry) && is_public_key spki

-- What was read is an entry of type 1 in this form.
abbrev pub is_in_form : Form → Result (Option TbsParts) EntryError → Bool
is_in_form One (Ok (Some p)) = is_none p.algorithm
is_in_form Two (Ok (Some p)) = is_some p.algorithm
is_in_form form (Ok None) = false
is_in_form form (Err e) = false

-- The bytes are an entry of type 1 in this form.
unfoldable pub has_form : Form → Text → Bool
has_form form entry = is_in_form form (entry_in entry)

-- A match in terms of the grammars: the bytes encode an entry of type 1, whose hash is that of a
-- public key, and whose algorithm is that of the key if it has one.
pub record Matches (h : HashFunction) (entry spki : Text) : Type 0 where
  pub parts : TbsParts
  pub fits : IsTbs parts
  pub encoded : entry ≡ tbs_text parts
  pub key : IsPublicKey spki
  pub hash : parts.key_hash ≡ h spki
  pub algorithm : IfSome parts.algorithm (λ algorithm. algorithm ≡ key_algorithm spki)
