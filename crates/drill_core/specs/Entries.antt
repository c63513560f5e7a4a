-- The entries of a drill's log.
use Rattle.std.specs.Prelude.{ℕ, zero, suc, pos, List, [], ◌∷◌, ◌++◌, codes, decimal, None}
use Rattle.std.specs.Int.{w64, to_be_bytes}
use Rattle.byte_formats.specs.Types.{Text, HashFunction}
use Rattle.log_entry.specs.declared.entry.Form.TheVariants.{One}
use Rattle.authority_core.specs.Issuing.{entry_for}
use Rattle.authority_core.specs.Requests.{RequestParts}
use Rattle.issuance_log.specs.Folds.{LogState, null_entry}
use Rattle.issuance_log.specs.Settings.{Settings}
use Rattle.drill_parties.specs.Ids.{drill_log_id}

-- the log has 4 active landmarks and 64 entries at most
abbrev pub log_settings : Settings
log_settings = record { id = drill_log_id; max_active = 4; limit = 64 }

-- `n`, the index, `.example`
unfoldable pub host_of : ℕ → Text
host_of index = codes "n" ++ (decimal index ++ codes ".example")

-- a subjectPublicKeyInfo of Ed25519 (RFC 8410, section 4): the key is 24 bytes of 0 and the index
unfoldable pub key_of : ℕ → Text
key_of index =
    (0x30 ∷ 0x2A ∷ 0x30 ∷ 0x05 ∷ 0x06 ∷ 0x03 ∷ 0x2B ∷ 0x65 ∷ 0x70 ∷ 0x03 ∷ 0x21 ∷ 0x00
    ∷ 0 ∷ 0 ∷ 0 ∷ 0 ∷ 0 ∷ 0 ∷ 0 ∷ 0 ∷ 0 ∷ 0 ∷ 0 ∷ 0 ∷ 0 ∷ 0 ∷ 0 ∷ 0 ∷ 0 ∷ 0 ∷ 0 ∷ 0 ∷ 0 ∷ 0 ∷ 0
    ∷ 0 ∷ [])
    ++ to_be_bytes w64 index

-- What is asked for the entry at an index.
abbrev pub request_for : ℕ → RequestParts
request_for index = record {
  validity = record { not_before = pos 1767225600; not_after = pos 1767830400 };
  names = host_of index ∷ [];
  common_name = None;
  key = key_of index;
}

-- the entry at an index; the first is the null entry
abbrev pub drill_entry : HashFunction → ℕ → Text
drill_entry h zero = null_entry
drill_entry h (suc before) = entry_for h One drill_log_id (request_for (suc before))

-- the key to the entry at an index; the null entry has none
abbrev pub drill_key : ℕ → Text
drill_key zero = []
drill_key (suc before) = key_of (suc before)

-- so many entries, from the first
unfoldable pub entries_to : HashFunction → ℕ → List Text
entries_to h zero = []
entries_to h (suc size) = entries_to h size ++ drill_entry h size ∷ []

-- their keys
unfoldable pub keys_to : ℕ → List Text
keys_to zero = []
keys_to (suc size) = keys_to size ++ drill_key size ∷ []

-- The log with so many entries, and landmarks at these sizes.
abbrev pub log_with : HashFunction → ℕ → List ℕ → LogState
log_with h size marks = record {
  settings = log_settings;
  entries = entries_to h size;
  keys = keys_to size;
  marks = marks;
  tiled = 0;
  switched = None;
}
