-- Names for the types that stand in every definition over bytes.
use Rattle.std.specs.Prelude.{ℕ, List}

-- A list of bytes: what is read, written or hashed. `IsBytes` says, where it matters, that each is
-- below 256.
abbrev pub Text : Type 0
Text = List ℕ

-- What a hash function gives of bytes, of any length.
abbrev pub Hash : Type 0
Hash = List ℕ

-- A hash function, as definitions over hashes take it.
abbrev pub HashFunction : Type 0
HashFunction = Text → Hash
