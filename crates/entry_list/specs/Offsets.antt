-- What stands at an offset of a file of entries, and the lists of what stands at several.
use Rattle.std.specs.Prelude.{ℕ, List, [], drop, map, Result, Ok, Err}
use Rattle.std.specs.Int.{w16}
use Rattle.byte_formats.specs.Types.{Text}
use Rattle.byte_formats.specs.Offsets.{At, at}
use Rattle.byte_formats.specs.Readings.{◌>>=◌}
use Rattle.tls_wire.specs.Reading.{vector_at}
use Rattle.tls_wire.specs.declared.cursor.Short.{Short}
use Rattle.entry_list.specs.Items.{ItemLists}

-- What was read, or no bytes.
abbrev pub or_nothing : Result (Text × At) Short → Text
or_nothing (Ok x) = x.0
or_nothing (Err short) = []

-- The entry of the item that begins at this offset.
abbrev pub entry_from : Text → ℕ → Text
entry_from file place = or_nothing (vector_at w16 (at (drop place file) 0))

-- The key after that entry.
abbrev pub key_from : Text → ℕ → Text
key_from file place =
    or_nothing (vector_at w16 (at (drop place file) 0) >>= λ entry. vector_at w16 entry.1)

-- The entries and the keys of the items that begin at these offsets.
abbrev pub lists_at : Text → List ℕ → ItemLists
lists_at file offsets =
    record { entries = map (entry_from file) offsets; keys = map (key_from file) offsets }
