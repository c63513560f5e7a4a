-- An item as its two parts.
use Rattle.std.specs.Int.{w16}
use Rattle.byte_formats.specs.Readings.{Reading, both_at}
use Rattle.byte_formats.specs.Types.{Text}
use Rattle.tls_wire.specs.Reading.{vector_at}
use Rattle.tls_wire.specs.declared.cursor.Short.{Short}

-- An entry and a key, each after its length of two bytes (RFC 8446, section 3.4).
unfoldable pub parts_at : Reading (Text × Text) Short
parts_at = both_at (vector_at w16) (vector_at w16)
