-- Values in the forms that files use.
use Rattle.std.specs.Prelude.{ℕ, ℤ, pos, negsuc, Option, Some, None}
use Rattle.std.specs.Option.{option_and_then}
use Rattle.std.specs.Result.{result_ok}
use Rattle.byte_formats.specs.Types.{Hash, Text}
use Rattle.base64.specs.Engines.{standard}
use Rattle.base64.specs.GeneralPurpose.{decoded_of}
use Rattle.hex.specs.Hex.{decode_sized}
use Rattle.toml.specs.Data.{Data, as_integer, as_str}

-- A whole number that isn't negative.
abbrev pub natural : ℤ → Option ℕ
natural (pos n) = Some n
natural (negsuc n) = None

abbrev pub number_data : Data → Option ℕ
number_data d = option_and_then natural (as_integer d)

-- The 32 bytes that 64 hexadecimal digits write, in either case (RFC 4648, section 8).
unfoldable pub hash_of_hex : Text → Option Hash
hash_of_hex text = result_ok (decode_sized text 32)

unfoldable pub hash_data : Data → Option Hash
hash_data d = option_and_then hash_of_hex (as_str d)

-- The bytes that a text in base64 writes, in the standard alphabet and padded (RFC 4648,
-- section 4).
unfoldable pub bytes_of_base64 : Text → Option Text
bytes_of_base64 text = decoded_of standard text

unfoldable pub bytes_data : Data → Option Text
bytes_data d = option_and_then bytes_of_base64 (as_str d)
