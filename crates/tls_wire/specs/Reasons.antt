-- Why forms, hashes and anchor ids aren't read, in words.
use Rattle.std.specs.Prelude.{◌++◌, codes}
use Rattle.std.specs.Fmt.{decimal}
use Rattle.byte_formats.specs.Types.{Text}
use Rattle.tls_wire.specs.declared.cursor.Short.{Short}
use Rattle.tls_wire.specs.declared.cursor.HashesError.{HashesError}
use Rattle.tls_wire.specs.declared.cursor.HashesError.TheVariants as hashes_error
use Rattle.tls_wire.specs.declared.fault.AnchorError.{AnchorError}
use Rattle.tls_wire.specs.declared.fault.AnchorError.TheVariants as anchor_error
use Rattle.tls_wire.specs.declared.fault.AnchorBytesError.{AnchorBytesError}
use Rattle.tls_wire.specs.declared.fault.AnchorBytesError.TheVariants as anchor_bytes_error

-- A form that doesn't fit, with the offset at which it began.
abbrev pub short_text : Short → Text
short_text short = codes "Short " ++ decimal short.place

-- Why hashes aren't read.
abbrev pub hashes_fault_text : HashesError → Text
hashes_fault_text (hashes_error.Short short) = short_text short
hashes_fault_text hashes_error.HashLength = codes "HashLength"

-- Why a text isn't an anchor id.
abbrev pub anchor_fault_text : AnchorError → Text
anchor_fault_text anchor_error.Empty = codes "Empty"
anchor_fault_text (anchor_error.NotDecimal offset) = codes "NotDecimal " ++ decimal offset
anchor_fault_text (anchor_error.LeadingZero offset) = codes "LeadingZero " ++ decimal offset
anchor_fault_text anchor_error.TooLong = codes "TooLong"
anchor_fault_text (anchor_error.ArcTooLarge offset) = codes "ArcTooLarge " ++ decimal offset
anchor_fault_text anchor_error.Memory = codes "Memory"

-- Why bytes aren't an anchor id.
abbrev pub anchor_bytes_fault_text : AnchorBytesError → Text
anchor_bytes_fault_text anchor_bytes_error.Empty = codes "Empty"
anchor_bytes_fault_text (anchor_bytes_error.Padding offset) = codes "Padding " ++ decimal offset
anchor_bytes_fault_text anchor_bytes_error.Unfinished = codes "Unfinished"
anchor_bytes_fault_text anchor_bytes_error.TooLong = codes "TooLong"
anchor_bytes_fault_text (anchor_bytes_error.ArcTooLarge offset) =
    codes "ArcTooLarge " ++ decimal offset
anchor_bytes_fault_text anchor_bytes_error.Memory = codes "Memory"
