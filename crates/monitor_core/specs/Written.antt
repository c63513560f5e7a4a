-- The text of what was found, whose last line is the state.
use Rattle.std.specs.Prelude.{ℕ, ◌&&◌, Bool, nat_le, if◌then◌else◌, ◌∷◌, ◌++◌, codes, decimal}
use Rattle.std.specs.List.{flat_map, list_all}
use Rattle.hex.specs.Hex.{encode_lower}
use Rattle.byte_formats.specs.Types.{Hash, Text}
use Rattle.tls_wire.specs.Anchors.{text_of}
use Rattle.monitor_core.specs.States.{MonitorState}
use Rattle.monitor_core.specs.Report.{Findings}
use Rattle.monitor_core.specs.declared.lines.Line.{Line}
use Rattle.monitor_core.specs.declared.lines.Line.TheVariants.{Match, Unread}

-- A byte from 21 to 7E, hexadecimal: printable ASCII without the blank.
abbrev pub is_visible : ℕ → Bool
is_visible byte = nat_le 0x21 byte && nat_le byte 0x7E

-- The line of a match: the index and the name, in hexadecimal where it has other bytes.
abbrev pub match_text : ℕ → Text → Text
match_text index name =
    if list_all is_visible name
    then codes "match " ++ (decimal index ++ (codes " " ++ (name ++ codes "\n")))
    else codes "match-hex " ++ (decimal index ++ (codes " " ++ (encode_lower name ++ codes "\n")))

-- The line of an entry that doesn't read.
abbrev pub unread_text : ℕ → Text
unread_text index = codes "unread " ++ (decimal index ++ codes "\n")

abbrev pub line_text : Line → Text
line_text (Match index name) = match_text index name
line_text (Unread index) = unread_text index

-- A space and a peak, in 64 lower-case hexadecimal digits.
abbrev pub peak_text : Hash → Text
peak_text hash = 0x20 ∷ encode_lower hash

-- The line of a state: the log's id in dotted decimal, the size, and the peaks, the largest first.
unfoldable pub state_text : MonitorState → Text
state_text s =
    codes "state " ++ (text_of s.log
    ++ (codes " " ++ (decimal s.size ++ (flat_map peak_text s.peaks ++ codes "\n"))))

-- The lines of the report, and that of the state.
unfoldable pub found_text : Findings → Text
found_text found = flat_map line_text found.lines ++ state_text found.state
