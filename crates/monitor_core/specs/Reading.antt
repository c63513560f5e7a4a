-- Reading the texts of a monitor, with their faults in their order. A line is counted from 0, and
-- BadLine n comes where line n is the first that isn't in its form, is missing or is too many.
use Rattle.std.specs.Prelude.{ℕ, zero, suc, ◌+◌, ◌==◌, ◌&&◌, ◌||◌, Bool, false, not, nat_le, List}
use Rattle.std.specs.Prelude.{[], ◌∷◌, length, take, drop, slice_index, count_ones, codes}
use Rattle.std.specs.Prelude.{if◌then◌else◌, Option, Some, None, option_map, Result, Ok, Err}
use Rattle.std.specs.Prelude.{bytes_eq}
use Rattle.std.specs.List.{list_any, position_or_len}
use Rattle.std.specs.Option.{option_and_then}
use Rattle.hex.specs.Hex.{decode_sized, encode_lower}
use Rattle.hex.specs.declared.error.FromHexError.{FromHexError}
use Rattle.byte_formats.specs.Types.{Hash, Text}
use Rattle.byte_formats.specs.Readings.{◌>>=◌, blamed, some_or}
use Rattle.cert_names.specs.Hosts.{is_host_name}
use Rattle.tls_wire.specs.Anchors.{anchor_text}
use Rattle.tls_wire.specs.Decimal.{number_of}
use Rattle.tls_wire.specs.Lines.{cut_at, first_line}
use Rattle.monitor_core.specs.States.{MonitorState}
use Rattle.monitor_core.specs.declared.error.TextError.{TextError}
use Rattle.monitor_core.specs.declared.error.TextError.TheVariants.{BadLine}

-- The line with this number, without its end, and what is after it.
abbrev pub line_with : ℕ → Text → Result (Text × Text) TextError
line_with n text = some_or (BadLine n) (first_line text)

-- ---- watched domains

-- A host name without a star.
abbrev pub is_domain : Text → Bool
is_domain text = is_host_name text && not (list_any (λ b. b == 0x2A) text)

-- A line with a domain, and what is after it.
abbrev pub domain_line : ℕ → Text → Result (Text × Text) TextError
domain_line n text =
    line_with n text >>= λ cut. if is_domain cut.0 then Ok cut else Err (BadLine n)

-- Domains up to the end, at most so many, from line n on.
unfoldable pub domain_lines : ℕ → ℕ → Text → Result (List Text) TextError
domain_lines zero n text = if length text == 0 then Ok [] else Err (BadLine n)
domain_lines (suc left) n text =
    if length text == 0 then Ok []
    else (
    domain_line n text >>= λ cut.
    domain_lines left (n + 1) cut.1 >>= λ more. Ok (cut.0 ∷ more)
    )

-- The most domains of a watch file.
abbrev pub most_domains : ℕ
most_domains = 1000

-- The domains of a watch file.
unfoldable pub watch_in : Text → Result (List Text) TextError
watch_in text = domain_lines most_domains 0 text

-- ---- a state

-- The first word of a line of a report.
abbrev pub is_report_word : Text → Bool
is_report_word word =
    bytes_eq word (codes "match") || bytes_eq word (codes "match-hex")
    || bytes_eq word (codes "unread")

-- The line begins with such a word and a space.
abbrev pub begins_report : Option (Text × Text) → Bool
begins_report None = false
begins_report (Some words) = is_report_word words.0

-- What is after the first line, where it is a line of a report.
abbrev pub after_report_line : Option (Text × Text) → Option Text
after_report_line None = None
after_report_line (Some cut) = if begins_report (cut_at 0x20 cut.0) then Some cut.1 else None

-- How many lines of a report stand first, counted from n on, and what is after them.
abbrev pub skipped : ℕ → Text → Option Text → (ℕ → Text → ℕ × Text) → ℕ × Text
skipped n text None following = (n, text)
skipped n text (Some rest) following = following (n + 1) rest

unfoldable pub after_report : ℕ → ℕ → Text → ℕ × Text
after_report zero n text = (n, text)
after_report (suc left) n text =
    skipped n text (after_report_line (first_line text)) (after_report left)

-- The hash that these bytes are, if they are written in lower case.
abbrev pub lower_only : Text → Result Hash FromHexError → Option Hash
lower_only digits (Ok hash) = if bytes_eq (encode_lower hash) digits then Some hash else None
lower_only digits (Err fault) = None

-- The hash of 32 bytes that 64 lower-case hexadecimal digits write.
unfoldable pub lower_hash_in : Text → Option Hash
lower_hash_in digits = lower_only digits (decode_sized digits 32)

-- A space and a hash, and what is after them.
unfoldable pub peak_in : Text → Option (Hash × Text)
peak_in text =
    if nat_le 65 (length text) && (slice_index text 0 == 0x20)
    then option_map (λ hash. (hash, drop 65 text)) (lower_hash_in (take 64 (drop 1 text)))
    else None

-- So many hashes, each after a space, and nothing after them.
unfoldable pub peaks_in : ℕ → Text → Option (List Hash)
peaks_in zero text = if length text == 0 then Some [] else None
peaks_in (suc count) text =
    option_and_then (λ peak. option_map (λ peaks. peak.0 ∷ peaks) (peaks_in count peak.1))
    (peak_in text)

-- Where the first space stands, or the end.
abbrev pub word_end : Text → ℕ
word_end text = position_or_len (λ byte. byte == 0x20) text

-- What stands after the first word of the line of a state: the log's id, the size, and as many
-- peaks as the size has ones in binary.
unfoldable pub state_words : ℕ → Text → Result MonitorState TextError
state_words n text =
    some_or (BadLine n) (cut_at 0x20 text) >>= λ words.
    blamed (BadLine n) (anchor_text words.0) >>= λ log.
    some_or (BadLine n) (number_of (take (word_end words.1) words.1)) >>= λ size.
    some_or (BadLine n) (peaks_in (count_ones size) (drop (word_end words.1) words.1)) >>= λ peaks.
    Ok (record { log = log; size = size; peaks = peaks })

-- The line of a state with this number, which is the last one.
unfoldable pub last_line : ℕ → Text → Result MonitorState TextError
last_line n text =
    line_with n text >>= λ cut.
    some_or (BadLine n) (cut_at 0x20 cut.0) >>= λ words.
    if not (bytes_eq words.0 (codes "state")) then Err (BadLine n)
    else (
    state_words n words.1 >>= λ state.
    if not (length cut.1 == 0) then Err (BadLine (n + 1)) else Ok state
    )

-- The state in a text of what was found, after the lines of the report.
unfoldable pub state_in : Text → Result MonitorState TextError
state_in text = let last = after_report (length text) 0 text in last_line last.0 last.1
