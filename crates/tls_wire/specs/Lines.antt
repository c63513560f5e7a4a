-- Texts that are cut at a byte, and their lines.
use Rattle.std.specs.Prelude.{◌≢◌, ℕ, ◌+◌, ◌<◌, ◌==◌, length, take, drop, slice_index, Option}
use Rattle.std.specs.Prelude.{option_map}
use Rattle.std.specs.List.{position}
use Rattle.byte_formats.specs.Types.{Text}

-- What stands before the first such byte, and what stands after it.
abbrev pub cut_at : ℕ → Text → Option (Text × Text)
cut_at mark text =
    option_map (λ place. (take place text, drop (place + 1) text))
    (position (λ byte. byte == mark) text)

-- The first line without its end, and what is after it.
abbrev pub first_line : Text → Option (Text × Text)
first_line text = cut_at 0x0A text

-- None of the bytes is this one.
abbrev pub Lacks : ℕ → Text → Type 0
Lacks mark text = (i : ℕ) → i < length text → slice_index text i ≢ mark
