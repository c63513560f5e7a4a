-- What of a mirror's items goes out, by the answer: whether a sink failed, if the mirror has so
-- many items and they are read.
use Rattle.std.specs.Prelude.{◌≡◌, ℕ, ◌<◌, ◌≤◌, length, Option, Result, Ok, Err}
use Rattle.std.specs.Io.KnownBytes.{Appends}
use Rattle.byte_formats.specs.Types.{Text}
use Rattle.entry_list.specs.Items.{file_text, lists_of}
use Rattle.mtc_io.specs.Counts.{HasCause}
use Rattle.mtc_io.specs.Streams.{AppendsPrefix}
use Rattle.mtc_io.specs.declared.fault.Failed.{Failed}
use Rattle.mirror_core.specs.Folds.{MirrorState}
use Rattle.mirror_core.specs.declared.error.MirrorError.{MirrorError}
use Rattle.mirror_core.specs.declared.error.MirrorError.TheVariants as mirror_error

-- The file of so many of its first items.
abbrev pub mirrored_file : ℕ → MirrorState → Text
mirrored_file size s = file_text (lists_of s.items) size

-- Too few items are answered exactly if there are fewer, and then how many there are. Otherwise the
-- disk may fail, or memory be refused.
abbrev pub KeepsToMirrorSize : ℕ → ℕ → Result (Result (Unit {0}) Failed) MirrorError → Type 0
KeepsToMirrorSize have size (Ok written) = size ≤ have
KeepsToMirrorSize have size (Err (mirror_error.Beyond count)) = (have < size) × (count ≡ have)
KeepsToMirrorSize have size (Err mirror_error.Failed) = size ≤ have
KeepsToMirrorSize have size (Err mirror_error.Memory) = size ≤ have
KeepsToMirrorSize have size (Err other) = ⊥

-- What of a text went out: all of it, or a prefix. If the sink failed, the text isn't empty; if the
-- disk failed or memory was refused, the prefix isn't all of it.
abbrev pub ItemsWentOut : Option Text → Option Text → Text
    → Result (Result (Unit {0}) Failed) MirrorError → Type 0
ItemsWentOut before after text (Ok (Ok done)) = Appends before after text
ItemsWentOut before after text (Ok (Err failed)) =
    AppendsPrefix before after text × (0 < length text)
ItemsWentOut before after text (Err mirror_error.Failed) =
    (prefix : AppendsPrefix before after text) × (prefix.0 < length text)
ItemsWentOut before after text (Err mirror_error.Memory) =
    (prefix : AppendsPrefix before after text) × (prefix.0 < length text)
ItemsWentOut before after text (Err other) = Unit {0}

-- A sink's count of failures rose where it failed, and is as it was at any other answer.
abbrev pub SinkCounts : ℕ → ℕ → Result (Result (Unit {0}) Failed) MirrorError → Type 0
SinkCounts before after (Ok written) = HasCause before after written
SinkCounts before after (Err why) = after ≡ before
