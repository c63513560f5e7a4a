-- One field in a longer input, with the offset after it.
use Rattle.std.specs.Prelude.{ℕ, Result, Ok, Err}
use Rattle.byte_formats.specs.Types.{Text}
use Rattle.byte_formats.specs.Offsets.{At}
use Rattle.cert_time.specs.Calendar.{Period}

-- The offset after what was read.
abbrev pub offset_after : {X E : Type 0} → Result (X × At) E → Result ℕ E
offset_after (Ok x) = Ok x.1.place
offset_after (Err e) = Err e

-- The times that were read, and the offset after them.
abbrev pub unix_times_after : {E : Type 0} → Result ((Text × Period) × At) E
    → Result (Period × ℕ) E
unix_times_after (Ok x) = Ok (x.0.1, x.1.place)
unix_times_after (Err e) = Err e
