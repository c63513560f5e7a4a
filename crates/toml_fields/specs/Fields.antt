-- A field of a table: the value at its key, in its form. The faults are those of whoever reads the
-- file.
use Rattle.std.specs.Prelude.{Option, Some, None, Result, Ok, Err, option_map}
use Rattle.byte_formats.specs.Readings.{some_or}
use Rattle.toml.specs.Data.{Data}

-- A field that has to be there: without it one fault, and out of its form another.
abbrev pub required_field : {A E : Type 0} → E → E → (Data → Option A) → Option Data → Result A E
required_field missing bad read None = Err missing
required_field missing bad read (Some d) = some_or bad (read d)

-- A field that may be absent: only its form can be at fault.
abbrev pub optional_field : {A E : Type 0}
    → E → (Data → Option A) → Option Data → Result (Option A) E
optional_field bad read None = Ok None
optional_field bad read (Some d) = some_or bad (option_map Some (read d))
