-- The lines on standard error.
use Rattle.std.specs.Prelude.{◌==◌, ◌++◌, length, codes, Option, None, Some}
use Rattle.std.specs.Prelude.{if◌then◌else◌}
use Rattle.std.specs.Io.KnownBytes.{Appends}
use Rattle.byte_formats.specs.Types.{Text}
use Rattle.mtc_io.specs.Streams.{AppendsPrefix}

-- A text after a command and a colon, if the command is known.
abbrev pub of_command : Text → Text → Text
of_command command text = if length command == 0 then text else command ++ (codes ": " ++ text)

-- A text after a file and a colon, if it is one about a file.
abbrev pub of_file : Option Text → Text → Text
of_file None text = text
of_file (Some file) text = file ++ (codes ": " ++ text)

-- The line of a refusal or a failure: `mtc: COMMAND: FILE: REASON`.
abbrev pub line_of : Text → Option Text → Text → Text
line_of command file reason =
    codes "mtc: " ++ of_command command (of_file file (reason ++ codes "\n"))

-- A line goes to a sink: all of it, or where the sink failed a prefix.
pub record WritesLine (Fault : Type 0) (old new : Option Text) (line : Text) : Type 0 where
  pub prefix : AppendsPrefix old new line
  pub whole : (Fault → ⊥) → Appends old new line
