-- How a command ended, and what it has written to standard output by then.
use Rattle.std.specs.Prelude.{◌≡◌, Bool, true}
use Rattle.mtc_io.specs.declared.sink.Sink.{Ghosts as Sinks}
use Rattle.mtc_command.specs.Answers.{Ending, ending_of}
use Rattle.mtc_lines.specs.Outputs.{Streams}
use Rattle.mtc_top.specs.declared.ending.Ended.{Ended}
use Rattle.mtc_top.specs.declared.ending.Ended.TheVariants.{Kept, Written}

-- Ends says which endings go with what the command has done. Most commands have written nothing;
-- one that may write while it reads has written its text, if all went well.
abbrev pub HasCarriedOut : {O : Type 0} → Sinks O → O → O → Bool → (Ending → Type 0) → Ended
    → Type 0
HasCarriedOut outs out out' streams Ends (Kept result) = Ends (ending_of result) × (out' ≡ out)
HasCarriedOut outs out out' streams Ends (Written result) =
    (streams ≡ true) × Streams outs out out' Ends result
