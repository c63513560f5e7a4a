-- What a command has written to standard output that writes its text while it reads its journal, by
-- how it came to its end.
use Rattle.std.specs.Prelude.{◌≡◌, ◌⊎◌, ◌<◌, [], length, Option, Result, Ok, Err}
use Rattle.std.specs.Io.KnownBytes.{Appends}
use Rattle.byte_formats.specs.Types.{Text}
use Rattle.mtc_io.specs.Counts.{Rose}
use Rattle.mtc_io.specs.Streams.{AppendsPrefix}
use Rattle.mtc_io.specs.declared.fault.Failed.{Failed}
use Rattle.mtc_io.specs.declared.sink.Sink.{Ghosts as Sinks}
use Rattle.mtc_command.specs.Answers.{Ending, no_memory, replied, room_failed, said, stop_ending}
use Rattle.mtc_command.specs.declared.answer.Said.TheVariants.{Done}
use Rattle.mtc_command.specs.declared.answer.Stop.{Stop}

-- What of a text has gone out where there is no reply: where a file failed a prefix of it, and
-- where memory was refused one that isn't all of it: nothing is left to do after its last byte.
abbrev pub WentOutBefore : Ending → Option Text → Option Text → Text → Type 0
WentOutBefore (replied reply) old new text = ⊥
WentOutBefore (room_failed file) old new text = AppendsPrefix old new text
WentOutBefore no_memory old new text =
    (prefix : AppendsPrefix old new text) × (prefix.0 < length text)

-- Ends says which endings go with what the command has done.
module _ {O : Type 0} (outs : Sinks O) (out out' : O) (Ends : Ending → Type 0) where
  -- It did its work, and this text went out.
  pub record WroteItsText : Type 0 where
    pub text : Text
    pub ends : Ends (replied (said Done text))
    pub written : Appends (outs.taken out) (outs.taken out') text

  -- Standard output failed at its text, which isn't empty, and a prefix went out.
  pub record LostItsText : Type 0 where
    pub text : Text
    pub ends : Ends (replied (said Done text))
    pub some : 0 < length text
    pub cause : Rose (outs.faults out) (outs.faults out')
    pub prefix : AppendsPrefix (outs.taken out) (outs.taken out') text

  -- There is no reply, and a prefix of its text went out. What it has done is what goes with the
  -- reply too.
  pub record BrokeItsText (ending : Ending) : Type 0 where
    pub text : Text
    pub ends : Ends (replied (said Done text))
    pub went : WentOutBefore ending (outs.taken out) (outs.taken out') text

  -- It was stopped before it wrote, or while it did, and standard output didn't fail.
  pub record WasStopped (ending : Ending) : Type 0 where
    pub ends : Ends ending
    pub fine : outs.faults out' ≡ outs.faults out
    pub went : Appends (outs.taken out) (outs.taken out') [] ⊎ BrokeItsText ending

  -- What became of the text: it went out, or standard output failed at it; or the command was
  -- stopped.
  abbrev pub Streams : Result (Result (Unit {0}) Failed) Stop → Type 0
  Streams (Ok (Ok done)) = WroteItsText
  Streams (Ok (Err failed)) = LostItsText
  Streams (Err stop) = WasStopped (stop_ending stop)
