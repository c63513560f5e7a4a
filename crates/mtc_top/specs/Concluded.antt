-- What goes out where a command ends, and its status.
use Rattle.std.specs.Prelude.{◌≡◌, ◌⊎◌, ℕ, ◌<◌, [], length, Option, None, Some, codes, Result}
use Rattle.std.specs.Prelude.{Ok, Err}
use Rattle.std.specs.Io.KnownBytes.{Appends}
use Rattle.byte_formats.specs.Types.{Text}
use Rattle.mtc_io.specs.Counts.{Rose}
use Rattle.mtc_io.specs.Streams.{AppendsPrefix}
use Rattle.mtc_io.specs.declared.fault.Failed.{Failed as SinkFailed}
use Rattle.mtc_io.specs.declared.sink.Sink.{Ghosts as Sinks}
use Rattle.mtc_room.specs.declared.cause.Cause.{Cause}
use Rattle.mtc_room.specs.declared.cause.Cause.TheVariants.{Locked, Failed}
use Rattle.mtc_command.specs.Answers.{Ending, Reply, replied, room_failed, no_memory}
use Rattle.mtc_command.specs.Answers.{status_of, out_of, err_of, stop_ending}
use Rattle.mtc_command.specs.declared.answer.Stop.{Stop}
use Rattle.mtc_command.specs.Lines.{line_of, WritesLine}

-- This went to standard output; a prefix of it did.
abbrev pub Prints : {O : Type 0} → Sinks O → O → O → Text → Type 0
Prints outs out out' text = Appends (outs.taken out) (outs.taken out') text

abbrev pub PrintsPrefix : {O : Type 0} → Sinks O → O → O → Text → Type 0
PrintsPrefix outs out out' text = AppendsPrefix (outs.taken out) (outs.taken out') text

-- This line went to standard error, or a prefix of it if that failed.
abbrev pub Reports : {E : Type 0} → Sinks E → E → E → Text → Type 0
Reports errs err err' line = WritesLine (Rose (errs.faults err) (errs.faults err'))
    (errs.taken err) (errs.taken err') line

-- What the line says of a failure of the file system.
abbrev pub word_of : Cause → Text
word_of Locked = codes "Locked"
word_of Failed = codes "Failed"

-- Nothing is left to go to standard output: what the line says of an ending, and the status.
module _ {E : Type 0} (errs : Sinks E) (command : Text) (err err' : E) where
  abbrev pub SaysEnding : Ending → Cause → ℕ → Type 0
  SaysEnding (replied reply) cause status = (status ≡ status_of reply)
      × Reports errs err err' (err_of command reply)
  SaysEnding (room_failed file) cause status = (status ≡ 5)
      × Reports errs err err' (line_of command (Some file) (word_of cause))
  SaysEnding no_memory cause status = (status ≡ 8)
      × Reports errs err err' (line_of command None (codes "Memory"))

  -- Of a command that has written its text itself: all of it went out, or standard output failed
  -- at it, or the command was stopped.
  abbrev pub SaysWritten : Result (Result (Unit {0}) SinkFailed) Stop → Cause → ℕ → Type 0
  SaysWritten (Ok (Ok done)) cause status = (status ≡ 0) × Reports errs err err' []
  SaysWritten (Ok (Err failed)) cause status = (status ≡ 6)
      × Reports errs err err' (line_of command None (codes "OutputFailed"))
  SaysWritten (Err stop) cause status = SaysEnding (stop_ending stop) cause status

module _ {O E : Type 0} (outs : Sinks O) (errs : Sinks E) (command : Text)
    (out out' : O) (err err' : E) where
  -- The reply went out.
  pub record Wrote (reply : Reply) (status : ℕ) : Type 0 where
    pub code : status ≡ status_of reply
    pub text : Prints outs out out' (out_of reply)
    pub line : Reports errs err err' (err_of command reply)

  -- Standard output failed at a text that isn't empty.
  pub record Lost (text : Text) (status : ℕ) : Type 0 where
    pub code : status ≡ 6
    pub some : 0 < length text
    pub cause : Rose (outs.faults out) (outs.faults out')
    pub prefix : PrintsPrefix outs out out' text
    pub line : Reports errs err err' (line_of command None (codes "OutputFailed"))

  -- There is no reply, and standard output didn't fail.
  pub record Reported (code : ℕ) (file : Option Text) (reason : Text) (status : ℕ) : Type 0 where
    pub is : status ≡ code
    pub fine : outs.faults out' ≡ outs.faults out
    pub nothing : Prints outs out out' []
    pub line : Reports errs err err' (line_of command file reason)

  -- A file failed, or memory was refused, while this text went out: a prefix of it did, which isn't
  -- all of it where memory was refused.
  abbrev pub BreaksAt : Text → Ending → Cause → ℕ → Type 0
  BreaksAt text (replied reply) cause status = ⊥
  BreaksAt text (room_failed file) cause status = (status ≡ 5) × (PrintsPrefix outs out out' text
      × Reports errs err err' (line_of command (Some file) (word_of cause)))
  BreaksAt text no_memory cause status = (status ≡ 8)
      × ((prefix : PrintsPrefix outs out out' text) × (prefix.0 < length text)
      × Reports errs err err' (line_of command None (codes "Memory")))

  -- How it ended; and, if the file system failed, why it failed last. A reply went out, or standard
  -- output failed at its text.
  abbrev pub Concludes : Ending → Cause → ℕ → Type 0
  Concludes (replied reply) cause status = Wrote reply status ⊎ Lost (out_of reply) status
  Concludes (room_failed file) cause status = Reported 5 (Some file) (word_of cause) status
  Concludes no_memory cause status = Reported 8 None (codes "Memory") status
