-- What the line says of a command that has no more to write.
use Rattle.std.proofs.Common.{◌≡◌, ℕ, List, [], inl}
use Rattle.mtc_io.specs.declared.sink.Sink.{Ghosts as Sinks}
use Rattle.mtc_room.specs.declared.cause.Cause.{Cause}
use Rattle.mtc_command.specs.Answers.{Ending, no_memory, replied, room_failed, stop_ending}
use Rattle.mtc_command.specs.declared.answer.Stop.{Stop}
use Rattle.mtc_command.specs.declared.answer.Stop.TheVariants.{BadTile, Memory, Refused, Room}
use Rattle.mtc_command.specs.declared.answer.Stop.TheVariants.{Tiles}
use Rattle.mtc_lines.specs.Outputs.{WentOutBefore}
use Rattle.mtc_top.specs.Concluded.{BreaksAt, Concludes, Prints, SaysEnding}

module _ {O E : Type 0} (outs : Sinks O) (errs : Sinks E) (command : List ℕ) (out out' : O)
    (err err' : E) (cause : Cause) (status : ℕ) where
  -- where nothing went out
  pub says_nothing : (stop : Stop) → outs.faults out' ≡ outs.faults out → Prints outs out out' []
      → SaysEnding errs command err err' (stop_ending stop) cause status
      → Concludes outs errs command out out' err err' (stop_ending stop) cause status
  says_nothing (Refused refusal) fine nothing says =
      inl (record { code = says.0; text = nothing; line = says.1 })
  says_nothing (Room file) fine nothing says =
      record { is = says.0; fine = fine; nothing = nothing; line = says.1 }
  says_nothing (Tiles journal) fine nothing says =
      record { is = says.0; fine = fine; nothing = nothing; line = says.1 }
  says_nothing (BadTile journal level place) fine nothing says =
      inl (record { code = says.0; text = nothing; line = says.1 })
  says_nothing Memory fine nothing says =
      record { is = says.0; fine = fine; nothing = nothing; line = says.1 }

  -- where a prefix of a text did
  pub breaks_at : (ending : Ending) (text : List ℕ)
      → WentOutBefore ending (outs.taken out) (outs.taken out') text
      → SaysEnding errs command err err' ending cause status
      → BreaksAt outs errs command out out' err err' text ending cause status
  breaks_at (replied reply) text went says = absurd went
  breaks_at (room_failed file) text went says = (says.0, (went, says.1))
  breaks_at no_memory text went says = (says.0, (went.0, went.1, says.1))
