-- Commands that write their text while they read: from what one has done to what follows of it.
use Rattle.std.proofs.Common.{inl, inr, refl, Result, Ok, Err}
use Rattle.std.proofs.KnownBytes.{Appends-nil}
use Rattle.mtc_io.specs.declared.fault.Failed.{Failed}
use Rattle.mtc_io.specs.declared.sink.Sink.{Ghosts as Sinks}
use Rattle.mtc_command.specs.Answers.{Ending, replied, said, stop_ending}
use Rattle.mtc_command.specs.declared.answer.Said.TheVariants.{Done}
use Rattle.mtc_command.specs.declared.answer.Stop.{Stop}
use Rattle.mtc_lines.specs.Outputs.{Streams}

module _ {O : Type 0} (outs : Sinks O) (out out' : O) where
  pub streams_so : (P Q : Ending → Type 0) → ((e : Ending) → P e → Q e)
      → (result : Result (Result (Unit {0}) Failed) Stop) → Streams outs out out' P result
      → Streams outs out out' Q result
  streams_so P Q so (Ok (Ok done)) is = record {
    text = is.text;
    ends = so (replied (said Done is.text)) is.ends;
    written = is.written;
  }
  streams_so P Q so (Ok (Err failed)) is = record {
    text = is.text;
    ends = so (replied (said Done is.text)) is.ends;
    some = is.some;
    cause = is.cause;
    prefix = is.prefix;
  }
  streams_so P Q so (Err stop) is = record {
    ends = so (stop_ending stop) is.ends;
    fine = is.fine;
    went = elim is.went [
      | inl nothing ↦ inl nothing
      | inr broke ↦ inr (record {
        text = broke.text;
        ends = so (replied (said Done broke.text)) broke.ends;
        went = broke.went;
      })
    ];
  }

  -- what has one ending
  pub some_ending : (P : Ending → Type 0) (result : Result (Result (Unit {0}) Failed) Stop)
      → Streams outs out out' P result → (e : Ending) × P e
  some_ending P (Ok (Ok done)) is = (replied (said Done is.text), is.ends)
  some_ending P (Ok (Err failed)) is = (replied (said Done is.text), is.ends)
  some_ending P (Err stop) is = (stop_ending stop, is.ends)

-- it was stopped before it wrote
pub stopped_before : {O : Type 0} (outs : Sinks O) (out : O) (P : Ending → Type 0) (stop : Stop)
    → P (stop_ending stop) → Streams outs out out P (Err stop)
stopped_before outs out P stop is =
    record { ends = is; fine = refl; went = inl (Appends-nil (outs.taken out)) }
