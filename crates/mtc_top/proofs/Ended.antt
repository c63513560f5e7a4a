-- From what holds of how a command ended to what follows.
use Rattle.std.proofs.Common.{Bool, List, Ok, IsErr, sym, true≢false}
use Rattle.byte_formats.specs.Types.{Text}
use Rattle.disk_core.specs.declared.disk.Disk.{Ghosts as Disks}
use Rattle.mtc_io.specs.declared.sink.Sink.{Ghosts as Sinks}
use Rattle.mtc_room.specs.declared.room.Room.{Ghosts as Rooms}
use Rattle.mtc_words.specs.Commands.{CommandValue}
use Rattle.mtc_words.specs.declared.error.WordError.{WordError}
use Rattle.mtc_command.specs.Answers.{Ending, ending_of}
use Rattle.mtc_command.specs.Served.{HasDone}
use Rattle.mtc_command.specs.Steps.{Outcome}
use Rattle.mtc_command.proofs.Served.{reply_so}
use Rattle.mtc_lines.proofs.Outputs.{streams_so}
use Rattle.mtc_top.specs.Ended.{HasCarriedOut}
use Rattle.mtc_top.specs.declared.ending.Ended.{Ended}
use Rattle.mtc_top.specs.declared.ending.Ended.TheVariants.{Kept, Written}

ended_so : {O : Type 0} (outs : Sinks O) (out out' : O) (streams : Bool)
    (P Q : Ending → Type 0) → ((e : Ending) → P e → Q e) → (ended : Ended)
    → HasCarriedOut outs out out' streams P ended → HasCarriedOut outs out out' streams Q ended
ended_so outs out out' streams P Q so (Kept result) is = (so (ending_of result) is.0, is.1)
ended_so outs out out' streams P Q so (Written result) is =
    (is.0, streams_so outs out out' P Q so result is.1)

-- arguments that are a command
module _ {R S D : Type 0} (rooms : Rooms R S D) (disks : Disks D) (command : CommandValue)
    (files names besides : List Text) (wanted : Outcome) (old new : R) where
  abbrev Is : Type 0 → Ending → Type 0
  Is Bad ending = HasDone rooms disks Bad files names besides wanted old new ending

  abbrev IsBad : Type 0
  IsBad = IsErr {T = CommandValue} {E = WordError} (Ok command)

  one_in_words : (ending : Ending) → Is ⊥ ending → Is IsBad ending
  one_in_words ending did = record {
    back = did.back;
    ends = record {
      reply = did.ends.reply;
      words = λ bad. absurd (true≢false (sym bad));
      not_words =
          reply_so ending _ _ (λ reply never one. absurd (never one)) did.ends.not_words;
      fault = did.ends.fault;
      early = did.ends.early;
    };
    made = did.made;
  }

  pub in_words : {O : Type 0} (outs : Sinks O) (out out' : O) (streams : Bool)
      (Begins : Ending → Type 0) (ended : Ended)
      → HasCarriedOut outs out out' streams (λ ending. Is ⊥ ending × Begins ending) ended
      → HasCarriedOut outs out out' streams (λ ending. Is IsBad ending × Begins ending) ended
  in_words outs out out' streams Begins = ended_so outs out out' streams
      (λ ending. Is ⊥ ending × Begins ending) (λ ending. Is IsBad ending × Begins ending)
      (λ ending did. (one_in_words ending did.0, did.1))
