-- A command that has read one file as a stream answers.
use Rattle.std.proofs.Common.{ℕ, List, [], ap, sym}
use Rattle.byte_formats.specs.Types.{Text}
use Rattle.disk_core.specs.declared.disk.Disk.{Ghosts as Disks}
use Rattle.mtc_room.specs.declared.room.Room.{Ghosts as Rooms}
use Rattle.mtc_command.specs.Answers.{Ending}
use Rattle.mtc_command.specs.Endings.{Replies}
use Rattle.mtc_command.specs.Served.{ClosesAll, HasAnswered}
use Rattle.mtc_command.specs.Steps.{Outcome, with_bytes}
use Rattle.mtc_command.proofs.Inputs.{bytes_read}
use Rattle.mtc_command.proofs.Made.{OnlyNow}
use Rattle.mtc_command.proofs.Served.{answered}
use Rattle.mtc_streams.specs.Inputs.{IsStreamed}

module _ {R S D : Type 0} (rooms : Rooms R S D) (disks : Disks D) (only_now : OnlyNow disks)
    (files : List Text) (limit : ℕ) (name : Text) (next : Text → Outcome)
    (Holds : Text → Type 0) (old new : R) (back : ClosesAll rooms old new []) where
  pub streamed : (ending : Ending)
      → IsStreamed (rooms.is_modelled old) limit (rooms.file old name) Holds
      → ((bytes : Text) → Holds bytes → Replies (next bytes).answer ending)
      → HasAnswered rooms disks files (with_bytes limit name (rooms.file old name) next) old new
      ending
  streamed ending is so =
      answered rooms disks files [] [] (with_bytes limit name (rooms.file old name) next) old new
      back only_now ending (next is.bytes).answer
      (λ t. ap (λ (w : Outcome). w.answer) (sym (bytes_read limit name (rooms.file old name)
      is.bytes next (is.is t).0 (is.is t).1)))
      (so is.bytes is.holds)
