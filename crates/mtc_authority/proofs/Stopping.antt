-- Where a command stops that makes tiles whole, and their file was only read.
use Rattle.std.proofs.Common.{◌≡◌}
use Rattle.std.specs.Prelude.{◌≢◌}
use Rattle.byte_formats.specs.Types.{HashFunction, Text}
use Rattle.disk_core.specs.declared.disk.Disk.{Ghosts}
use Rattle.mtc_room.specs.declared.room.Room.{Ghosts as Rooms}
use Rattle.mtc_command.specs.Answers.{Ending, IfReply, no_memory, replied, room_failed, said}
use Rattle.mtc_command.specs.Answers.{status_of, stop_ending, tiles_name}
use Rattle.mtc_command.specs.Served.{OnlyReadsBeside}
use Rattle.mtc_command.specs.declared.answer.Said.TheVariants.{Done}
use Rattle.mtc_command.specs.declared.answer.Stop.{Stop}
use Rattle.mtc_command.specs.declared.answer.Stop.TheVariants.{BadTile, Memory, Refused, Room}
use Rattle.mtc_command.specs.declared.answer.Stop.TheVariants.{Tiles}
use Rattle.mtc_authority.specs.StoredTiles.{MakesTilesWhole}

-- a stop is no work that was done
not_said : (stop : Stop) (text : Text) → stop_ending stop ≡ replied (said Done text) → ⊥
not_said (Refused refusal) text is = cc
not_said (Room file) text is = cc
not_said (Tiles journal) text is = cc
not_said (BadTile journal level place) text is = cc
not_said Memory text is = cc

-- what is so is so of each reply but the work
each_other : (P : Type 0) (ending : Ending) → P → IfReply ending (λ reply. status_of reply ≢ 0 → P)
each_other P (replied reply) is = λ other. is
each_other P (room_failed file) is = tt
each_other P no_memory is = tt

-- a stop where the tiles were only read
pub stopped_whole : {R S D : Type 0} (h : HashFunction) (rooms : Rooms R S D) (g : Ghosts D)
    (old new : R) (name : Text) (stop : Stop) → OnlyReadsBeside rooms g old new (tiles_name name)
    → MakesTilesWhole h rooms g old new name (stop_ending stop)
stopped_whole h rooms g old new name stop only = record {
  whole = λ is_modelled text done. absurd (not_said stop text done);
  after = λ is_modelled text done. absurd (not_said stop text done);
  nothing = each_other (OnlyReadsBeside rooms g old new (tiles_name name)) (stop_ending stop) only;
}
