-- What a run of the program did, by these arguments, over a file system and two sinks, each before
-- and after.
use Rattle.std.specs.Prelude.{◌≡◌, ◌⊎◌, ℕ, true, List, [], ◌++◌, IfSome, IsErr}
use Rattle.byte_formats.specs.Types.{HashFunction, Text}
use Rattle.disk_core.specs.declared.disk.Disk.{Ghosts as Disks}
use Rattle.mtc_io.specs.Counts.{Rose}
use Rattle.mtc_io.specs.declared.sink.Sink.{Ghosts as Sinks}
use Rattle.mtc_room.specs.declared.room.Room.{Ghosts as Rooms}
use Rattle.mtc_words.specs.Words.{command_of, known_word}
use Rattle.mtc_command.specs.Answers.{Ending, Reply, replied, said}
use Rattle.mtc_command.specs.declared.answer.Said.TheVariants.{Done}
use Rattle.mtc_command.specs.Made.{HasKept, HasMade}
use Rattle.mtc_command.specs.Served.{ClosesAll, EndsAs, Journals, LeavesEach, LeavesJournals}
use Rattle.mtc_command.specs.Served.{OfEach, done_with}
use Rattle.mtc_command.specs.Stored.{StoresBeside}
use Rattle.mtc_command.specs.Valid.{KeepsValid}
use Rattle.mtc_command.specs.Wanted.{Meets}
use Rattle.mtc_command.specs.Works.{ModelsNew}
use Rattle.mtc_authority.specs.StoredTiles.{MakesTilesWhole}
use Rattle.mtc_tiled.specs.Headers.{SparesTiles}
use Rattle.mtc_mirror_steps.specs.SecondStands.{SecondStands}
use Rattle.mtc_top.specs.Concluded.{BreaksAt, Concludes}
use Rattle.mtc_top.specs.Facts.{Facts, facts}

module _ {R S D O E : Type 0} (h : HashFunction) (rooms : Rooms R S D) (disks : Disks D)
    (outs : Sinks O) (errs : Sinks E) (words : List Text)
    (old new : R) (out out' : O) (err err' : E) where
  -- What the arguments ask for, and what the files make of that: what is done with each journal.
  abbrev pub asked : Facts
  asked = facts h (command_of words)

  abbrev pub journals : Journals
  journals = done_with asked.journals (asked.outcome (rooms.file old)).journals

  -- A command that may write while it reads its journals was cut off: a file failed, or memory was
  -- refused, while it wrote, and standard output didn't fail. A prefix of its text went out, maybe
  -- none of it, and a line; all of it only where a file failed. Where the contents of all files are
  -- known the text is the one that is asked for, and the command has done with its journals all
  -- that is asked.
  pub record CutOff (ending : Ending) (status : ℕ) : Type 0 where
    pub streams : asked.streams ≡ true
    pub text : Text
    pub is : rooms.is_modelled old
        → Meets (asked.outcome (rooms.file old)).answer (said Done text)
    pub fine : outs.faults out' ≡ outs.faults out
    pub breaks : BreaksAt outs errs (known_word words) out out' err err' text ending
        (rooms.why new) status
    pub made : rooms.is_modelled old → LeavesEach rooms disks old new journals HasMade

  -- A run with this status.
  pub record HasRun (status : ℕ) : Type 0 where
    -- How the command ended: it replied, or a file failed, or memory was refused.
    pub ending : Ending
    -- The reply is the one that is asked for, where the contents of all files are known or where
    -- the arguments are no command. Status 1 says that they are none, and they are answered by it.
    -- A failure has its cause, and its file is one of the command. A journal that isn't opened goes
    -- with a status that may come before.
    pub ends : EndsAs (rooms.is_modelled old) (Rose (rooms.faults old) (rooms.faults new))
        (IsErr (command_of words)) (asked.journals ++ (asked.besides ++ asked.inputs)) journals
        (asked.outcome (rooms.file old)) ending
    -- What went out, and the status: of a reply its text or its line, or a prefix of its text and
    -- the line of that; of a failure, and where memory was refused, the line alone, unless the
    -- command was cut off.
    pub concludes : Concludes outs errs (known_word words) out out' err err' ending (rooms.why new)
        status ⊎ CutOff ending status
    -- All that was opened is closed, and no file changes but the journals and those beside them.
    pub back : ClosesAll rooms old new (asked.besides ++ asked.journals)
    -- Each of its journals has what is asked; after a failure it has its record or not, and if
    -- memory was refused it has none. No journal is made but a new one, and none at all if memory
    -- was refused.
    pub made : rooms.is_modelled old → LeavesJournals rooms disks old new journals ending
    -- Of a command that makes a journal, whatever is known of its files: how it ended is what came
    -- of that.
    pub began : IfSome asked.makes (λ name. ModelsNew rooms disks name old new ending)
    -- Of a command that makes the tiles of a log whole: if it did its work, each crash state of
    -- their file has those of the last size in the journal, whatever the file had before, and the
    -- bytes after these stay. If it replied anything else, nothing new is left of the file.
    pub whole : IfSome asked.whole (λ name. MakesTilesWhole h rooms disks old new name ending)
    -- Nothing new is left of a file that the command only reads.
    pub only_read : rooms.is_modelled old
        → LeavesEach rooms disks old new (done_with asked.only_reads []) HasKept
    -- If a journal isn't there, or its file doesn't begin with the header of a journal, the file of
    -- its tiles stays as it was, and isn't made.
    pub spares : OfEach (λ name did. SparesTiles rooms old new name) journals
    -- Of a command on two journals: nothing new is left of the first one, or each crash state of
    -- the second one represents the records that were found in it, where it was opened.
    pub second : rooms.is_modelled old → SecondStands rooms disks old new journals
    -- A new record makes a log, a cosigner or a mirror with those before it; or nothing new is left
    -- of the journal, and it reads as before.
    pub valid : KeepsValid rooms disks asked.Valid asked.journals (asked.outcome (rooms.file old))
        old new
    -- Of the journal of a log or a mirror and the file of its tiles nothing new is left, and the
    -- journal reads as before; or it has the records that were found, or these and the new one, and
    -- what is left of the tiles goes with the records that are left, with the new one wherever it
    -- is there. What goes with what is said of the kind of the first journal; the file beside a
    -- second one is only read.
    pub stores : StoresBeside asked.goes asked.Valid rooms disks old new asked.journals
        asked.besides (asked.outcome (rooms.file old))

  -- It was cut off.
  abbrev pub WasCut : ℕ → Type 0
  WasCut status = (ending : Ending) × CutOff ending status

  -- It answered: there is one reply, the one that is asked for, and it did with its journals what
  -- was asked. The reply went out, or standard output failed at its text.
  pub record Answered (status : ℕ) : Type 0 where
    pub reply : Reply
    pub is : rooms.is_modelled old ⊎ IsErr (command_of words)
        → Meets (asked.outcome (rooms.file old)).answer reply
    pub made : rooms.is_modelled old → LeavesEach rooms disks old new journals HasMade
    pub began : IfSome asked.makes (λ name. ModelsNew rooms disks name old new (replied reply))
    pub concludes : Concludes outs errs (known_word words) out out' err err' (replied reply)
        (rooms.why new) status
