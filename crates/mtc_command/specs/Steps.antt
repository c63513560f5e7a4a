-- The steps of which each command's outcome is made, in the order of the program's steps.
use Rattle.std.specs.Prelude.{ℕ, nat_lt, List, [], ◌∷◌, length, codes, Option, Some, None, Result}
use Rattle.std.specs.Prelude.{Ok, Err, if◌then◌else◌}
use Rattle.byte_formats.specs.Types.{Text}
use Rattle.mtc_command.specs.Answers.{Reply, said, refused}
use Rattle.mtc_command.specs.Made.{Journaled, reads, appended, started}
use Rattle.mtc_command.specs.Wanted.{Wanted, exactly}
use Rattle.mtc_command.specs.declared.answer.Said.{Said}
use Rattle.mtc_command.specs.declared.answer.Said.TheVariants.{Done}
use Rattle.mtc_command.specs.declared.answer.Stopped.{Stopped}
use Rattle.mtc_command.specs.declared.answer.Stopped.TheVariants.{BadForm, Missing, Beyond}

-- What a command has to reply, and what it does with each of its journals, in the order in which
-- the command names them. It isn't opened if the list has none for it.
pub record Outcome : Type 0 where
  pub answer : Wanted
  pub journals : List Journaled

-- The bytes of each name's file, or none where there is no such file.
abbrev pub Files : Type 0
Files = Text → Option Text

-- The command replies so, and opens no journal.
abbrev pub answers : Reply → Outcome
answers reply = record { answer = exactly reply; journals = [] }

-- It did its work or judged, and this goes to standard output.
abbrev pub says : Said → Text → Outcome
says status text = answers (said status text)

-- It is refused for this reason; for one that is about this file.
abbrev pub stops : Stopped → Text → Outcome
stops why reason = answers (refused why None reason)

abbrev pub stops_at : Stopped → Text → Text → Outcome
stops_at why file reason = answers (refused why (Some file) reason)

-- The same after the opening of a journal, where these records were found.
abbrev pub answers_on : List Text → Reply → Outcome
answers_on list reply = record { answer = exactly reply; journals = reads list ∷ [] }

abbrev pub says_on : List Text → Said → Text → Outcome
says_on list status text = answers_on list (said status text)

abbrev pub stops_on : List Text → Stopped → Text → Outcome
stops_on list why reason = answers_on list (refused why None reason)

-- One record more, and this goes to standard output.
abbrev pub appends : List Text → Text → Text → Outcome
appends list body text = record {
  answer = exactly (said Done text);
  journals = appended list body ∷ [];
}

-- A new journal with this first record.
abbrev pub starts : Text → Text → Outcome
starts body text = record { answer = exactly (said Done text); journals = started body ∷ [] }

-- A file has to be there, and then comes the rest of the command.
abbrev pub with_file : Text → Option Text → (Text → Outcome) → Outcome
with_file file None next = stops_at Missing file (codes "Absent")
with_file file (Some bytes) next = next bytes

-- The bytes of a file that is made empty where it isn't there.
abbrev pub held_in : Option Text → Text
held_in None = []
held_in (Some bytes) = bytes

-- An input file of at most so many bytes is read.
abbrev pub with_bytes : ℕ → Text → Option Text → (Text → Outcome) → Outcome
with_bytes limit file None next = stops_at Missing file (codes "Absent")
with_bytes limit file (Some bytes) next =
    if nat_lt limit (length bytes) then stops_at Beyond file (codes "TooLong") else next bytes

-- A new journal: its name has no file.
abbrev pub with_fresh : Text → Option Text → Outcome → Outcome
with_fresh file None next = next
with_fresh file (Some bytes) next = stops_at Missing file (codes "Exists")

-- A file is read by a grammar. One that isn't in it is refused with the name of the fault.
abbrev pub with_form : {F E : Type 0} → (E → Text) → Text → Result F E → (F → Outcome)
    → Outcome
with_form fault_text file (Ok form) next = next form
with_form fault_text file (Err why) next = stops_at BadForm file (fault_text why)
