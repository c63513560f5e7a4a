-- What a command leaves of a file system, and how it ends.
use Rattle.std.specs.Prelude.{◌≡◌, ◌≢◌, ◌≤◌, List, [], ◌∷◌, ◌++◌, None}
use Rattle.byte_formats.specs.Types.{Text}
use Rattle.disk_core.specs.declared.disk.Disk.{Ghosts as Disks}
use Rattle.mtc_io.specs.Counts.{Rose}
use Rattle.mtc_room.specs.Places.{place_of}
use Rattle.mtc_room.specs.Room.{Stays}
use Rattle.mtc_room.specs.declared.room.Room.{Ghosts as Rooms}
pub use Rattle.file_events.specs.Worlds.{Journals}
use Rattle.mtc_command.specs.Answers.{Ending, no_memory, IfReply, status_of, IsEarly}
use Rattle.mtc_command.specs.Made.{HasKept, Journaled, IsOnOld, Leaves, Leaving, untouched}
use Rattle.mtc_command.specs.Endings.{FailedOnly, LeftBy, RepliesToBadWords}
use Rattle.mtc_command.specs.Steps.{Outcome}
use Rattle.mtc_command.specs.Wanted.{Meets}

-- This holds of each of them.
abbrev pub OfEach : (Text → Journaled → Type 0) → Journals → Type 0
OfEach P [] = Unit {0}
OfEach P (journal ∷ rest) = P journal.0 journal.1 × OfEach P rest

-- What is done with each journal of these names, in their order. One of which nothing is said isn't
-- opened.
abbrev pub first_journaled : List Journaled → Journaled
first_journaled [] = untouched
first_journaled (did ∷ rest) = did

abbrev pub rest_journaled : List Journaled → List Journaled
rest_journaled [] = []
rest_journaled (did ∷ rest) = rest

abbrev pub done_with : List Text → List Journaled → Journals
done_with [] dids = []
done_with (name ∷ names) dids = (name, first_journaled dids) ∷ done_with names (rest_journaled dids)

-- The name has another place than each of these.
abbrev pub IsOther : (Text → Text) → List Text → Text → Type 0
IsOther leads_to [] name = Unit {0}
IsOther leads_to (other ∷ others) name =
    (place_of leads_to name ≢ place_of leads_to other) × IsOther leads_to others name

module _ {R S D : Type 0} (rooms : Rooms R S D) (old new : R) where
  -- All that was opened is closed, the file system's count of failures has not fallen, and each
  -- file that is at the place of none of these names stays.
  pub record ClosesAll (names : List Text) : Type 0 where
    pub opened : rooms.opened new ≡ rooms.opened old
    pub later : rooms.faults old ≤ rooms.faults new
    pub is_modelled : rooms.is_modelled old → rooms.is_modelled new
    pub others : (name : Text) → IsOther rooms.leads_to names name
        → Stays (rooms.file old) (rooms.file new) (rooms.device old) (rooms.device new) name

  -- No file of this name is made.
  abbrev pub IsUnmade : Text → Type 0
  IsUnmade name = rooms.file old name ≡ None → rooms.file new name ≡ None

module _ {R S D : Type 0} (rooms : Rooms R S D) (disks : Disks D) (old new : R) where
  -- Each journal has left this.
  abbrev pub LeavesEach : Journals → (Journaled → Leaving) → Type 0
  LeavesEach journals How =
      OfEach (λ name did. Leaves disks (How did) (rooms.device old name) (rooms.device new name))
      journals

  -- This file is no journal, and was only read: if the model knows the files, a crash leaves
  -- nothing new of it. It may be created empty.
  abbrev pub OnlyReadsBeside : Text → Type 0
  OnlyReadsBeside beside = rooms.is_modelled old
      → Leaves disks (HasKept untouched) (rooms.device old beside) (rooms.device new beside)

  -- No file is made but a new journal, and none at all where memory was refused.
  pub record LeavesJournals (journals : Journals) (ending : Ending) : Type 0 where
    pub no_file : OfEach (λ name did. IsOnOld did → IsUnmade rooms old new name) journals
    pub unmade : ending ≡ no_memory → OfEach (λ name did. IsUnmade rooms old new name) journals
    pub left : LeavesEach journals (LeftBy ending)

-- A command that has to give this outcome, names these files, and works on these journals ended so.
-- If the model knows the files, the reply is the one that is wanted, and one before which a journal
-- wasn't opened has one of the early statuses. Bad says that the arguments are no command.
pub record EndsAs (Models Fault Bad : Type 0) (files : List Text) (journals : Journals)
    (wanted : Outcome) (ending : Ending) : Type 0 where
  pub reply : IfReply ending (λ reply. Models → Meets wanted.answer reply)
  pub words : Bad → RepliesToBadWords wanted.answer ending
  pub not_words : IfReply ending (λ reply. status_of reply ≡ 1 → Bad)
  pub fault : FailedOnly Fault files ending
  pub early : IfReply ending (λ reply. Models
      → OfEach (λ name did. did ≡ untouched → IsEarly (status_of reply)) journals)

module _ {R S D : Type 0} (rooms : Rooms R S D) (disks : Disks D) (Bad : Type 0)
    (files names besides : List Text) (wanted : Outcome) (old new : R) where
  -- A command that names these files, works on the journals of these names and has to give that
  -- outcome left the file system so, and ended so. The files beside its journals are no journals,
  -- and may be made and changed.
  pub record HasDone (ending : Ending) : Type 0 where
    pub back : ClosesAll rooms old new (besides ++ names)
    pub ends : EndsAs (rooms.is_modelled old) (Rose (rooms.faults old) (rooms.faults new)) Bad files
        (done_with names wanted.journals) wanted ending
    pub made : rooms.is_modelled old
        → LeavesJournals rooms disks old new (done_with names wanted.journals) ending

module _ {R S D : Type 0} (rooms : Rooms R S D) (disks : Disks D) where
  -- A command that only reads these files.
  abbrev pub HasAnswered : List Text → Outcome → R → R → Ending → Type 0
  HasAnswered files wanted = HasDone rooms disks ⊥ files [] [] wanted

  -- A command on the one journal of this name.
  abbrev pub HasServed : List Text → Text → Outcome → R → R → Ending → Type 0
  HasServed files name wanted = HasDone rooms disks ⊥ files (name ∷ []) [] wanted

  -- A command on the one journal of this name, with one file beside it.
  abbrev pub HasServedBeside : List Text → Text → Text → Outcome → R → R → Ending → Type 0
  HasServedBeside files name beside wanted =
      HasDone rooms disks ⊥ files (name ∷ []) (beside ∷ []) wanted
