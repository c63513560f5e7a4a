-- What follows of the way in which a command ends.
use Rattle.std.specs.Prelude.{◌≡◌, ◌≢◌, ◌⊎◌, List, [], ◌∷◌, codes, Some}
use Rattle.byte_formats.specs.Types.{Text}
use Rattle.disk_core.specs.declared.disk.Disk.{Ghosts}
use Rattle.mtc_command.specs.Answers.{Ending, replied, room_failed, no_memory, refused, status_of}
use Rattle.mtc_command.specs.declared.answer.Stopped.TheVariants.{Beyond, Missing}
use Rattle.mtc_command.specs.Made.{Journaled, Leaving, HasKept, HasMade, MayHaveMade}
use Rattle.mtc_command.specs.Made.{Adds, MayAdd, ReadsAtMost}
use Rattle.mtc_command.specs.Wanted.{Wanted, Meets}

-- What an ending leaves of a journal.
abbrev pub LeftBy : Ending → Journaled → Leaving
LeftBy (replied reply) did = HasMade did
LeftBy (room_failed file) did = MayHaveMade did
LeftBy no_memory did = HasKept did

-- The file is one of these.
abbrev pub IsNamed : List Text → Text → Type 0
IsNamed [] file = ⊥
IsNamed (name ∷ names) file = (file ≡ name) ⊎ IsNamed names file

-- What an input file stops a command with: it isn't there, it is over its limit, the file system
-- failed at it, or memory was refused.
abbrev pub IsInputStop : Text → Ending → Type 0
IsInputStop file ending = (ending ≡ replied (refused Missing (Some file) (codes "Absent")))
    ⊎ ((ending ≡ replied (refused Beyond (Some file) (codes "TooLong")))
    ⊎ ((ending ≡ room_failed file) ⊎ (ending ≡ no_memory)))

-- The file system is named as the cause only if it failed, and at one of these files; out of memory
-- may come without a cause.
abbrev pub FailedOnly : Type 0 → List Text → Ending → Type 0
FailedOnly Fault files (replied reply) = Unit {0}
FailedOnly Fault files (room_failed file) = Fault × IsNamed files file
FailedOnly Fault files no_memory = Unit {0}

-- The file system is named as the cause only at the first file and if that failed, or at the second
-- one and if that did; out of memory may come without a cause.
abbrev pub FailsAt : Type 0 → Text → Type 0 → Text → Ending → Type 0
FailsAt Fault file Beside beside (replied reply) = Unit {0}
FailsAt Fault file Beside beside (room_failed at) =
    ((at ≡ file) × Fault) ⊎ ((at ≡ beside) × Beside)
FailsAt Fault file Beside beside no_memory = Unit {0}

-- It replies as is wanted, unless memory was refused; the arguments are a command.
abbrev pub Replies : Wanted → Ending → Type 0
Replies wanted (replied reply) = Meets wanted reply × (status_of reply ≢ 1)
Replies wanted (room_failed file) = ⊥
Replies wanted no_memory = Unit {0}

-- The same to arguments that are no command.
abbrev pub RepliesToBadWords : Wanted → Ending → Type 0
RepliesToBadWords wanted (replied reply) = Meets wanted reply × (status_of reply ≡ 1)
RepliesToBadWords wanted (room_failed file) = ⊥
RepliesToBadWords wanted no_memory = Unit {0}

-- What the work after an opening makes of the device, by its ending.
abbrev pub AddsBy : {D : Type 0} → Ghosts D → Ending → Journaled → D → D → Type 0
AddsBy g (replied reply) did mid new = Adds g did mid new
AddsBy g (room_failed file) did mid new = MayAdd g did mid new
AddsBy g no_memory did mid new = ReadsAtMost g mid new
