-- What the calls of a file system do. The files of a file system are a function from names to
-- bytes, and one from names to devices.
use Rattle.std.specs.Prelude.{◌≡◌, ◌≢◌, ℕ, ◌+◌, ◌≤◌, Option, None, Some, Result, is_ok, []}
use Rattle.std.specs.Prelude.{IsSome, IsErrOf, OnErr, OnOk, if◌then◌else◌}
use Rattle.std.specs.Option.{IsSomeAnd}
use Rattle.byte_formats.specs.Types.{Text}
use Rattle.disk_core.specs.Same.{SameDevice}
use Rattle.disk_core.specs.declared.disk.Disk.{Ghosts}
use Rattle.mtc_io.specs.Counts.{Rose, HasCause}
use Rattle.mtc_room.specs.Places.{place_of}
use Rattle.mtc_room.specs.declared.error.RoomError.{RoomError}
use Rattle.mtc_room.specs.declared.error.RoomError.TheVariants.{Absent, Exists, Failed}

-- A call that opens: on Ok one object more is open. `Failed` comes only with a failure, and Ok and
-- the other refusals without one.
pub record Opens {T : Type 0} (opened opened' faults faults' : ℕ)
    (result : Result T RoomError) : Type 0 where
  pub out : opened' ≡ (if is_ok result then opened + 1 else opened)
  pub later : faults ≤ faults'
  pub fine : OnOk result (faults' ≡ faults)
  pub failed : IsErrOf result Failed → Rose faults faults'
  pub absent : IsErrOf result Absent → faults' ≡ faults
  pub exists : IsErrOf result Exists → faults' ≡ faults

-- A call that opens, and is refused only for a failure: on Ok one object more is open, and no
-- failure is counted.
pub record OpensOrFails {T E : Type 0} (opened opened' faults faults' : ℕ)
    (result : Result T E) : Type 0 where
  pub out : opened' ≡ (if is_ok result then opened + 1 else opened)
  pub cause : HasCause faults faults' result

-- the file of this name, and its device, are as they were
pub record Stays {D : Type 0} (file file' : Text → Option Text)
    (device device' : Text → Option D) (name : Text) : Type 0 where
  pub bytes : file' name ≡ file name
  pub disk : device' name ≡ device name

-- each file, and each device, is as it was
abbrev pub AllStay : {D : Type 0} → (Text → Option Text) → (Text → Option Text)
    → (Text → Option D) → (Text → Option D) → Type 0
AllStay file file' device device' = (name : Text) → Stays file file' device device' name

-- so is each of another place than this name has
abbrev pub OthersStay : {D : Type 0} → (Text → Text) → (Text → Option Text)
    → (Text → Option Text) → (Text → Option D) → (Text → Option D) → Text → Type 0
OthersStay leads_to file file' device device' but = (name : Text)
    → place_of leads_to name ≢ place_of leads_to but → Stays file file' device device' name

-- there is a file, and what was opened has its bytes
pub record OpensBytes (file opened : Option Text) : Type 0 where
  pub there : IsSome file
  pub same : opened ≡ file

-- a name has a file exactly if it has a device, and that has the file's bytes
abbrev pub ModelsFile : {D : Type 0} → (D → Option Text) → Option Text → Option D → Type 0
ModelsFile contents file None = file ≡ None
ModelsFile contents file (Some d) = (contents d ≡ file) × IsSome file

-- A call that makes the file of this name, or finds it, leaves each other file and device. If it is
-- refused it leaves this one too.
pub record LeavesOthers {D T E : Type 0} (Models Models' : Type 0) (leads_to : Text → Text)
    (file file' : Text → Option Text) (device device' : Text → Option D) (name : Text)
    (result : Result T E) : Type 0 where
  pub others : OthersStay leads_to file file' device device' name
  pub err : OnErr result (Stays file file' device device' name)
  pub is_modelled : Models → Models'

-- What a call that only makes files answers, by the file of the name and its device before the
-- call, if the model knows the files: Ok only if there is none, and `Exists` only if there is one.
-- `Absent` never comes.
pub record MakesOnly {D T : Type 0} (Models : Type 0) (file : Option Text) (device : Option D)
    (result : Result T RoomError) : Type 0 where
  pub was_absent : OnOk result (Models → file ≡ None)
  pub no_device : OnOk result (Models → device ≡ None)
  pub exists : IsErrOf result Exists → Models → IsSome file
  pub never : IsErrOf result Absent → ⊥

module _ {D : Type 0} (g : Ghosts D) (Models : Type 0) where
  -- The device that was opened of a file that was made: both are empty, a crash leaves nothing of
  -- it, and it has had no call and no failure.
  pub record IsMadeEmpty (file : Option Text) (stored : Option D) (opened : D) : Type 0 where
    pub empty : Models → (file ≡ Some []) × (g.contents opened ≡ Some [])
    pub device : Models → IsSomeAnd stored (λ d. SameDevice g d opened)
    pub only : Models → (c : Text) → g.may_leave opened c → c ≡ []
    pub time : g.clock_at opened ≡ 0
    pub begins : g.faults opened ≡ 0

  -- The device that was opened of a file that was found, or made if there was none before the call.
  -- It has no failure, reads as the file does, and leaves after a crash what the file's device
  -- leaves; of a new file that is nothing.
  pub record IsFoundOrNew (before file : Option Text) (stored : Option D) (opened : D) : Type 0
    where
      pub made : Models → before ≡ None → file ≡ Some []
      pub bytes : Models → OpensBytes file (g.contents opened)
      pub device : Models → IsSomeAnd stored (λ d. SameDevice g d opened)
      pub only : Models → before ≡ None → (c : Text) → g.may_leave opened c → c ≡ []
      pub time : Models → before ≡ None → g.clock_at opened ≡ 0
      pub begins : g.faults opened ≡ 0
