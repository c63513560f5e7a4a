-- What a `MemDisk` shows.
use Rattle.std.specs.Prelude.{◌≡◌, ℕ, List, [], length}
use Rattle.byte_formats.specs.Types.{Text}
use Rattle.disk_core.specs.History.{seen_of, left_of}
use Rattle.disk_core.specs.Noted.{made_calls}
use Rattle.disk_core.specs.declared.memory.call.Change.{Change}
use Rattle.disk_core.specs.declared.memory.call.Made.{Made}
use Rattle.disk_core.specs.declared.memory.mem_disk.MemDisk.{MemDisk}

-- what it held at first
abbrev pub first_of : MemDisk → Text
first_of m = m.past.first

-- the record of its calls, the oldest first: those that change the file, and how many that only
-- read came before each
abbrev pub changes_of : MemDisk → List Change
changes_of m = m.past.calls.changes.items

-- all its calls by the record, the oldest first
abbrev pub calls_of : MemDisk → List Made
calls_of m = made_calls m.past.calls

-- what a read gives
abbrev pub bytes_of : MemDisk → Text
bytes_of m = seen_of m.past

-- what a crash now may leave
abbrev pub crash_states_of : MemDisk → Text → Type 0
crash_states_of m = left_of m.past

-- the known length
abbrev pub known_of : MemDisk → ℕ
known_of m = m.known

-- how many calls its record has, which is the number of the next one
abbrev pub made_of : MemDisk → ℕ
made_of m = length (calls_of m)

-- the numbers of the calls that fail
abbrev pub failing_of : MemDisk → List ℕ
failing_of m = m.plan.failing.items

-- its count of failures
abbrev pub faults_of : MemDisk → ℕ
faults_of m = m.plan.faults

-- the count of the failures that found no memory or no number
abbrev pub failed_allocations_of : MemDisk → ℕ
failed_allocations_of m = m.plan.failed_allocations

-- a disk over these bytes that has had no call
pub record IsFresh (bytes : Text) (m : MemDisk) : Type 0 where
  pub first : first_of m ≡ bytes
  pub calls : calls_of m ≡ []
  pub known : known_of m ≡ 0
  pub faults : faults_of m ≡ 0
  pub failed_allocations : failed_allocations_of m ≡ 0
