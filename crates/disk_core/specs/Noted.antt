-- What follows from the record of a disk in memory.
use Rattle.std.specs.Prelude.{◌<◌, List, vec_len, vec_capacity}
use Rattle.mtc_io.specs.Counts.{last_count}
use Rattle.disk_core.specs.Calls.{calls_in}
use Rattle.disk_core.specs.declared.memory.call.Made.{Made}
use Rattle.disk_core.specs.declared.memory.calls.Calls.{Calls}

-- all calls, the oldest first
abbrev pub made_calls : Calls → List Made
made_calls calls = calls_in calls.changes.items calls.only_reads

-- there is capacity for a change more, and a number for it
pub record HasCapacity (calls : Calls) : Type 0 where
  pub capacity : vec_len calls.changes < vec_capacity calls.changes
  pub number : calls.made < last_count
