-- Which calls of a disk in memory fail, and what its record keeps of them.
use Rattle.std.specs.Prelude.{◌≡◌, ◌<◌, ◌⊎◌, Bool, false, if◌then◌else◌, [], ◌∷◌, ◌++◌, length}
use Rattle.std.specs.Prelude.{Contains}
use Rattle.mtc_io.specs.Counts.{last_count, with_count}
use Rattle.disk_core.specs.Calls.{only_read}
use Rattle.disk_core.specs.Noted.{made_calls}
use Rattle.disk_core.specs.declared.memory.call.Call.{Call}
use Rattle.disk_core.specs.declared.memory.call.Call.TheVariants.{Len, Read, Write, Sync}
use Rattle.disk_core.specs.declared.memory.call.Made.{Made}
use Rattle.disk_core.specs.declared.memory.history.History.{History}
use Rattle.disk_core.specs.declared.memory.plan.Plan.{Plan}

-- The call is made: the record has it so after the others. How many there were before is its
-- number, and it fails exactly if that is listed, with one failure more.
pub record IsMade (plan : Plan) (past : History) (made : Made) (ok : Bool)
    (plan' : Plan) (past' : History) : Type 0 where
  pub calls : made_calls past'.calls ≡ made_calls past.calls ++ made ∷ []
  pub listed : Contains plan.failing.items (length (made_calls past.calls)) → ok ≡ false
  pub other : ok ≡ false → Contains plan.failing.items (length (made_calls past.calls))
  pub failed_allocations : plan'.failed_allocations ≡ plan.failed_allocations
  pub faults : plan'.faults ≡ (if ok then plan.faults else with_count plan.faults 1)

-- The call finds no memory, or no number is left: it fails, takes none, and is counted once in each
-- count.
pub record FailsAllocation (plan : Plan) (past : History) (ok : Bool)
    (plan' : Plan) (past' : History) : Type 0 where
  pub failed : ok ≡ false
  pub calls : made_calls past'.calls ≡ made_calls past.calls
  pub failed_allocations : plan'.failed_allocations ≡ with_count plan.failed_allocations 1
  pub faults : plan'.faults ≡ with_count plan.faults 1

-- a call, as the record and the counts show it: it is made, or it finds no memory
pub record NotedTurn (plan : Plan) (past : History) (made : Made) (ok : Bool)
    (plan' : Plan) (past' : History) : Type 0 where
  pub first : past'.first ≡ past.first
  pub failing : plan'.failing ≡ plan.failing
  pub either : IsMade plan past made ok plan' past' ⊎ FailsAllocation plan past ok plan' past'

-- A call that only reads takes no memory: it is counted as long as there is a number for it. The
-- record of changes doesn't grow.
pub record ReadTurn (plan : Plan) (past : History) (ok : Bool)
    (plan' : Plan) (past' : History) : Type 0 where
  pub turn : NotedTurn plan past only_read ok plan' past'
  pub changes : past'.calls.changes.items ≡ past.calls.changes.items
  pub counted : length (made_calls past.calls) < last_count
      → made_calls past'.calls ≡ made_calls past.calls ++ only_read ∷ []

-- One call of a disk in memory.
abbrev pub PlanTurn : Plan → History → Call → Bool → Plan → History → Type 0
PlanTurn plan past Len ok plan' past' = ReadTurn plan past ok plan' past'
PlanTurn plan past (Read place size) ok plan' past' = ReadTurn plan past ok plan' past'
PlanTurn plan past (Write place piece) ok plan' past' =
    NotedTurn plan past (record { call = Write place piece; ok = ok }) ok plan' past'
PlanTurn plan past Sync ok plan' past' =
    NotedTurn plan past (record { call = Sync; ok = ok }) ok plan' past'
