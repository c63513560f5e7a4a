-- The calls of a disk in memory, as its record has them: each one that changes the file, and how
-- many that only read came between two of these.
use Rattle.std.specs.Prelude.{ℕ, Bool, true, List, [], ◌∷◌, ◌++◌, replicate}
use Rattle.std.specs.List.{list_all}
use Rattle.disk_core.specs.Fuse.{is_change}
use Rattle.disk_core.specs.declared.memory.call.Call.TheVariants.{Len}
use Rattle.disk_core.specs.declared.memory.call.Change.{Change}
use Rattle.disk_core.specs.declared.memory.call.Made.{Made}

-- a call that only read: its arguments aren't recorded, nor is its answer
abbrev pub only_read : Made
only_read = record { call = Len; ok = true }

-- all calls, the oldest first, with so many that only read after the last change
abbrev pub calls_in : List Change → ℕ → List Made
calls_in [] only_reads = replicate only_reads only_read
calls_in (change ∷ changes) only_reads =
    replicate change.only_reads only_read ++ change.made ∷ calls_in changes only_reads

-- each of them is a write or a sync
abbrev pub are_changes : List Change → Bool
are_changes changes = list_all (λ change. is_change change.made.call) changes
