-- What contracts see of the streams in memory.
use Rattle.std.specs.Prelude.{ℕ, List}
use Rattle.byte_formats.specs.Types.{Text}

-- a source in memory: the bytes left, the number of calls so far, the numbers of the calls that
-- fail, the failures so far
pub record SourceState : Type 0 where
  pub left : Text
  pub calls : ℕ
  pub failing : List ℕ
  pub faults : ℕ

-- a sink in memory: the bytes taken, how many it takes at a time, and as above;
-- `failed_allocations` counts the faults that came because memory ran out
pub record SinkState : Type 0 where
  pub taken : Text
  pub per_call : ℕ
  pub calls : ℕ
  pub failing : List ℕ
  pub faults : ℕ
  pub failed_allocations : ℕ
