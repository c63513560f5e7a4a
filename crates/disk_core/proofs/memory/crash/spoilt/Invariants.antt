use Rattle.std.proofs.Common.{◌≡◌, ◌<◌, ℕ, List, length, slice_index}
use Rattle.disk_core.proofs.memory.crash.spoilt.Given as goal

-- it keeps its size, and each byte that is there already
pub record KeepsThere (there piece : List ℕ) (bytes : List ℕ) : Type 0 where
  pub size : length bytes ≡ length piece
  pub same : (k : ℕ) → k < length piece → k < length there
      → slice_index piece k ≡ slice_index there k → slice_index bytes k ≡ slice_index there k

abbrev pub invariant-loop-index : goal.invariant-loop-index
invariant-loop-index l = KeepsThere l.there l.piece l.bytes.items
