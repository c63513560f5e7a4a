-- What writing after an offset leaves.
use Rattle.std.proofs.Common.{ℕ, ◌≤◌, min, List, length, take, sym, ◌∙◌, ap}
use Rattle.std.proofs.Common.{arith}
use Rattle.std.proofs.lemmas.List.{take_min, take-take}
use Rattle.disk_core.specs.Disk.{Torn}
use Rattle.disk_core.specs.declared.disk.Disk.{Ghosts}
use Rattle.disk_core.proofs.Torn.{torn_before}
use Rattle.tile_store.specs.Writing.{IsCrashStateAfter, KeepsPrefix}

pub prefix-same : (place : ℕ) (bytes : List ℕ) → KeepsPrefix place bytes bytes
prefix-same place bytes = record { no_shorter = omega arith; prefix = take_min place bytes }

pub prefix-torn : (place : ℕ) (piece old new : List ℕ) → Torn place piece old new
    → KeepsPrefix place old new
prefix-torn place piece old new torn = record {
  no_shorter = torn.no_shorter;
  prefix = torn_before place piece old new torn;
}

-- an offset further on, and one step after another
pub prefix-less : (less place : ℕ) (old new : List ℕ) → less ≤ place → KeepsPrefix place old new
    → KeepsPrefix less old new
prefix-less less place old new within keeps = record {
  no_shorter = keeps.no_shorter;
  prefix =
      let size : min less (length old) ≤ min place (length old) = omega arith in
      sym (take-take (min less (length old)) (min place (length old)) new size)
      ∙ ap (take (min less (length old))) keeps.prefix
      ∙ take-take (min less (length old)) place old (omega arith) ∙ take_min less old;
}

pub prefix-on : (place : ℕ) (old mid new : List ℕ) → KeepsPrefix place old mid
    → KeepsPrefix place mid new → KeepsPrefix place old new
prefix-on place old mid new first second =
    let longer = first.no_shorter in
    let more = second.no_shorter in
    record {
      no_shorter = omega arith;
      prefix =
          let size : min place (length old) ≤ min place (length mid) = omega arith in
          sym (take-take (min place (length old)) (min place (length mid)) new size)
          ∙ ap (take (min place (length old))) second.prefix
          ∙ take-take (min place (length old)) place mid (omega arith)
          ∙ first.prefix;
    }

module _ {T : Type 0} (g : Ghosts T) where
  -- nothing was written yet
  pub following-now : (old : T) (place : ℕ) (crash_state : List ℕ) → g.may_leave old crash_state
      → IsCrashStateAfter g old place crash_state
  following-now old place crash_state left = record {
    before = crash_state;
    left = left;
    keeps = prefix-same place crash_state;
  }
