-- What holds of a run of a monitor, for a hash function h.
use Rattle.std.specs.Prelude.{◌≡◌, ◌<◌, ◌↔◌, ℕ, List, [], ◌++◌, length, is_ok, true, Ok}
use Rattle.byte_formats.specs.Types.{Hash, HashFunction, Text}
use Rattle.tree_core.specs.Tree.{tree_hash}
use Rattle.tree_proofs.specs.ProofLaws.{IsShownPrefix}
use Rattle.tree_proofs.specs.declared.checkpoint.Checkpoint.{Checkpoint}
use Rattle.monitor_core.specs.Monitor.{monitor_of}
use Rattle.monitor_core.specs.Report.{Findings, report_of}
use Rattle.monitor_core.specs.States.{IsStateOf, MonitorState, empty_state}

-- How many entries a list has, and its tree hash.
abbrev pub list_checkpoint : HashFunction → List Text → Checkpoint
list_checkpoint h entries = record { size = length entries; root = tree_hash h entries }

-- New entries lead from a list of the log with one id to this size and root of the log with that
-- id: the list with them has that size, which is above its own, and that tree hash, and the
-- proof shows that the list stood there before.
pub record LeadsOn (h : HashFunction) (kept log : Text) (size : ℕ) (root : Hash)
    (proof : List Hash) (old new : List Text) : Type 0 where
  pub id : log ≡ kept
  pub whole : size ≡ length (old ++ new)
  pub newer : length old < size
  pub shown : IsShownPrefix h (list_checkpoint h old) size root proof
  pub hash : tree_hash h (old ++ new) ≡ root

-- The report of the new entries, and the state of the list with them.
pub record HasReported (h : HashFunction) (kept : MonitorState) (watch old new : List Text)
    (found : Findings) : Type 0 where
  pub lines : found.lines ≡ report_of watch (length old) new
  pub log : found.state.log ≡ kept.log
  pub state : IsStateOf h (old ++ new) found.state

-- The empty list has the state without entries. For every list that has the state, and all new
-- entries: the answer is Ok exactly if they lead on, and then this was found.
pub record MonitorIsExact (h : HashFunction) : Type 0 where
  pub empty : (log : Text) → IsStateOf h [] (empty_state log)
  pub ok : (kept : MonitorState) (watch : List Text) (log : Text) (size : ℕ) (root : Hash)
      (proof : List Hash) (old new : List Text) → IsStateOf h old kept
      → (is_ok (monitor_of h kept watch log size root proof new) ≡ true)
      ↔ LeadsOn h kept.log log size root proof old new
  pub found : (kept : MonitorState) (watch : List Text) (log : Text) (size : ℕ) (root : Hash)
      (proof : List Hash) (old new : List Text) (found : Findings) → IsStateOf h old kept
      → monitor_of h kept watch log size root proof new ≡ Ok found
      → HasReported h kept watch old new found
