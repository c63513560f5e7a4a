-- Runs of a monitor one after another, each from the state that the one before left.
use Rattle.std.specs.Prelude.{◌≡◌, ◌⊎◌, ◌<◌, ◌^◌, ℕ, List, [], ◌∷◌, length, Ok}
use Rattle.std.specs.List.{flat_map}
use Rattle.byte_formats.specs.Types.{Hash, HashFunction, Text}
use Rattle.collide.specs.Extraction.{HasCollision}
use Rattle.collide.specs.Inputs.{inputs_of}
use Rattle.tls_wire.specs.Arcs.{IsAnchorId}
use Rattle.monitor_core.specs.Monitor.{monitor_of}
use Rattle.monitor_core.specs.Report.{Findings, report_of}
use Rattle.monitor_core.specs.States.{IsHash, IsStateOf, MonitorState, empty_state}
use Rattle.monitor_core.specs.Written.{state_text}
use Rattle.monitor_core.specs.declared.lines.Line.{Line}

-- What a run is given in addition to the state and the watched domains.
pub record MonitorRun : Type 0 where
  pub log : Text
  pub size : ℕ
  pub root : Hash
  pub proof : List Hash
  pub entries : List Text

-- The entries of a run, and the lines of one.
abbrev pub run_entries : MonitorRun → List Text
run_entries run = run.entries

abbrev pub found_lines : Findings → List Line
found_lines found = found.lines

-- The first run begins at this state, each later one at the state of the one before, and each was
-- answered with what is listed for it.
abbrev pub AreRuns : HashFunction → List Text → MonitorState → List MonitorRun → List Findings
    → Type 0
AreRuns h watch kept [] [] = Unit {0}
AreRuns h watch kept (run ∷ runs) (found ∷ others) =
    (monitor_of h kept watch run.log run.size run.root run.proof run.entries ≡ Ok found)
    × AreRuns h watch found.state runs others
AreRuns h watch kept runs others = ⊥

-- The state that runs leave: that of the last one.
abbrev pub last_state : MonitorState → List Findings → MonitorState
last_state kept [] = kept
last_state kept (found ∷ others) = last_state found.state others

-- Over all runs from the empty state each entry is reported once, under its own index, and the last
-- state is that of all entries.
abbrev pub EachEntryOnce : HashFunction → Type 0
EachEntryOnce h = (log : Text) (watch : List Text) (runs : List MonitorRun)
    (found : List Findings) → AreRuns h watch (empty_state log) runs found
    → (flat_map found_lines found ≡ report_of watch 0 (flat_map run_entries runs))
    × IsStateOf h (flat_map run_entries runs) (last_state (empty_state log) found)

-- Two lists whose states are one are one list, or they show two strings with one hash.
abbrev pub StatesAreOfOneList : HashFunction → Type 0
StatesAreOfOneList h = (first second : List Text) (state : MonitorState)
    → IsStateOf h first state → IsStateOf h second state
    → (first ≡ second) ⊎ HasCollision h (inputs_of h first) (inputs_of h second)

-- Two monitors of one log that end at one state saw one list, whatever they watch and however their
-- runs were cut, or their lists show two strings with one hash.
abbrev pub MonitorsSawOneList : HashFunction → Type 0
MonitorsSawOneList h = (log : Text) (watch other_watch : List Text) (runs others : List MonitorRun)
    (found other_found : List Findings)
    → AreRuns h watch (empty_state log) runs found
    → AreRuns h other_watch (empty_state log) others other_found
    → last_state (empty_state log) found ≡ last_state (empty_state log) other_found
    → (flat_map run_entries runs ≡ flat_map run_entries others)
    ⊎ HasCollision h (inputs_of h (flat_map run_entries runs))
    (inputs_of h (flat_map run_entries others))

-- Each value of the hash function is a hash of 32 bytes, as each of SHA-256 is.
abbrev pub GivesHashes : HashFunction → Type 0
GivesHashes h = (text : Text) → IsHash (h text)

-- The same of two monitors of one log whose texts end with one line, where the lists have fewer
-- than 2^63 entries.
abbrev pub LastLinesAreOfOneList : HashFunction → Type 0
LastLinesAreOfOneList h = (log : Text) (watch other_watch : List Text)
    (runs others : List MonitorRun) (found other_found : List Findings)
    → GivesHashes h → IsAnchorId log
    → AreRuns h watch (empty_state log) runs found
    → AreRuns h other_watch (empty_state log) others other_found
    → length (flat_map run_entries runs) < 2 ^ 63
    → length (flat_map run_entries others) < 2 ^ 63
    → state_text (last_state (empty_state log) found)
    ≡ state_text (last_state (empty_state log) other_found)
    → (flat_map run_entries runs ≡ flat_map run_entries others)
    ⊎ HasCollision h (inputs_of h (flat_map run_entries runs))
    (inputs_of h (flat_map run_entries others))
