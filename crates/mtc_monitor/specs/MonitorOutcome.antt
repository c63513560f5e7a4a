-- The outcomes of `monitor-init LOGID` and of `monitor STATE WATCH REQUEST ENTRIES`.
use Rattle.std.specs.Prelude.{List, Result, Ok, Err}
use Rattle.byte_formats.specs.Types.{HashFunction, Text}
use Rattle.cosigner_core.specs.Reading.{advance_in}
use Rattle.cosigner_core.specs.Requests.{AdvanceParts}
use Rattle.entry_list.specs.Reading.{items_in}
use Rattle.monitor_core.specs.Monitor.{monitor_of}
use Rattle.monitor_core.specs.Reading.{state_in, watch_in}
use Rattle.monitor_core.specs.Report.{Findings}
use Rattle.monitor_core.specs.States.{MonitorState, empty_state}
use Rattle.monitor_core.specs.Written.{found_text, state_text}
use Rattle.monitor_core.specs.declared.error.MonitorError.{MonitorError}
use Rattle.mtc_command.specs.declared.answer.Said.TheVariants.{Done}
use Rattle.mtc_command.specs.declared.answer.Stopped.TheVariants.{NotAllowed}
use Rattle.mtc_command.specs.Steps.{Outcome, Files, says, stops, with_bytes, with_form}
use Rattle.cosigner_core.specs.Reasons.{form_fault_text}
use Rattle.entry_list.specs.Reasons.{items_fault_text}
use Rattle.monitor_core.specs.Reasons.{run_fault_text, text_fault_text}

-- The outcome of `monitor-init LOGID`: the line of the state without entries.
abbrev pub monitor_init_outcome : Text → Outcome
monitor_init_outcome log = says Done (state_text (empty_state log))

-- What was found, or why the run is refused.
abbrev pub run_says : Result Findings MonitorError → Outcome
run_says (Ok found) = says Done (found_text found)
run_says (Err why) = stops NotAllowed (run_fault_text why)

-- The entries are read, and the monitor runs.
abbrev pub new_items_say : HashFunction → MonitorState → List Text → AdvanceParts → Text → Text
    → Outcome
new_items_say h kept watch r entries bytes = with_form items_fault_text entries (items_in h bytes)
    (λ items. run_says (monitor_of h kept watch r.log r.size r.root r.proof items.entries))

-- The request is read, and then the entries.
abbrev pub new_size_says : HashFunction → MonitorState → List Text → Text → Text → Text → Text
    → Outcome
new_size_says h kept watch request r entries bytes =
    with_form form_fault_text request (advance_in r)
    (λ parts. new_items_say h kept watch parts entries bytes)

-- The domains are read, and then the request, and so on.
abbrev pub watch_says : HashFunction → MonitorState → Text → Text → Text → Text → Text → Text
    → Outcome
watch_says h kept watch w request r entries bytes = with_form text_fault_text watch (watch_in w)
    (λ domains. new_size_says h kept domains request r entries bytes)

-- The state is read, and then the domains, and so on.
abbrev pub kept_says : HashFunction → Text → Text → Text → Text → Text → Text → Text → Text
    → Outcome
kept_says h state s watch w request r entries bytes = with_form text_fault_text state (state_in s)
    (λ kept. watch_says h kept watch w request r entries bytes)

-- The outcome of `monitor STATE WATCH REQUEST ENTRIES`: the four files are read, at most 8 GiB of
-- the entries and at most 16 MiB of each other one.
abbrev pub monitor_outcome : HashFunction → Text → Text → Text → Text → Files → Outcome
monitor_outcome h state watch request entries files =
    with_bytes 16777216 state (files state)
    (λ s. with_bytes 16777216 watch (files watch)
    (λ w. with_bytes 16777216 request (files request)
    (λ r. with_bytes 8589934592 entries (files entries)
    (λ bytes. kept_says h state s watch w request r entries bytes))))
