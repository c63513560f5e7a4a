-- The plans of the commands of those who watch a log.
use Rattle.std.specs.Prelude.{[], ◌∷◌, Result, Ok, Err}
use Rattle.byte_formats.specs.Types.{HashFunction, Text}
use Rattle.cosigner_core.specs.ExportReading.{export_in}
use Rattle.cosigner_core.specs.Reading.{advance_in}
use Rattle.entry_list.specs.Reading.{items_in}
use Rattle.monitor_core.specs.Monitor.{monitor_of}
use Rattle.monitor_core.specs.Reading.{state_in, watch_in}
use Rattle.monitor_core.specs.Report.{Findings}
use Rattle.monitor_core.specs.States.{empty_state}
use Rattle.monitor_core.specs.Written.{found_text, state_text}
use Rattle.monitor_core.specs.declared.error.MonitorError.{MonitorError}
use Rattle.mtc_command.specs.declared.answer.Said.TheVariants.{Done}
use Rattle.cosigner_core.specs.Reasons.{export_fault_text, form_fault_text}
use Rattle.entry_list.specs.Reasons.{items_fault_text}
use Rattle.monitor_core.specs.Reasons.{run_fault_text, text_fault_text}
use Rattle.mtc_monitor.specs.HeldOutcome.{held_text}
use Rattle.mtc_monitor.specs.RootOutcome.{root_text}
use Rattle.command_plans.specs.Kinds.{Kinds}
use Rattle.command_plans.specs.Plans.{Judged, Plan, forbids, in_form}
use Rattle.command_plans.specs.Plans.{only_prints, prints}
use Rattle.mtc_plans.specs.Steps.{list_file, small_file}

-- ---- root ENTRIES

-- The entries are read.
abbrev pub root_plan : {k : Kinds} → HashFunction → Text → Plan k
root_plan h entries = record {
  inputs = list_file entries ∷ [];
  journals = [];
  steps = λ (e, none). in_form e items_fault_text (items_in h e.text)
      (λ items. only_prints (prints Done (root_text h items)));
}

-- ---- held EXPORT

-- The export is read.
abbrev pub held_plan : {k : Kinds} → HashFunction → Text → Plan k
held_plan h export = record {
  inputs = list_file export ∷ [];
  journals = [];
  steps = λ (x, none). in_form x export_fault_text (export_in h x.text)
      (λ kept. only_prints (prints Done (held_text h kept)));
}

-- ---- monitor-init LOGID

abbrev pub monitor_init_plan : {k : Kinds} → Text → Plan k
monitor_init_plan log = record {
  inputs = [];
  journals = [];
  steps = λ none. only_prints (prints Done (state_text (empty_state log)));
}

-- ---- monitor STATE WATCH REQUEST ENTRIES

-- What was found, or why the run is refused.
abbrev pub run_judged : Result Findings MonitorError → Judged
run_judged (Ok found) = prints Done (found_text found)
run_judged (Err why) = forbids (run_fault_text why)

-- The state, the domains, the request and the entries are read, and the monitor runs.
abbrev pub monitor_plan : {k : Kinds} → HashFunction → Text → Text → Text → Text → Plan k
monitor_plan h state watch request entries = record {
  inputs =
      small_file state ∷ (small_file watch ∷ (small_file request ∷ (list_file entries ∷ [])));
  journals = [];
  steps = λ (s, (w, (r, (e, none)))).
      in_form s text_fault_text (state_in s.text) (λ kept.
      in_form w text_fault_text (watch_in w.text) (λ domains.
      in_form r form_fault_text (advance_in r.text) (λ p.
      in_form e items_fault_text (items_in h e.text) (λ items.
      only_prints (run_judged
      (monitor_of h kept domains p.log p.size p.root p.proof items.entries))))));
}
