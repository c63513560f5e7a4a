-- Runs one after another.
use Rattle.std.proofs.Common.{◌≡◌, ◌+◌, List, [], ◌∷◌, ◌++◌, length, refl, sym, ap, ◌∙◌, subst}
use Rattle.std.proofs.Common.{append-nil, append_assoc}
use Rattle.std.specs.List.{flat_map}
use Rattle.std.proofs.lemmas.List.{length-append}
use Rattle.byte_formats.specs.Types.{HashFunction, Text}
use Rattle.collide.specs.Laws.{ListsExtract}
use Rattle.tree_peaks.proofs.Pushing.{no_leaves}
use Rattle.monitor_core.proofs.Exact.{MonitorIsExact_always, state-root, state-size}
use Rattle.monitor_core.proofs.Reports.{report-none, report-parts}
use Rattle.monitor_core.specs.Chains.{AreRuns, EachEntryOnce, MonitorRun, MonitorsSawOneList}
use Rattle.monitor_core.specs.Chains.{StatesAreOfOneList, found_lines, last_state, run_entries}
use Rattle.monitor_core.specs.Report.{Findings, report_of}
use Rattle.monitor_core.specs.States.{IsStateOf, MonitorState, empty_state}

-- what runs from the state of a list reported, and the list of the last state
record HaveReported (h : HashFunction) (watch old : List Text) (kept : MonitorState)
    (runs : List MonitorRun) (found : List Findings) : Type 0 where
  lines : flat_map found_lines found ≡ report_of watch (length old) (flat_map run_entries runs)
  state : IsStateOf h (old ++ flat_map run_entries runs) (last_state kept found)
  log : (last_state kept found).log ≡ kept.log

have_reported : (h : HashFunction) (watch old : List Text) (kept : MonitorState)
    (runs : List MonitorRun) (found : List Findings) → IsStateOf h old kept
    → AreRuns h watch kept runs found → HaveReported h watch old kept runs found
have_reported h watch old kept [] [] are all =
    let P : List Text → Type 0 = λ entries. IsStateOf h entries kept in
    record {
      lines = sym (report-none watch (length old));
      state = subst P (sym (append-nil old)) are;
      log = refl;
    }
have_reported h watch old kept [] (one ∷ others) are all = absurd all
have_reported h watch old kept (run ∷ runs) [] are all = absurd all
have_reported h watch old kept (run ∷ runs) (one ∷ others) are all =
    let first = (MonitorIsExact_always h).found kept watch run.log run.size run.root run.proof old
    run.entries one are all.0 in
    let more = have_reported h watch (old ++ run.entries) one.state runs others first.state all.1 in
    let entries : List Text = flat_map run_entries runs in
    let P : List Text → Type 0 = λ list. IsStateOf h list (last_state one.state others) in
    record {
      lines = ap (λ lines. lines ++ flat_map found_lines others) first.lines
          ∙ ap (λ lines. report_of watch (length old) run.entries ++ lines) (more.lines
          ∙ ap (λ n. report_of watch n entries) (length-append old run.entries))
          ∙ sym (report-parts watch (length old) run.entries entries);
      state = subst P (append_assoc old run.entries entries) more.state;
      log = more.log ∙ first.log;
    }

pub EachEntryOnce_always : (h : HashFunction) → EachEntryOnce h
EachEntryOnce_always h log watch runs found all =
    let none : IsStateOf h [] (empty_state log) = no_leaves h in
    let reported = have_reported h watch [] (empty_state log) runs found none all in
    (reported.lines, reported.state)

-- the log is the same all along
pub last_log : (h : HashFunction) (watch : List Text) (log : Text) (runs : List MonitorRun)
    (found : List Findings) → AreRuns h watch (empty_state log) runs found
    → (last_state (empty_state log) found).log ≡ log
last_log h watch log runs found all =
    (have_reported h watch [] (empty_state log) runs found (no_leaves h) all).log

pub states_of_one : (h : HashFunction) → ListsExtract h → StatesAreOfOneList h
states_of_one h extract first second state one other =
    extract first second (sym (state-size h state first one) ∙ state-size h state second other)
    (sym (state-root h state first one) ∙ state-root h state second other)

pub monitors_saw_one : (h : HashFunction) → ListsExtract h → MonitorsSawOneList h
monitors_saw_one h extract log watch other_watch runs others found other_found one other same =
    let first = (EachEntryOnce_always h log watch runs found one).1 in
    let second = (EachEntryOnce_always h log other_watch others other_found other).1 in
    let P : MonitorState → Type 0 = λ state. IsStateOf h (flat_map run_entries runs) state in
    states_of_one h extract (flat_map run_entries runs) (flat_map run_entries others)
    (last_state (empty_state log) other_found) (subst P same first) second
