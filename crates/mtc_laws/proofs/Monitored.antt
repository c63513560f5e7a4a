-- What goes out of `monitor` is what it has to print.
use Rattle.std.proofs.Common.{◌≡◌, ℕ, Bool, true, false, List, Option, None, Some, Result, Ok, Err}
use Rattle.std.proofs.Common.{ap, refl, subst, codes, length, nat_lt, if◌then◌else◌}
use Rattle.byte_formats.specs.Types.{HashFunction}
use Rattle.disk_core.specs.declared.disk.Disk.{Ghosts as Disks}
use Rattle.mtc_io.specs.declared.sink.Sink.{Ghosts as Sinks}
use Rattle.mtc_room.specs.declared.room.Room.{Ghosts as Rooms}
use Rattle.cosigner_core.specs.Reading.{advance_in}
use Rattle.cosigner_core.specs.Reasons.{form_fault_text}
use Rattle.entry_list.specs.Items.{ItemLists}
use Rattle.entry_list.specs.Reading.{items_in}
use Rattle.entry_list.specs.Reasons.{items_fault_text}
use Rattle.monitor_core.specs.Monitor.{monitor_of}
use Rattle.monitor_core.specs.Reading.{state_in, watch_in}
use Rattle.monitor_core.specs.Reasons.{run_fault_text, text_fault_text}
use Rattle.monitor_core.specs.Report.{Findings}
use Rattle.monitor_core.specs.Written.{found_text}
use Rattle.monitor_core.specs.declared.error.MonitorError.{MonitorError}
use Rattle.mtc_words.specs.Commands.{monitor}
use Rattle.mtc_command.specs.Answers.{Reply, refused, said}
use Rattle.mtc_command.specs.Steps.{Files, Outcome, answers, says, stops_at, with_bytes, with_form}
use Rattle.mtc_command.specs.Wanted.{Meets}
use Rattle.mtc_command.specs.declared.answer.Said.{Said}
use Rattle.mtc_command.specs.declared.answer.Said.TheVariants.{Done}
use Rattle.mtc_command.specs.declared.answer.Stopped.{Stopped}
use Rattle.mtc_command.specs.declared.answer.Stopped.TheVariants.{BadForm, Beyond, Missing}
use Rattle.mtc_command.specs.declared.answer.Stopped.TheVariants.{NotAllowed}
use Rattle.mtc_monitor.specs.MonitorOutcome.{kept_says, monitor_outcome, new_items_say}
use Rattle.mtc_monitor.specs.MonitorOutcome.{new_size_says}
use Rattle.mtc_monitor.specs.MonitorOutcome.{run_says, watch_says}
use Rattle.mtc_plans.specs.Heard.{OfSaid}
use Rattle.mtc_plans.proofs.Planned.{outcome_planned}
use Rattle.mtc_top.specs.Executions.{program}
use Rattle.mtc_laws.proofs.HeardRuns.{printed_so}
use Rattle.mtc_laws.proofs.Streams.{plain_command}
use Rattle.mtc_laws.proofs.Printed.{heard_so}
use Rattle.mtc_laws.specs.MonitorLaws.{MonitorsArePrinted}

-- ---- an outcome that may say a text says that text

abbrev SaysItself : Outcome → Type 0
SaysItself o = (status : Said) (text : List ℕ) → Meets o.answer (said status text)
    → (status ≡ Done) × (o ≡ says Done text)

stopped : (why : Stopped) (file : Option (List ℕ)) (reason : List ℕ)
    → SaysItself (answers (refused why file reason))
stopped why file reason status text is = absurd cc

fits_say : (long : Bool) (file bytes : List ℕ) (next : List ℕ → Outcome)
    → ((b : List ℕ) → SaysItself (next b))
    → SaysItself (if long then stops_at Beyond file (codes "TooLong") else next bytes)
fits_say true file bytes next each = stopped Beyond (Some file) (codes "TooLong")
fits_say false file bytes next each = each bytes

bytes_say : (limit : ℕ) (file : List ℕ) (o : Option (List ℕ)) (next : List ℕ → Outcome)
    → ((b : List ℕ) → SaysItself (next b)) → SaysItself (with_bytes limit file o next)
bytes_say limit file None next each = stopped Missing (Some file) (codes "Absent")
bytes_say limit file (Some bytes) next each =
    fits_say (nat_lt limit (length bytes)) file bytes next each

form_says : {F E : Type 0} (fault_text : E → List ℕ) (file : List ℕ) (r : Result F E)
    (next : F → Outcome) → ((form : F) → SaysItself (next form))
    → SaysItself (with_form fault_text file r next)
form_says fault_text file (Ok form) next each = each form
form_says fault_text file (Err why) next each = stopped BadForm (Some file) (fault_text why)

found_says : (r : Result Findings MonitorError) → SaysItself (run_says r)
found_says (Ok found) status text is =
    let done : status ≡ Done = cc in
    let same : found_text found ≡ text = cc in
    (done, ap (says Done) same)
found_says (Err why) status text is =
    stopped NotAllowed None (run_fault_text why) status text is

module _ (h : HashFunction) (files : Files) (state watch request entries : List ℕ) where
  -- what is asked after each file
  abbrev after_entries : List ℕ → List ℕ → List ℕ → List ℕ → Outcome
  after_entries s w r bytes = kept_says h state s watch w request r entries bytes

  abbrev after_request : List ℕ → List ℕ → List ℕ → Outcome
  after_request s w r = with_bytes 8589934592 entries (files entries) (after_entries s w r)

  abbrev after_watch : List ℕ → List ℕ → Outcome
  after_watch s w = with_bytes 16777216 request (files request) (after_request s w)

  abbrev after_state : List ℕ → Outcome
  after_state s = with_bytes 16777216 watch (files watch) (after_watch s)

  entries_say : (s w r bytes : List ℕ) → SaysItself (after_entries s w r bytes)
  entries_say s w r bytes =
      form_says text_fault_text state (state_in s)
      (λ kept. watch_says h kept watch w request r entries bytes) (λ kept.
      form_says text_fault_text watch (watch_in w)
      (λ domains. new_size_says h kept domains request r entries bytes) (λ domains.
      form_says form_fault_text request (advance_in r)
      (λ parts. new_items_say h kept domains parts entries bytes) (λ parts.
      form_says items_fault_text entries (items_in h bytes) (λ (items : ItemLists). run_says
      (monitor_of h kept domains parts.log parts.size parts.root parts.proof items.entries))
      (λ items. found_says
      (monitor_of h kept domains parts.log parts.size parts.root parts.proof items.entries)))))

  outcome_says : SaysItself (monitor_outcome h state watch request entries files)
  outcome_says =
      bytes_say 16777216 state (files state) after_state (λ s.
      bytes_say 16777216 watch (files watch) (after_watch s) (λ w.
      bytes_say 16777216 request (files request) (after_request s w) (λ r.
      bytes_say 8589934592 entries (files entries) (after_entries s w r) (λ bytes.
      entries_say s w r bytes))))

  -- what the command may say
  record MonitorSaysSo (reply : Reply) : Type 0 where
    text : List ℕ
    asked : monitor_outcome h state watch request entries files ≡ says Done text
    reply_is : reply ≡ said Done text

  monitor_said : OfSaid (monitor_outcome h state watch request entries files) MonitorSaysSo
  monitor_said status text meets =
      let s = outcome_says status text meets in
      record {
        text = text;
        asked = s.1;
        reply_is = ap (λ (k : Said). said k text) s.0;
      }

module _ {R S D O E : Type 0} (h : HashFunction) (rooms : Rooms R S D) (disks : Disks D)
    (outs : Sinks O) (errs : Sinks E) where
  pub monitors_printed : MonitorsArePrinted h (program h rooms disks outs errs)
  monitors_printed state watch request entries old run is_modelled is_run spoken heard =
      let files : Files = rooms.file old in
      let command = monitor state watch request entries in
      let P : Reply → Type 0 = MonitorSaysSo h files state watch request entries in
      let s = heard_so h rooms disks outs errs old run command spoken is_modelled is_run heard P
      (subst (λ (o : Outcome). OfSaid o P) (outcome_planned h command files)
      (monitor_said h files state watch request entries)) in
      record {
        text = s.text;
        asked = s.asked;
        printed = printed_so h rooms disks outs errs old run is_run heard
            (plain_command h command spoken refl) s.text s.reply_is;
      }
