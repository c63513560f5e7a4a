-- What the commands of those who watch a log have to answer is what comes of their plans.
use Rattle.std.proofs.Common.{◌≡◌, ℕ, List, [], ◌∷◌, Result, Ok, Err, refl}
use Rattle.byte_formats.specs.Types.{HashFunction}
use Rattle.cosigner_core.specs.ExportReading.{export_in}
use Rattle.cosigner_core.specs.Reading.{advance_in}
use Rattle.entry_list.specs.Reading.{items_in}
use Rattle.monitor_core.specs.Monitor.{monitor_of}
use Rattle.monitor_core.specs.Reading.{state_in, watch_in}
use Rattle.monitor_core.specs.Report.{Findings}
use Rattle.monitor_core.specs.declared.error.MonitorError.{MonitorError}
use Rattle.mtc_command.specs.Steps.{Files}
use Rattle.cosigner_core.specs.Reasons.{export_fault_text, form_fault_text}
use Rattle.entry_list.specs.Reasons.{items_fault_text}
use Rattle.monitor_core.specs.Reasons.{text_fault_text}
use Rattle.mtc_monitor.specs.HeldOutcome.{held_outcome, held_says, held_text}
use Rattle.mtc_monitor.specs.MonitorOutcome.{kept_says, monitor_init_outcome, monitor_outcome}
use Rattle.mtc_monitor.specs.MonitorOutcome.{run_says}
use Rattle.mtc_monitor.specs.RootOutcome.{root_outcome, root_says, root_text}
use Rattle.command_plans.specs.Kinds.{Kinds}
use Rattle.command_plans.specs.Outcomes.{outcome_of, step_outcome}
use Rattle.command_plans.specs.Plans.{Input, Read, only_prints, in_form, prints}
use Rattle.command_plans.proofs.Forms.{bytes_same, form_same}
use Rattle.mtc_plans.specs.Steps.{list_file, small_file}
use Rattle.mtc_plans.specs.WatchPlans.{held_plan, monitor_init_plan, monitor_plan}
use Rattle.mtc_plans.specs.WatchPlans.{root_plan, run_judged}
use Rattle.mtc_plans.proofs.Texts.{first_read, fourth_read, second_read, third_read, reported_alone}
use Rattle.mtc_command.specs.declared.answer.Said.TheVariants.{Done}

run_same : (r : Result Findings MonitorError) → run_says r ≡ reported_alone (run_judged r)
run_same (Ok found) = refl
run_same (Err why) = refl

module _ (k : Kinds) (h : HashFunction) (files : Files) (inputs : List Input) where
  root_same : (e : Read inputs) → root_says h e.file.name e.text
      ≡ step_outcome {k = k} [] (in_form e items_fault_text (items_in h e.text)
      (λ items. only_prints (prints Done (root_text h items)))) files
  root_same e = form_same [] files e items_fault_text (items_in h e.text) _ _ (λ items. refl)

  held_same : (x : Read inputs) → held_says h x.file.name x.text
      ≡ step_outcome {k = k} [] (in_form x export_fault_text (export_in h x.text)
      (λ kept. only_prints (prints Done (held_text h kept)))) files
  held_same x = form_same [] files x export_fault_text (export_in h x.text) _ _ (λ kept. refl)

  monitor_same : (s w r e : Read inputs)
      → kept_says h s.file.name s.text w.file.name w.text r.file.name r.text e.file.name e.text
      ≡ step_outcome {k = k} [] (in_form s text_fault_text (state_in s.text) (λ kept.
      in_form w text_fault_text (watch_in w.text) (λ domains.
      in_form r form_fault_text (advance_in r.text) (λ p.
      in_form e items_fault_text (items_in h e.text) (λ items.
      only_prints (run_judged
      (monitor_of h kept domains p.log p.size p.root p.proof items.entries))))))) files
  monitor_same s w r e =
      form_same [] files s text_fault_text (state_in s.text) _ _ (λ kept.
      form_same [] files w text_fault_text (watch_in w.text) _ _ (λ domains.
      form_same [] files r form_fault_text (advance_in r.text) _ _ (λ p.
      form_same [] files e items_fault_text (items_in h e.text) _ _ (λ items.
      run_same (monitor_of h kept domains p.log p.size p.root p.proof items.entries)))))

module _ (k : Kinds) (h : HashFunction) where
  pub root_plans : (entries : List ℕ) (files : Files)
      → root_outcome h entries files ≡ outcome_of (root_plan {k = k} h entries) files
  root_plans entries files =
      let one = list_file entries in
      bytes_same 8589934592 entries (files entries) _ _
      (λ b. root_same k h files (one ∷ []) (first_read one [] b))

  pub held_plans : (export : List ℕ) (files : Files)
      → held_outcome h export files ≡ outcome_of (held_plan {k = k} h export) files
  held_plans export files =
      let one = list_file export in
      bytes_same 8589934592 export (files export) _ _
      (λ b. held_same k h files (one ∷ []) (first_read one [] b))

  pub monitor_init_plans : (log : List ℕ) (files : Files)
      → monitor_init_outcome log ≡ outcome_of (monitor_init_plan {k = k} log) files
  monitor_init_plans log files = refl

  pub monitor_plans : (state watch request entries : List ℕ) (files : Files)
      → monitor_outcome h state watch request entries files
      ≡ outcome_of (monitor_plan {k = k} h state watch request entries) files
  monitor_plans state watch request entries files =
      let one = small_file state in
      let two = small_file watch in
      let three = small_file request in
      let four = list_file entries in
      bytes_same 16777216 state (files state) _ _
      (λ s. bytes_same 16777216 watch (files watch) _ _
      (λ w. bytes_same 16777216 request (files request) _ _
      (λ r. bytes_same 8589934592 entries (files entries) _ _
      (λ e. monitor_same k h files (one ∷ (two ∷ (three ∷ (four ∷ []))))
      (first_read one (two ∷ (three ∷ (four ∷ []))) s)
      (second_read one two (three ∷ (four ∷ [])) w)
      (third_read one two three (four ∷ []) r)
      (fourth_read one two three four [] e)))))
