-- What `audit` and `quarrel` have to answer is what comes of their plans.
use Rattle.std.proofs.Common.{◌≡◌, ℕ, pos, Bool, true, false, List, [], ◌∷◌, Option, None, Some}
use Rattle.std.proofs.Common.{Result, Ok, Err, refl}
use Rattle.byte_formats.specs.Types.{Hash, HashFunction}
use Rattle.cosigner_core.specs.ExportReading.{export_in}
use Rattle.cosigner_core.specs.declared.lists.Export.{Export}
use Rattle.cosigner_core.specs.declared.step.Step.{Step as CosignerStep}
use Rattle.entry_list.specs.Items.{ItemLists}
use Rattle.entry_list.specs.Reading.{items_in}
use Rattle.policy_core.specs.Files.{store_of}
use Rattle.policy_core.specs.declared.refusal.Refusal.{Refusal}
use Rattle.policy_core.specs.declared.store.Store.{Store}
use Rattle.quarrel_core.specs.Conflicts.{quarrel_of}
use Rattle.world_core.specs.Audit.{AuditCase, foreign_of, has_own, is_supported}
use Rattle.mtc_command.specs.Steps.{Files}
use Rattle.mtc_relying.specs.AuditOutcome.{AcceptedParts, InputFile, accepted_in}
use Rattle.mtc_relying.specs.AuditOutcome.{audit_accepted_says, audit_by, audit_outcome}
use Rattle.mtc_relying.specs.AuditOutcome.{audit_store_says, case_of}
use Rattle.mtc_relying.specs.QuarrelOutcome.{quarrel_by, quarrel_kept, quarrel_outcome}
use Rattle.mtc_relying.specs.QuarrelOutcome.{quarrel_says}
use Rattle.cosigner_core.specs.Reasons.{export_fault_text}
use Rattle.entry_list.specs.Reasons.{items_fault_text}
use Rattle.policy_core.specs.Reasons.{store_fault_text}
use Rattle.command_plans.specs.Kinds.{Kinds}
use Rattle.command_plans.specs.Outcomes.{outcome_of, step_outcome}
use Rattle.command_plans.specs.Plans.{Input, Read, only_prints, in_form}
use Rattle.command_plans.proofs.Forms.{bytes_same, form_same}
use Rattle.mtc_plans.specs.AuditPlans.{audit_judged_by, audit_plan, audited_step}
use Rattle.mtc_plans.specs.AuditPlans.{quarrel_judged, quarrel_judged_by, quarrel_plan}
use Rattle.mtc_plans.specs.Steps.{list_file, small_file}
use Rattle.mtc_plans.proofs.Reading.{verdict_same}
use Rattle.mtc_plans.proofs.Texts.{first_read, fourth_read, second_read, third_read, reported_alone}

by_same : (h : HashFunction) (x : AuditCase) (foreign : Option (Hash × Hash))
    (supported own : Bool)
    → audit_by h x foreign supported own
    ≡ reported_alone (audit_judged_by h x foreign supported own)
by_same h x (Some hashes) supported own = refl
by_same h x None false own = refl
by_same h x None true true = refl
by_same h x None true false = refl

abbrev file_of : {inputs : List Input} → Read inputs → InputFile
file_of read = record { name = read.file.name; text = read.text }

module _ (k : Kinds) (h : HashFunction) (files : Files) (inputs : List Input) where
  audited_same : (c : Read inputs) (store : Store) (items : ItemLists) (kept : Option Export)
      (r : Result AcceptedParts Refusal)
      → audit_accepted_says h c.file.name store items kept r
      ≡ step_outcome {k = k} [] (audited_step h c store items kept r) files
  audited_same c store items kept (Ok j) =
      let x = case_of store items kept j in
      by_same h x (foreign_of h x) (is_supported x) (has_own h x.store x.items x.accepted x.cert)
  audited_same c store items kept (Err why) = verdict_same k h files inputs c (Err why)

  audit_same : (unix_time : ℕ) (c s e x : Read inputs)
      → audit_store_says h (file_of c) (file_of s) unix_time (file_of e) (file_of x)
      ≡ step_outcome {k = k} [] (in_form s store_fault_text (store_of s.text) (λ trusted.
      in_form e items_fault_text (items_in h e.text) (λ items.
      in_form x export_fault_text (export_in h x.text) (λ kept.
      audited_step h c trusted items kept (accepted_in h c.text trusted (pos unix_time))))))
      files
  audit_same unix_time c s e x =
      form_same [] files s store_fault_text (store_of s.text) _ _ (λ store.
      form_same [] files e items_fault_text (items_in h e.text) _ _ (λ items.
      form_same [] files x export_fault_text (export_in h x.text) _ _ (λ kept.
      audited_same c store items kept (accepted_in h c.text store (pos unix_time)))))

pub audit_plans : (k : Kinds) (h : HashFunction) (cert store : List ℕ) (unix_time : ℕ)
    (entries export : List ℕ) (files : Files)
    → audit_outcome h cert store unix_time entries export files
    ≡ outcome_of (audit_plan {k = k} h cert store unix_time entries export) files
audit_plans k h cert store unix_time entries export files =
    let one = small_file cert in
    let two = small_file store in
    let three = list_file entries in
    let four = list_file export in
    bytes_same 16777216 cert (files cert) _ _
    (λ c. bytes_same 16777216 store (files store) _ _
    (λ s. bytes_same 8589934592 entries (files entries) _ _
    (λ e. bytes_same 8589934592 export (files export) _ _
    (λ x. audit_same k h files (one ∷ (two ∷ (three ∷ (four ∷ [])))) unix_time
    (first_read one (two ∷ (three ∷ (four ∷ []))) c)
    (second_read one two (three ∷ (four ∷ [])) s)
    (third_read one two three (four ∷ []) e)
    (fourth_read one two three four [] x)))))

conflict_same : (h : HashFunction) (steps : List CosignerStep) (keys : Option (ℕ × ℕ))
    → quarrel_by h steps keys ≡ reported_alone (quarrel_judged_by h steps keys)
conflict_same h steps None = refl
conflict_same h steps (Some keys) = refl

kept_same : (h : HashFunction) (kept : Option Export)
    → quarrel_kept h kept ≡ reported_alone (quarrel_judged h kept)
kept_same h None = refl
kept_same h (Some kept) = conflict_same h kept.steps (quarrel_of kept.steps)

module _ (k : Kinds) (h : HashFunction) (files : Files) (inputs : List Input) where
  quarrel_same : (x : Read inputs) → quarrel_says h x.file.name x.text
      ≡ step_outcome {k = k} [] (in_form x export_fault_text (export_in h x.text)
      (λ kept. only_prints (quarrel_judged h kept))) files
  quarrel_same x =
      form_same [] files x export_fault_text (export_in h x.text) _ _ (λ kept. kept_same h kept)

pub quarrel_plans : (k : Kinds) (h : HashFunction) (export : List ℕ) (files : Files)
    → quarrel_outcome h export files ≡ outcome_of (quarrel_plan {k = k} h export) files
quarrel_plans k h export files =
    let one = list_file export in
    bytes_same 8589934592 export (files export) _ _
    (λ x. quarrel_same k h files (one ∷ []) (first_read one [] x))
