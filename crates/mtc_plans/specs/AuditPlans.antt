-- The plans of `audit CERT STORE NOW ENTRIES EXPORT` and `quarrel EXPORT`.
use Rattle.std.specs.Prelude.{ℕ, pos, Bool, true, false, List, [], ◌∷◌, Option, None, Some}
use Rattle.std.specs.Prelude.{Result, Ok, Err}
use Rattle.byte_formats.specs.Types.{Hash, HashFunction, Text}
use Rattle.cosigner_core.specs.ExportReading.{export_in}
use Rattle.cosigner_core.specs.declared.lists.Export.{Export}
use Rattle.cosigner_core.specs.declared.step.Step.{Step as CosignerStep}
use Rattle.cosigner_steps.specs.Steps.{proof_inputs}
use Rattle.entry_list.specs.Items.{ItemLists}
use Rattle.entry_list.specs.Reading.{items_in}
use Rattle.policy_core.specs.Files.{store_of}
use Rattle.policy_core.specs.declared.refusal.Refusal.{Refusal}
use Rattle.policy_core.specs.declared.store.Store.{Store}
use Rattle.quarrel_core.specs.Conflicts.{quarrel_of}
use Rattle.world_core.specs.Audit.{AuditCase, firsts_of, foreign_of, has_own, is_supported}
use Rattle.world_core.specs.Audit.{seconds_of}
use Rattle.mtc_command.specs.declared.answer.Said.TheVariants.{Against, Collided, Done}
use Rattle.mtc_relying.specs.AuditOutcome.{AcceptedParts, accepted_in, case_of, collision_text}
use Rattle.mtc_relying.specs.AuditOutcome.{foreign_text, stands_text, unrecorded_text}
use Rattle.mtc_relying.specs.QuarrelOutcome.{agree_text, quarrel_text}
use Rattle.cosigner_core.specs.Reasons.{export_fault_text}
use Rattle.entry_list.specs.Reasons.{items_fault_text}
use Rattle.policy_core.specs.Reasons.{store_fault_text}
use Rattle.command_plans.specs.Kinds.{Kinds}
use Rattle.command_plans.specs.Plans.{Input, Judged, Plan, Read, Step, in_form, only_prints}
use Rattle.command_plans.specs.Plans.{prints, prints_pair}
use Rattle.mtc_plans.specs.ReadPlans.{verdict_step}
use Rattle.mtc_plans.specs.Steps.{list_file, small_file}

-- The hash that is wanted of the list and the one that it has, where they aren't the same; or else
-- that no export supports the acceptance; or that the entry and the key stand at the index; or any
-- two different strings with one hash, the first from the list, the second from the certificate or
-- the cosigner.
abbrev pub audit_judged_by : HashFunction → AuditCase → Option (Hash × Hash) → Bool → Bool → Judged
audit_judged_by h x (Some hashes) supported own = prints Against (foreign_text hashes)
audit_judged_by h x None false own = prints Against unrecorded_text
audit_judged_by h x None true true = prints Done (stands_text x.accepted.index)
audit_judged_by h x None true false =
    prints_pair Collided h collision_text (firsts_of h x) (seconds_of h x)

-- A refused certificate is answered as by `verify`.
abbrev pub audited_step : {k : Kinds} {inputs : List Input} → HashFunction → Read inputs → Store
    → ItemLists → Option Export → Result AcceptedParts Refusal → Step {k = k} inputs []
audited_step h cert store items kept (Ok j) =
    (let x = case_of store items kept j in only_prints (audit_judged_by h x (foreign_of h x)
    (is_supported x) (has_own h x.store x.items x.accepted x.cert)))
audited_step h cert store items kept (Err why) = verdict_step cert (Err why)

-- The store, the entries and the export are read, and then the certificate is judged.
abbrev pub audit_plan : {k : Kinds} → HashFunction → Text → Text → ℕ → Text → Text → Plan k
audit_plan h cert store unix_time entries export = record {
  inputs = small_file cert ∷ (small_file store ∷ (list_file entries ∷ (list_file export ∷ [])));
  journals = [];
  steps = λ (c, (s, (e, (x, none)))).
      in_form s store_fault_text (store_of s.text) (λ trusted.
      in_form e items_fault_text (items_in h e.text) (λ items.
      in_form x export_fault_text (export_in h x.text) (λ kept.
      audited_step h c trusted items kept (accepted_in h c.text trusted (pos unix_time)))));
}

-- ---- quarrel EXPORT

-- The keys of the first two signatures in conflict, and any two different strings with one hash,
-- both hashed in the opening of the steps' proofs; or that the signatures agree.
abbrev pub quarrel_judged_by : HashFunction → List CosignerStep → Option (ℕ × ℕ) → Judged
quarrel_judged_by h steps None = prints Done agree_text
quarrel_judged_by h steps (Some keys) =
    prints_pair Collided h (quarrel_text keys) (proof_inputs h steps) (proof_inputs h steps)

-- The same of an export; one of no bytes has no steps.
abbrev pub quarrel_judged : HashFunction → Option Export → Judged
quarrel_judged h None = prints Done agree_text
quarrel_judged h (Some kept) = quarrel_judged_by h kept.steps (quarrel_of kept.steps)

abbrev pub quarrel_plan : {k : Kinds} → HashFunction → Text → Plan k
quarrel_plan h export = record {
  inputs = list_file export ∷ [];
  journals = [];
  steps = λ (x, none). in_form x export_fault_text (export_in h x.text)
      (λ kept. only_prints (quarrel_judged h kept));
}
