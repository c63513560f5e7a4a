-- The audits of a drill's certificates.
use Rattle.std.specs.Prelude.{◌≡◌, pos, List, drop, Some, Ok}
use Rattle.std.specs.List.{AllByRecursion}
use Rattle.byte_formats.specs.Types.{HashFunction, Text}
use Rattle.cert_fields.specs.Certificate.{Parts, parts_of}
use Rattle.mtc_proof.specs.Proofs.{ProofParts}
use Rattle.mtc_proof.specs.Reading.{proof_in}
use Rattle.policy_core.specs.Judgement.{judgement}
use Rattle.policy_core.specs.declared.answer.Accepted.{Accepted}
use Rattle.policy_core.specs.declared.store.Store.{Store}
use Rattle.entry_list.specs.Items.{ItemLists}
use Rattle.issuance_log.specs.Folds.{LogState}
use Rattle.cosigner_core.specs.ExportReading.{export_in, export_of}
use Rattle.cosigner_core.specs.Folds.{CosignerState}
use Rattle.cosigner_core.specs.Progress.{steps_in}
use Rattle.cosigner_core.specs.declared.lists.Export.{Export}
use Rattle.cosigner_core.specs.declared.step.Step.{Step}
use Rattle.world_core.specs.Audit.{IsAudit}
use Rattle.world_core.specs.declared.answer.Audit.TheVariants.{Stands}
use Rattle.drill_core.specs.Listed.{log_items}

-- The store accepts a certificate at 2026-01-01, and the audit of it with these items and this
-- export of a cosigner answers that its entry stands at its index.
pub record StandsBy (h : HashFunction) (store : Store) (cert : Text) (items : ItemLists)
    (kept : Export) : Type 0 where
  pub accepted : Accepted
  pub parts : Parts
  pub proof : ProofParts
  pub judged : judgement h cert store (pos 1767225600) ≡ Ok accepted
  pub read : parts_of cert ≡ Ok parts
  pub proof_read : proof_in parts.proof ≡ Ok proof
  pub stands : IsAudit h (record {
    accepted = accepted;
    cert = parts;
    proof = proof;
    store = store;
    items = items;
    kept = Some kept;
  }) (Stands accepted.index)

-- The same with a file that is read as an export.
pub record StandsByExport (h : HashFunction) (store : Store) (cert : Text) (items : ItemLists)
    (file : Text) : Type 0 where
  pub kept : Export
  pub read : export_in h file ≡ Ok (Some kept)
  pub stands : StandsBy h store cert items kept

-- The same with the file of each of several exports.
abbrev pub AllByExport : HashFunction → Store → Text → ItemLists → List Text → Type 0
AllByExport h store cert items files = AllByRecursion (StandsByExport h store cert items) files

-- The same with the items of a log and the steps in the records of a cosigner.
pub record StandsWith (h : HashFunction) (store : Store) (cert : Text) (log : LogState)
    (s : CosignerState) (list : List Text) : Type 0 where
  pub steps : List Step
  pub said : steps_in (drop 1 list) ≡ Some steps
  pub stands : StandsBy h store cert (log_items log) (export_of s steps)
