-- What an audit of a drill's certificate answers.
use Rattle.std.proofs.Common.{◌≡◌, ◌∙◌, ℕ, true, false, List, Some, None, Ok, sym, ap, subst, drop}
use Rattle.std.proofs.lemmas.Option.{same_Some}
use Rattle.std.specs.Prelude.{pos}
use Rattle.byte_formats.specs.Types.{HashFunction, Text}
use Rattle.byte_formats.proofs.Steps.{ok_is}
use Rattle.cert_fields.specs.Certificate.{Parts, parts_of}
use Rattle.mtc_proof.specs.Proofs.{ProofParts}
use Rattle.mtc_proof.specs.Reading.{proof_in}
use Rattle.policy_core.specs.Judgement.{judgement}
use Rattle.policy_core.specs.declared.answer.Accepted.{Accepted}
use Rattle.policy_core.specs.declared.store.Store.{Store}
use Rattle.entry_list.specs.Items.{ItemLists}
use Rattle.issuance_log.specs.Folds.{LogState}
use Rattle.disk_core.specs.declared.memory.mem_disk.MemDisk.{MemDisk}
use Rattle.cosigner_core.specs.ExportReading.{export_in, export_of}
use Rattle.cosigner_core.specs.Folds.{CosignerState}
use Rattle.cosigner_core.specs.Progress.{steps_in}
use Rattle.cosigner_core.specs.declared.lists.Export.{Export}
use Rattle.cosigner_core.specs.declared.step.Step.{Step}
use Rattle.world_core.specs.Audit.{AuditCase, IsAudit}
use Rattle.world_core.specs.declared.answer.Audit.{Audit}
use Rattle.world_core.specs.declared.answer.Audit.TheVariants.{Foreign, Pair, Stands, Unrecorded}
use Rattle.drill_core.specs.Audits.{StandsBy, StandsByExport, StandsWith}
use Rattle.drill_parties.specs.CosignerParties.{IsCosignerDisk}
use Rattle.drill_core.specs.Listed.{log_items}
use Rattle.drill_parties.specs.Disks.{records_on}
use Rattle.drill_parties.proofs.Exported.{steps_again}

-- where an audit may answer that the entry stands, it answers nothing else
pub stands_only : (h : HashFunction) (x : AuditCase) (index : ℕ) (answer : Audit)
    → IsAudit h x (Stands index) → IsAudit h x answer → answer ≡ Stands index
stands_only h x index (Foreign wanted found) may is =
    let list = may.list in
    let wrong : None ≡ Some (wanted, found) = sym list ∙ is in
    absurd cc
stands_only h x index Unrecorded may is =
    let wrong : true ≡ false = sym may.supported ∙ is.lacks in
    absurd cc
stands_only h x index (Stands place) may is =
    ap Stands (is.decides.1 ∙ sym may.decides.1)
stands_only h x index (Pair one other) may is =
    let wrong : true ≡ false = sym may.decides.0 ∙ is.decides.0 in
    absurd cc

abbrev the_case : Store → ItemLists → Export → Accepted → Parts → ProofParts → AuditCase
the_case store items kept a c p = record {
  accepted = a;
  cert = c;
  proof = p;
  store = store;
  items = items;
  kept = Some kept;
}

-- the audit by a store that is the same
pub same_audit : (h : HashFunction) (store same : Store) (items : ItemLists) (kept : Export)
    (a : Accepted) (c : Parts) (p : ProofParts) (answer : Audit) → store ≡ same
    → IsAudit h (the_case store items kept a c p) answer
    → IsAudit h (the_case same items kept a c p) answer
same_audit h store same items kept a c p answer e is =
    subst (λ (s : Store). IsAudit h (the_case s items kept a c p) answer) e is

-- the audit of what is accepted of a certificate that stands
pub it_stands : (h : HashFunction) (store : Store) (cert : Text) (items : ItemLists)
    (kept : Export) (a : Accepted) (c : Parts) (p : ProofParts) (answer : Audit)
    → StandsBy h store cert items kept
    → judgement h cert store (pos 1767225600) ≡ Ok a → parts_of cert ≡ Ok c
    → proof_in c.proof ≡ Ok p → IsAudit h (the_case store items kept a c p) answer
    → answer ≡ Stands a.index
it_stands h store cert items kept a c p answer stands judged read proof_read is =
    let one : stands.accepted ≡ a = ok_is _ stands.accepted a (sym stands.judged ∙ judged) in
    let two : stands.parts ≡ c = ok_is _ stands.parts c (sym stands.read ∙ read) in
    let proof_too : proof_in c.proof ≡ Ok stands.proof =
    subst (λ (x : Parts). proof_in x.proof ≡ Ok stands.proof) two stands.proof_read in
    let three : stands.proof ≡ p = ok_is _ stands.proof p (sym proof_too ∙ proof_read) in
    let may : IsAudit h (the_case store items kept a c p) (Stands a.index) =
    subst (λ (x : ProofParts). IsAudit h (the_case store items kept a c x) (Stands a.index)) three
    (subst (λ (x : Parts). IsAudit h (the_case store items kept a x stands.proof) (Stands a.index))
    two (subst (λ (x : Accepted). IsAudit h (the_case store items kept x stands.parts stands.proof)
    (Stands x.index)) one stands.stands)) in
    stands_only h (the_case store items kept a c p) a.index answer may is

-- what is accepted of a certificate stands by an audit that answers so
pub stands_so : (h : HashFunction) (store : Store) (cert : Text) (items : ItemLists)
    (kept : Export) (a : Accepted) (c : Parts) (p : ProofParts) (answer : Audit) (index : ℕ)
    → judgement h cert store (pos 1767225600) ≡ Ok a → parts_of cert ≡ Ok c
    → proof_in c.proof ≡ Ok p → answer ≡ Stands index
    → IsAudit h (the_case store items kept a c p) answer → StandsBy h store cert items kept
stands_so h store cert items kept a c p answer index judged read proof_read same is =
    let so : IsAudit h (the_case store items kept a c p) (Stands index) =
    subst (λ (x : Audit). IsAudit h (the_case store items kept a c p) x) same is in
    record {
      accepted = a;
      parts = c;
      proof = p;
      judged = judged;
      read = read;
      proof_read = proof_read;
      stands = subst (λ (i : ℕ). IsAudit h (the_case store items kept a c p) (Stands i))
          so.decides.1 so;
    }

-- the same with the file of an export
pub by_export : (h : HashFunction) (store : Store) (cert : Text) (log : LogState)
    (s : CosignerState) (list : List Text) (file : Text) → StandsWith h store cert log s list
    → ((steps : List Step) → steps_in (drop 1 list) ≡ Some steps
    → export_in h file ≡ Ok (Some (export_of s steps)))
    → StandsByExport h store cert (log_items log) file
by_export h store cert log s list file is reads = record {
  kept = export_of s is.steps;
  read = reads is.steps is.said;
  stands = is.stands;
}

-- the export that was read is that which stands
pub kept_stands : (h : HashFunction) (store : Store) (cert : Text) (items : ItemLists)
    (file : Text) (kept : Export) → StandsByExport h store cert items file
    → export_in h file ≡ Ok (Some kept) → StandsBy h store cert items kept
kept_stands h store cert items file kept is read =
    let one : Some is.kept ≡ Some kept =
    ok_is _ (Some is.kept) (Some kept) (sym is.read ∙ read) in
    let same : is.kept ≡ kept = same_Some is.kept kept one in
    subst (λ (e : Export). StandsBy h store cert items e) same is.stands

-- the same with the records of the cosigner that wrote the export
pub with_export : (h : HashFunction) (store : Store) (cert : Text) (log : LogState)
    (s : CosignerState) (disk : MemDisk) (file : Text) → IsCosignerDisk h s disk
    → ((steps : List Step) → steps_in (drop 1 (records_on disk)) ≡ Some steps
    → export_in h file ≡ Ok (Some (export_of s steps)))
    → StandsByExport h store cert (log_items log) file
    → StandsWith h store cert log s (records_on disk)
with_export h store cert log s disk file is reads by =
    let again = steps_again h s disk is in
    record {
      steps = again.0;
      said = again.1;
      stands = kept_stands h store cert (log_items log) file (export_of s again.0) by
          (reads again.0 again.1);
    }
