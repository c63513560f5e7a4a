use Rattle.std.proofs.Common.{◌≡◌, Err, ap, ◌∙◌, rules}
use Rattle.cosigner_core.specs.ExportReading.{export_in}
use Rattle.cosigner_core.specs.Reasons.{export_fault_text}
use Rattle.entry_list.specs.Reading.{items_in}
use Rattle.entry_list.specs.Reasons.{items_fault_text}
use Rattle.mtc_command.specs.Steps.{with_form}
use Rattle.mtc_relying.specs.AuditOutcome.{audit_cert_says, audit_export_says}
use Rattle.mtc_relying.specs.Views.{input_file}
use Rattle.mtc_relying.proofs.Compared.{unread}
use Rattle.mtc_relying.proofs.audit.export_judged.Goals as goal

pub returns-in-Ok-clause-leaves : goal.returns-in-Ok-clause-leaves
returns-in-Ok-clause-leaves g c = λ entries wanted so.
    let h = g.H.TreeHash.hash in
    let a = c.args in
    c.cert_judged.ensures.leaves entries wanted (λ bytes. so bytes
    ∙ ap (λ r. with_form items_fault_text entries (items_in h bytes)
    (λ items. with_form export_fault_text a.export.name.now r
    (audit_cert_says h (input_file a.cert) a.now a.store items))) c.in-Ok.ensures.exact)

pub returns-in-Err-Memory-clause-leaves : goal.returns-in-Err-Memory-clause-leaves
returns-in-Err-Memory-clause-leaves g c = λ entries wanted so.
    let h = g.H.TreeHash.hash in
    let a = c.args in
    record {
      next = audit_export_says h (input_file a.cert) a.now (input_file a.export) a.store;
      is = so;
      ends = λ items. tt;
    }

pub returns-clause-leaves : goal.returns-clause-leaves
returns-clause-leaves g c = λ entries wanted so.
    let h = g.H.TreeHash.hash in
    let a = c.args in
    let read : export_in h a.export.bytes.now ≡ Err c.in-Err.why = search rules in
    record {
      next = audit_export_says h (input_file a.cert) a.now (input_file a.export) a.store;
      is = so;
      ends = λ items. unread export_fault_text a.export.name.now (export_in h a.export.bytes.now)
          c.in-Err.why (audit_cert_says h (input_file a.cert) a.now a.store items) _ _ read
          c.refuse_file.ensures c.export_reason-reason.ensures;
    }
