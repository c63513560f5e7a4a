use Rattle.std.proofs.Common.{◌≡◌, Err, ap, rules}
use Rattle.policy_core.specs.Files.{store_of}
use Rattle.policy_core.specs.Reasons.{store_fault_text}
use Rattle.mtc_command.specs.Steps.{with_form}
use Rattle.mtc_relying.specs.AuditOutcome.{audit_items_say}
use Rattle.mtc_relying.specs.Views.{input_file}
use Rattle.mtc_relying.proofs.Compared.{unread}
use Rattle.mtc_relying.proofs.audit.store_judged.Goals as goal

pub returns-in-Ok-clause-leaves : goal.returns-in-Ok-clause-leaves
returns-in-Ok-clause-leaves g c = λ entries.
    let h = g.H.TreeHash.hash in
    let a = c.args in
    c.export_judged.ensures.leaves entries _ (λ bytes.
    ap (λ r. with_form store_fault_text a.store.name.now r
    (audit_items_say h (input_file a.cert) a.now (record { name = entries; text = bytes })
    (input_file a.export))) c.in-Ok.ensures)

pub returns-in-Err-clause-leaves : goal.returns-in-Err-clause-leaves
returns-in-Err-clause-leaves g c = λ entries bytes.
    let h = g.H.TreeHash.hash in
    let a = c.args in
    let read : store_of a.store.bytes.now ≡ Err c.in-Err.why = search rules in
    unread store_fault_text a.store.name.now (store_of a.store.bytes.now) c.in-Err.why
    (audit_items_say h (input_file a.cert) a.now (record { name = entries; text = bytes })
    (input_file a.export)) _ _ read c.refuse_file.ensures c.store_reason-reason.ensures
