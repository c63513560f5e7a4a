use Rattle.std.proofs.Common.{◌≡◌, Ok, Err, ap, ◌∙◌, sym, subst, rules}
use Rattle.std.specs.Prelude.{pos}
use Rattle.entry_list.specs.Reading.{items_in}
use Rattle.entry_list.specs.Reasons.{items_fault_text}
use Rattle.mtc_command.specs.Answers.{ending_of}
use Rattle.mtc_command.specs.Endings.{Replies}
use Rattle.mtc_command.specs.Steps.{with_form}
use Rattle.mtc_relying.specs.AuditOutcome.{accepted_in, audit_accepted_says, audit_cert_says}
use Rattle.mtc_relying.specs.Views.{accepted_parts, input_file}
use Rattle.mtc_relying.proofs.audit.cert_judged.Goals as goal

pub returns-in-Ok-clause-leaves : goal.returns-in-Ok-clause-leaves
returns-in-Ok-clause-leaves g c = λ entries wanted so bytes.
    let h = g.H.TreeHash.hash in
    let a = c.args in
    let judged : accepted_in h a.cert.bytes.now a.store (pos a.now)
    ≡ Ok (accepted_parts c.in-Ok.accepted) = search rules in
    so bytes
    ∙ ap (λ r. with_form items_fault_text entries (items_in h bytes)
    (λ items. audit_accepted_says h a.cert.name.now a.store items a.kept r)) judged

pub returns-clause-leaves : goal.returns-clause-leaves
returns-clause-leaves g c = λ entries wanted so.
    let h = g.H.TreeHash.hash in
    let a = c.args in
    let judged : accepted_in h a.cert.bytes.now a.store (pos a.now) ≡ Err c.in-Err.why =
    search rules in
    record {
      next = λ items. audit_cert_says h (input_file a.cert) a.now a.store items a.kept;
      is = so;
      ends = λ items. subst (λ r. Replies (audit_accepted_says h a.cert.name.now a.store items
          a.kept r).answer (ending_of c.verdict_answer.result)) (sym judged)
          c.verdict_answer.ensures;
    }
