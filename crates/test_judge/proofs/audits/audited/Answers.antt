use denote.Ref.{Bor}
use Rattle.std.proofs.Common.{◌≡◌, Option, Some, None, Ok, sym, ◌∙◌, rules, subst}
use Rattle.std.specs.Prelude.{IfSome, option_copied}
use Rattle.byte_formats.specs.Readings.{Answers, Gives}
use Rattle.cert_fields.specs.Certificate.{parts_of}
use Rattle.cert_fields.specs.Views.{parts}
use Rattle.mtc_proof.specs.Reading.{proof_in}
use Rattle.mtc_proof.specs.Views.{proof_parts}
use Rattle.tree_core.specs.Toy.{toy_hash}
use Rattle.cosigner_core.specs.ExportReading.{export_in}
use Rattle.cosigner_core.specs.declared.error.ReadExportError.TheVariants.{Memory}
use Rattle.cosigner_core.specs.declared.lists.Export.{Export}
use Rattle.cosigner_steps.specs.Steps.{AreSteps}
use Rattle.cosigner_steps.proofs.Exported.{export_steps}
use Rattle.policy_core.specs.declared.store.Store.{Store}
use Rattle.world_core.specs.Audit.{WasJudged}
use Rattle.world_core.proofs.Premises.{was_judged}
use Rattle.test_judge.proofs.audits.audited.Goals as goal

pub audit-requires-clause-judged : goal.audit-requires-clause-judged
audit-requires-clause-judged c =
    let accepted : c.judge.result ≡ Ok c.in_ok-accepted.accepted = search rules in
    let parsed : c.parse.result ≡ Ok c.in_ok-cert.cert = search rules in
    let read : c.read_proof.result ≡ Ok c.in_ok-proof.proof = search rules in
    let judged : WasJudged toy_hash c.args.store.now (parts c.in_ok-cert.cert)
    (proof_parts c.in_ok-proof.proof) c.in_ok-accepted.accepted =
    was_judged toy_hash c.args.certificate.now c.args.store.now _ c.in_ok-accepted.accepted
    (parts c.in_ok-cert.cert) (proof_parts c.in_ok-proof.proof)
    (λ i. (c.type_inv.certificate i).fits)
    (sym c.judge.ensures ∙ accepted)
    (subst (λ r. Gives parts r (parts_of c.args.certificate.now)) parsed c.parse.ensures.exact)
    (subst (λ r. Gives proof_parts r (proof_in c.in_ok-cert.cert.proof.now)) read
    c.read_proof.ensures.exact) in
    subst (λ (s : Store). WasJudged toy_hash s (parts c.in_ok-cert.cert)
    (proof_parts c.in_ok-proof.proof) c.in_ok-accepted.accepted)
    (sym c.as_store.ensures.same) judged

borrowed_steps : (borrowed : Option (Bor Export)) (kept : Option Export)
    → option_copied borrowed ≡ kept
    → IfSome kept (λ e. AreSteps toy_hash e.steps)
    → IfSome borrowed (λ e. AreSteps toy_hash e.now.steps)
borrowed_steps None kept is are = tt
borrowed_steps (Some e) kept is are =
    subst (λ (k : Option Export). IfSome k (λ x. AreSteps toy_hash x.steps)) (sym is) are

pub audit-requires-clause-allowed : goal.audit-requires-clause-allowed
audit-requires-clause-allowed c =
    let read : c.read_export.result ≡ Ok c.in_ok-kept.kept = search rules in
    borrowed_steps c.as_ref.result c.in_ok-kept.kept c.as_ref.ensures.value
    (export_steps toy_hash c.args.export.now c.in_ok-kept.kept (λ i. (c.type_inv.export i).fits)
    (subst (λ r. Answers Memory (export_in toy_hash c.args.export.now) r) read
    c.read_export.ensures))
