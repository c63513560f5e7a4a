use Rattle.std.proofs.Common.{◌≡◌, Some, sym, ◌∙◌}
use Rattle.cert_fields.specs.Views.{parts}
use Rattle.mtc_proof.specs.Views.{proof_parts}
use Rattle.audit_stream.specs.Summaries.{IsSummaryOf, answer_by, summary_parts}
use Rattle.mtc_relying.specs.Compared.{case_by, wanted_by}
use Rattle.mtc_relying.proofs.Compared.{decided_replies, passed}
use Rattle.mtc_relying.proofs.comparing.by_summary.Goals as goal

pub returns-in_ok-answer_to-in-Some : goal.returns-in_ok-answer_to-in-Some
returns-in_ok-answer_to-in-Some g c = λ bytes are.
    let h = g.H.TreeHash.hash in
    let k = c.args.claim.now in
    let s = summary_parts c.args.summary.now in
    let p = passed h c.args.entries.now
    (λ items. IsSummaryOf h items (wanted_by h k) k.accepted.accepted.index s) bytes
    c.args.counted c.in_ok-tested.field-0 are c.in_ok-tested.ensures in
    let decision = c.in_ok-found.ensures (proof_parts k.accepted.proof) p.items in
    let decides : answer_by h (case_by k p.items) s ≡ Some c.in-Some.found =
    (λ i. answer_by h (record {
      accepted = k.accepted.accepted;
      cert = parts k.accepted.cert;
      proof = proof_parts k.accepted.proof;
      store = sym c.as_store.ensures.same i;
      items = p.items;
      kept = sym c.as_ref.ensures.value i;
    }) s) ∙ sym decision ∙ c.in-Some.is in
    decided_replies h c.args.entries.now k p.items s bytes p.are p.read c.in-Some.found decides
    c.in_ok-answer_to-in-Some.field-0 c.in_ok-answer_to-in-Some.ensures
