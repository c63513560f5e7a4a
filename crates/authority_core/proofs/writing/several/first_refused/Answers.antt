use Rattle.std.proofs.Common.{sym, ◌∙◌}
use Rattle.issuance_log.specs.Words.{view_of}
use Rattle.authority_core.specs.Certificates.{cert_refusal}
use Rattle.authority_core.proofs.Several.{no_refusal, refusal_later}
use Rattle.authority_core.proofs.writing.several.first_refused.Goals as goal

pub loop-index-preserved : goal.loop-index-preserved
loop-index-preserved g c =
    refusal_later (λ i. cert_refusal (view_of c.args.log.now) i c.args.start
    c.args.end c.args.signatures.now) c.args.last c.loop-index.index _ c.loop-index-test.true
    c.loop-index.invariant
    (sym c.refused.ensures ∙ no_refusal (λ i. cert_refusal (view_of c.args.log.now) i c.args.start
    c.args.end c.args.signatures.now) c.refused.result c.in_default.not-Some)
