use Rattle.std.proofs.Common.{sym, ◌∙◌}
use Rattle.issuance_log.specs.Words.{view_of}
use Rattle.authority_core.specs.Certificates.{light_refusal}
use Rattle.authority_core.proofs.Several.{no_refusal, refusal_later}
use Rattle.authority_core.proofs.writing.several.first_light_refused.Goals as goal

pub loop-index-preserved : goal.loop-index-preserved
loop-index-preserved g c =
    refusal_later (light_refusal (view_of c.args.log.now)) c.args.last c.loop-index.index _
    c.loop-index-test.true
    c.loop-index.invariant
    (sym c.light_refused.ensures ∙ no_refusal (light_refusal (view_of c.args.log.now))
    c.light_refused.result c.in_default.not-Some)
