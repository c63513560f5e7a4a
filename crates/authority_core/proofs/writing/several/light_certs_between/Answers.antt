use Rattle.std.proofs.Common.{◌-◌, Option, IfSome, ap, subst, ◌∙◌, arith}
use Rattle.issuance_log.specs.Folds.{LogState, LogView}
use Rattle.issuance_log.specs.Staying.{stays_both}
use Rattle.issuance_log.specs.Words.{modelled_by_both, view_of}
use Rattle.issuance_log.proofs.Asked.{modelled_by_both_stays}
use Rattle.authority_core.specs.Certificates.{light_refusal}
use Rattle.authority_core.specs.Several.{AddsCertificate, IsLightlyAcceptable}
use Rattle.authority_core.proofs.Several.{known_more, none_at}
use Rattle.authority_core.proofs.writing.several.light_certs_between.Goals as goal

pub loop-index-preserved : goal.loop-index-preserved
loop-index-preserved g c =
    let log = c.args.log.now in
    let h = g.H.TreeHash.hash in
    let index = c.loop-index.index in
    let so_far = c.loop-index.invariant in
    record {
      stays = stays_both _ _ _ so_far.stays c.append_light_cert.ensures.stays;
      written = known_more (λ s. IsLightlyAcceptable h s) c.args.first
          (modelled_by_both log) index c.loop-index.text c.append_light_cert.new.text so_far.written
          (subst (λ (o : Option LogState). IfSome o (λ s. AddsCertificate
          (IsLightlyAcceptable h s index) c.loop-index.text c.append_light_cert.new.text))
          (modelled_by_both_stays _ _ so_far.stays) c.in_ok-append_light_cert.ensures.written);
      journal = c.in_ok-append_light_cert.ensures.journal ∙ so_far.journal;
      tiles = c.in_ok-append_light_cert.ensures.tiles ∙ so_far.tiles;
    }

pub append_light_cert-requires : goal.append_light_cert-requires
append_light_cert-requires g c =
    let log = c.args.log.now in
    let index = c.loop-index.index in
    ap (λ (v : LogView). light_refusal v c.loop-index.index)
    c.loop-index.invariant.stays.view
    ∙ none_at (light_refusal (view_of log)) (c.args.last - c.args.first) c.args.first
    c.requires.allowed index (omega arith) (omega arith)
