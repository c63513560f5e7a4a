use Rattle.std.proofs.Common.{◌≡◌, ap, ◌∙◌}
use Rattle.mtc_library.specs.Cosigning.{cosigner_state, signature_text}
use Rattle.mtc_library.specs.Judging.{Text}
use Rattle.example_cosigner.proofs.cosignature.Goals as goal

pub returns : goal.returns
returns g c =
    let same : (cosigner_state c.cosign.new.self).id ≡ (cosigner_state c.args.cosigner.now).id =
    λ i. (c.in-Ok.ensures.appends.leaves.state i).id in
    c.fill.ensures
    ∙ ap (λ (id : Text). signature_text (record {
      cosigner = id;
      signature = c.as_slice.result.now;
    })) (c.as_bytes.ensures.value ∙ c.id.ensures ∙ same)
    ∙ ap (λ (t : Text). signature_text (record {
      cosigner = (cosigner_state c.args.cosigner.now).id;
      signature = t;
    })) (c.as_slice.ensures.value ∙ c.in-Ok.ensures.signature)
