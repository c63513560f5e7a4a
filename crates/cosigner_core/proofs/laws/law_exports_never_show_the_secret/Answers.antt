use Rattle.std.proofs.Common.{◌++◌, ◌∙◌, ap}
use Rattle.byte_formats.specs.Types.{Text}
use Rattle.hss_keys.specs.Keys.{public_of}
use Rattle.cosigner_core.specs.Exports.{prefix_text, records_text}
use Rattle.cosigner_core.proofs.laws.law_exports_never_show_the_secret.Goals as goal

pub returns : goal.returns
returns c = λ s t first other bodies id log public.
    let rest = records_text bodies in
    ap (λ (b : Text). prefix_text b s.log (public_of s.key.key) ++ rest) id
    ∙ ap (λ (b : Text). prefix_text t.id b (public_of s.key.key) ++ rest) log
    ∙ ap (λ (b : Text). prefix_text t.id t.log b ++ rest) public
