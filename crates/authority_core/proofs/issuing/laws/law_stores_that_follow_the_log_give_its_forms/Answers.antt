use Rattle.std.proofs.Common.{sym, ap, ◌∙◌}
use Rattle.std.specs.Prelude.{[], slice_index_or}
use Rattle.log_entry.specs.Forms.{form_at}
use Rattle.log_entry.proofs.Matches.{form_alone}
use Rattle.authority_core.proofs.issuing.laws.law_stores_that_follow_the_log_give_its_forms.Goals as goal

pub returns : goal.returns
returns c = λ h s store index fields sound same some below read.
    let form = form_at s.switched index in
    let has = (sound.items index some below).form_is in
    ap (λ o. form_at o index) same
    ∙ sym ((form_alone form (slice_index_or s.entries index []) fields read).0 has)
