use Rattle.std.proofs.Common.{◌≡◌, ◌∙◌, length, sym, ap, arith}
use Rattle.std.specs.List.{count_by}
use Rattle.cosigner_core.specs.Counts.{indices_of}
use Rattle.cosigner_core.specs.ExportReading.{export_in}
use Rattle.cosigner_core.specs.Words.{cosigner_disk}
use Rattle.drill_parties.specs.CosignerViews.{cosigner_shown, records_shown}
use Rattle.drill_parties.specs.Disks.{is_sign}
use Rattle.drill_parties.proofs.Signs.{few_signs, signs_kept}
use Rattle.drill_parties.proofs.exports.signatures.Goals as goal

pub returns-clause-count : goal.returns-clause-count
returns-clause-count g c =
    let party = c.args.party.now in
    c.signs_among-count.ensures ∙ ap (count_by is_sign) c.as_slice-2.ensures
    ∙ signs_kept g.H.TreeHash.hash (cosigner_shown party) (cosigner_disk party.cosigner)
    c.in_ok-kept.kept c.in_ok-text.text party.stands c.in_ok-text.ensures.read
    (ap (export_in g.H.TreeHash.hash) (sym c.as_slice.ensures) ∙ c.in_ok-kept.ensures)

pub returns-clause-few : goal.returns-clause-few
returns-clause-few g c =
    let party = c.args.party.now in
    let counted : c.signs_among-count.result ≡ length (indices_of (records_shown party)) =
    c.signs_among-count.ensures ∙ ap (count_by is_sign) c.as_slice-2.ensures
    ∙ signs_kept g.H.TreeHash.hash (cosigner_shown party) (cosigner_disk party.cosigner)
    c.in_ok-kept.kept c.in_ok-text.text party.stands c.in_ok-text.ensures.read
    (ap (export_in g.H.TreeHash.hash) (sym c.as_slice.ensures) ∙ c.in_ok-kept.ensures) in
    let few = few_signs g.H.TreeHash.hash (records_shown party) (cosigner_shown party)
    party.stands.valid in
    omega (arith, counted, few)
