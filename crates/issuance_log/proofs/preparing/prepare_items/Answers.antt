use Rattle.std.proofs.Common.{◌∙◌, arith, sym}
use Rattle.issuance_log.specs.Batches.{most_listed}
use Rattle.issuance_log.proofs.Fitting.{can_be, fitting_most}
use Rattle.issuance_log.proofs.preparing.prepare_items.Goals as goal

pub batch_record-requires : goal.batch_record-requires
batch_record-requires g c =
    let list = c.args.list.now in
    let most = fitting_most most_listed list in
    can_be list c.requires (omega (arith, most, c.fitting-fit.ensures, c.if-fit-list.false))
    (sym c.has_large.ensures ∙ c.if-has_large.false)

pub returns-clause-fits : goal.returns-clause-fits
returns-clause-fits g c =
    let most = fitting_most most_listed c.args.list.now in
    omega (arith, most, c.fitting-fit.ensures, c.if-fit-list.false)

pub returns-clause-batch : goal.returns-clause-batch
returns-clause-batch g c =
    let list = c.args.list.now in
    let most = fitting_most most_listed list in
    can_be list c.requires (omega (arith, most, c.fitting-fit.ensures, c.if-fit-list.false))
    (sym c.has_large.ensures ∙ c.if-has_large.false)
