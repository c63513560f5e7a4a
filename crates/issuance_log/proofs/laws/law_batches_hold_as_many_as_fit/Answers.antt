use Rattle.std.proofs.Common.{arith, take}
use Rattle.issuance_log.specs.Batches.{fitting, most_listed}
use Rattle.issuance_log.proofs.Fitting.{all_fit, fitting_all, fitting_few, fitting_greatest}
use Rattle.issuance_log.proofs.Fitting.{length-batch}
use Rattle.issuance_log.proofs.laws.law_batches_hold_as_many_as_fit.Goals as goal

pub returns-clause-all : goal.returns-clause-all
returns-clause-all c = λ items fit.
    let few = fitting_all most_listed items fit in omega (arith, length-batch items, few)

pub returns-clause-only : goal.returns-clause-only
returns-clause-only c = λ items few.
    all_fit most_listed items (omega (arith, length-batch items, few))

pub returns-clause-first : goal.returns-clause-first
returns-clause-first c = λ items.
    let few = fitting_few most_listed items in
    omega (arith, length-batch (take (fitting most_listed items) items), few)

pub returns-clause-more : goal.returns-clause-more
returns-clause-more c = λ items n above within.
    let many = fitting_greatest most_listed items n above within in
    omega (arith, length-batch (take n items), many)
