use Rattle.std.proofs.Common.{arith}
use Rattle.issuance_log.proofs.Fitting.{fits_end, fits_not, fits_on}
use Rattle.issuance_log.proofs.batch.fitting.Goals as goal

pub returns-in-None : goal.returns-in-None
returns-in-None c =
    fits_not c.args.items.now c.loop-item.item-index c.item-item.result c.loop-item-test.true
    c.item-item.is _ c.loop-item.count c.loop-item.left c.loop-item.invariant.0
    c.in-None.ensures.none

pub loop-item-preserved : goal.loop-item-preserved
loop-item-preserved c =
    let so_far = c.loop-item.invariant in (
      fits_on c.args.items.now c.loop-item.item-index c.item-item.result c.loop-item-test.true
          c.item-item.is _ c.loop-item.count c.loop-item.left c.in-Some.rest so_far.0
          c.in-Some.ensures.some,
      omega (arith, so_far.1),
    )

pub returns : goal.returns
returns c =
    fits_end c.args.items.now c.loop-item.item-index _ c.loop-item.count c.loop-item.left
    c.loop-item-test.false c.loop-item.invariant.0
