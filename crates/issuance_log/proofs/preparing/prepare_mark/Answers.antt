use Rattle.issuance_log.proofs.Adds.{above_last}
use Rattle.issuance_log.proofs.preparing.prepare_mark.Goals as goal

pub returns-clause-above : goal.returns-clause-above
returns-clause-above c =
    above_last c.args.numbers.now.view c.last_mark.result c.size-size.result
    c.last_mark.ensures.sound c.last_mark.ensures.value c.size-size.ensures.value
    c.if-last_mark-size.false
