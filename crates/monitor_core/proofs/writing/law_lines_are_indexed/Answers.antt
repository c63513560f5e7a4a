use Rattle.monitor_core.proofs.Sofar.{all_more, all_of}
use Rattle.monitor_core.specs.TextLaws.{IsIndexed}
use Rattle.monitor_core.proofs.writing.law_lines_are_indexed.Goals as goal

pub loop-line-preserved : goal.loop-line-preserved
loop-line-preserved c = all_more IsIndexed c.loop-line.line-index c.args.lines.now
    c.line-item.result c.line-item.result c.loop-line-test.true c.line-item.is
    c.law_line_is_indexed.ensures c.loop-line.invariant

pub returns : goal.returns
returns c = all_of IsIndexed c.loop-line.line-index c.args.lines.now c.loop-line-test.false
    c.loop-line.invariant
