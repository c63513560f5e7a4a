use Rattle.std.proofs.Common.{sym}
use Rattle.monitor_core.proofs.Skips.{skips-end, skips-more}
use Rattle.monitor_core.proofs.state_text.after_report.Goals as goal

pub lines-preserved : goal.lines-preserved
lines-preserved c =
    skips-more _ c.lines.n c.lines.rest.now c.in-Some.following.now c.lines.invariant
    (sym c.in-Some.ensures.exact) c.in-Some.ensures.shorter

pub returns-clause-exact : goal.returns-clause-exact
returns-clause-exact c =
    skips-end c.args.text.now c.lines.n c.lines.rest.now c.lines.invariant
    (sym c.in_default.ensures.exact)
