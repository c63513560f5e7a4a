use Rattle.monitor_core.proofs.Again.{found_so}
use Rattle.std.proofs.Common.{◌<◌, ◌^◌, sym, subst}
use Rattle.std.specs.List.{AllByRecursion}
use Rattle.monitor_core.specs.States.{IsKept, MonitorState}
use Rattle.monitor_core.specs.TextLaws.{IsIndexed}
use Rattle.monitor_core.proofs.writing.write_found.Goals as goal

pub returns-clause-again : goal.returns-clause-again
returns-clause-again c = λ small.
    found_so c.args.found.now c.put_state.new.out c.put_lines.new.out c.new-out.result
    c.lines-2.result.now c.state-2.result.now
    (subst IsKept c.state.ensures (c.law_state_is_kept.ensures
    (subst (λ (s : MonitorState). s.size < 2 ^ 63) (sym c.state.ensures) small)))
    (subst (AllByRecursion IsIndexed) c.lines.ensures c.law_lines_are_indexed.ensures)
    c.lines-2.ensures c.state-2.ensures c.new-out.ensures c.in_ok-put_lines.ensures
    c.in_ok-put_state.ensures
