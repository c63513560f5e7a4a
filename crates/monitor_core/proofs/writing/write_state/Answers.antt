use Rattle.monitor_core.proofs.Again.{stated_again}
use Rattle.monitor_core.proofs.writing.write_state.Goals as goal

pub returns-clause-again : goal.returns-clause-again
returns-clause-again c = λ small.
    stated_again c.args.state.now c.put_state.new.out c.new-out.result
    (c.law_state_is_kept.ensures small) c.new-out.ensures (c.in_ok-put_state.ensures)
