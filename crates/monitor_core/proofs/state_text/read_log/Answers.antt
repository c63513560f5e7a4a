use Rattle.monitor_core.proofs.Letters.{no_id}
use Rattle.monitor_core.proofs.state_text.read_log.Goals as goal

pub returns-in_default : goal.returns-in_default
returns-in_default c = λ other.
    no_id c.args.text.now c.args.n (λ i. (c.type_inv.text i).fits) c.in_default.ensures.cases.0
