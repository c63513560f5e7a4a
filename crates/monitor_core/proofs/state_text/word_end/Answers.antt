use Rattle.monitor_core.proofs.Skips.{word_end-none, word_end-some}
use Rattle.monitor_core.proofs.state_text.word_end.Goals as goal

pub returns-in-Some-clause-exact : goal.returns-in-Some-clause-exact
returns-in-Some-clause-exact c =
    word_end-some c.args.text.now c.in-Some.end c.in-Some.ensures.place

pub returns-in-None-clause-exact : goal.returns-in-None-clause-exact
returns-in-None-clause-exact c = word_end-none c.args.text.now c.in-None.ensures.place
