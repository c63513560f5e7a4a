use Rattle.tls_wire.proofs.Cuts.{cut_is}
use Rattle.tls_wire.proofs.lines.cut_at.Goals as goal

pub returns-in-Some : goal.returns-in-Some
returns-in-Some c = cut_is c.args.mark c.args.text.now c.in-Some.place c.in-Some.ensures.place
