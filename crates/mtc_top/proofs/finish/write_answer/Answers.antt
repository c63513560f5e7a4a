use Rattle.std.proofs.Common.{rules, List, ℕ, None, inr, subst}
use Rattle.mtc_command.specs.Lines.{line_of}
use Rattle.mtc_top.specs.Concluded.{Reports}
use Rattle.mtc_top.proofs.finish.write_answer.Goals as goal

pub returns-in-Err : goal.returns-in-Err
returns-in-Err g c = inr (record {
  code = search rules;
  some = search rules;
  cause = search rules;
  prefix = search rules;
  line = subst (λ (reason : List ℕ). Reports g.E.Sink
      c.args.err.now c.write_line.new.err (line_of c.args.command.now None reason))
      c.named.ensures c.write_line.ensures;
})
