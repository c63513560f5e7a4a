use Rattle.std.proofs.Common.{◌≡◌, List, ℕ, None, Result, Ok, Err, ap, refl, subst, sym, ◌∙◌}
use Rattle.mtc_io.specs.declared.fault.Failed.{Failed}
use Rattle.mtc_command.specs.Lines.{line_of}
use Rattle.mtc_command.specs.declared.answer.Stop.{Stop}
use Rattle.mtc_top.specs.Concluded.{Reports, SaysWritten}
use Rattle.mtc_top.proofs.finish.conclude_written.Goals as goal

pub returns-in-Ok-Err : goal.returns-in-Ok-Err
returns-in-Ok-Err g c =
    let failed : c.in-Ok-Err.field-0 ≡ Err c.in-Ok-Err.field-0-0
    = rw c.in-Ok-Err.is at c.in-Ok-Err.field-0-is in
    subst (λ (ended : Result (Result (Unit {0}) Failed) Stop). SaysWritten g.E.Sink
    c.args.command.now c.args.err.now c.write_line.new.err ended c.args.cause 6)
    (sym (c.in-Ok-Err.is ∙ ap Ok failed)) (
      refl,
      subst (λ (reason : List ℕ). Reports g.E.Sink c.args.err.now c.write_line.new.err
          (line_of c.args.command.now None reason)) c.named.ensures c.write_line.ensures,
    )
