use Rattle.std.proofs.Common.{refl}
use Rattle.std.proofs.KnownBytes.{Appends-nil}
use Rattle.mtc_top.proofs.Said.{says_nothing}
use Rattle.mtc_top.proofs.finish.conclude.Goals as goal

pub returns-in-Err : goal.returns-in-Err
returns-in-Err g c =
    rw c.in-Err.is (says_nothing g.O.Sink g.E.Sink c.args.command.now c.args.out.now
    c.args.out.now c.args.err.now c.report.new.err c.args.cause c.report.result c.in-Err.stop refl
    (Appends-nil (g.O.Sink.taken c.args.out.now)) c.report.ensures)
