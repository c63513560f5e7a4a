use Rattle.std.specs.Io.KnownBytes.{Appends}
use Rattle.mtc_io.specs.Streams.{AppendsPrefix}
use Rattle.journal_core.specs.Copies.{sized_text}
use Rattle.journal_core.specs.Words.{disk_of, end_of}
use Rattle.journal_core.proofs.Copies.{between, when_ok}
use Rattle.journal_core.proofs.copying.copy_after.Goals as goal

pub returns-clause-ok : goal.returns-clause-ok
returns-clause-ok g c =
    when_ok c.copy_records.result _ _ (between (g.D.Disk.contents (disk_of c.args.journal.now))
    c.args.from (end_of c.args.journal.now) (λ bodies.
    Appends (g.O.Sink.taken c.args.out.now) (g.O.Sink.taken c.copy_records.new.out)
    (sized_text bodies))) c.copy_records.ensures.ok

pub returns-clause-prefix : goal.returns-clause-prefix
returns-clause-prefix g c =
    between (g.D.Disk.contents (disk_of c.args.journal.now)) c.args.from (end_of c.args.journal.now)
    (λ bodies. AppendsPrefix (g.O.Sink.taken c.args.out.now)
    (g.O.Sink.taken c.copy_records.new.out) (sized_text bodies)) c.copy_records.ensures.prefix
