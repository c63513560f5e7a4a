use Rattle.std.proofs.Common.{◌∙◌}
use Rattle.std.specs.Io.KnownBytes.{Appends}
use Rattle.mtc_io.specs.Streams.{AppendsPrefix}
use Rattle.disk_core.proofs.Times.{only_read_on}
use Rattle.journal_core.specs.Words.{disk_of, end_of}
use Rattle.journal_core.proofs.Copies.{record_none, record_of_part}
use Rattle.journal_core.proofs.copying.copy_record.Goals as goal

pub returns-in-Err-clause-prefix : goal.returns-in-Err-clause-prefix
returns-in-Err-clause-prefix g c =
    record_none (g.D.Disk.contents (disk_of c.args.journal.now)) c.args.commit_byte
    (end_of c.args.journal.now) (g.O.Sink.taken c.args.out.now)

pub returns-in_err-copy-clause-prefix : goal.returns-in_err-copy-clause-prefix
returns-in_err-copy-clause-prefix g c =
    record_of_part (AppendsPrefix (g.O.Sink.taken c.args.out.now) (g.O.Sink.taken c.copy.new.out))
    (g.D.Disk.contents (disk_of c.args.journal.now))
    (g.D.Disk.contents (disk_of c.body_size.new.journal))
    c.body_size.ensures.kept.only_reads.contents c.args.commit_byte (end_of c.args.journal.now)
    c.in-Ok.size
    c.in-Ok.ensures.size c.copy.ensures.prefix

pub returns-clause-ok : goal.returns-clause-ok
returns-clause-ok g c =
    record_of_part (Appends (g.O.Sink.taken c.args.out.now) (g.O.Sink.taken c.copy.new.out))
    (g.D.Disk.contents (disk_of c.args.journal.now))
    (g.D.Disk.contents (disk_of c.body_size.new.journal))
    c.body_size.ensures.kept.only_reads.contents c.args.commit_byte (end_of c.args.journal.now)
    c.in-Ok.size
    c.in-Ok.ensures.size c.in_ok-copy.ensures.ok

pub returns-clause-prefix : goal.returns-clause-prefix
returns-clause-prefix g c =
    record_of_part (AppendsPrefix (g.O.Sink.taken c.args.out.now) (g.O.Sink.taken c.copy.new.out))
    (g.D.Disk.contents (disk_of c.args.journal.now))
    (g.D.Disk.contents (disk_of c.body_size.new.journal))
    c.body_size.ensures.kept.only_reads.contents c.args.commit_byte (end_of c.args.journal.now)
    c.in-Ok.size
    c.in-Ok.ensures.size c.copy.ensures.prefix

pub returns-in_err-copy-clause-kept : goal.returns-in_err-copy-clause-kept
returns-in_err-copy-clause-kept g c = record {
  list = c.copy.ensures.kept.list ∙ c.body_size.ensures.kept.list;
  end = c.copy.ensures.kept.end ∙ c.body_size.ensures.kept.end;
  broken = c.copy.ensures.kept.broken ∙ c.body_size.ensures.kept.broken;
  only_reads = only_read_on g.D.Disk _ _ _ c.body_size.ensures.kept.only_reads
      c.copy.ensures.kept.only_reads;
}

pub returns-clause-kept : goal.returns-clause-kept
returns-clause-kept g c = record {
  list = c.copy.ensures.kept.list ∙ c.body_size.ensures.kept.list;
  end = c.copy.ensures.kept.end ∙ c.body_size.ensures.kept.end;
  broken = c.copy.ensures.kept.broken ∙ c.body_size.ensures.kept.broken;
  only_reads = only_read_on g.D.Disk _ _ _ c.body_size.ensures.kept.only_reads
      c.copy.ensures.kept.only_reads;
}
