use Rattle.std.proofs.Common.{◌≡◌, ℕ, ◌+◌, ◌∙◌, length, arith, rules, subst}
use Rattle.std.specs.Io.KnownBytes.{Appends}
use Rattle.disk_core.proofs.Times.{only_read_on}
use Rattle.mtc_io.specs.Streams.{AppendsPrefix}
use Rattle.journal_core.specs.Copies.{sized}
use Rattle.journal_core.specs.Words.{disk_of, end_of}
use Rattle.journal_core.proofs.Copies.{AtRecord, grows_more, grows_none, records_all}
use Rattle.journal_core.proofs.Copies.{records_more, records_none}
use Rattle.journal_core.proofs.Copies.{records_prefix, records_whole}
use Rattle.journal_core.proofs.copying.copy_records.Goals as goal

pub loop-commit_byte-init : goal.loop-commit_byte-init
loop-commit_byte-init g c = record {
  end = c.end-end.ensures;
  within = omega arith;
  written = records_none (g.D.Disk.contents (disk_of c.args.journal.now)) c.args.first
      (end_of c.args.journal.now) (g.O.Sink.taken c.args.out.now);
  grows = grows_none _;
  kept = search rules;
  read = search rules;
  took = search rules;
}

pub returns-in_err-commit_byte-clause-prefix : goal.returns-in_err-commit_byte-clause-prefix
returns-in_err-commit_byte-clause-prefix g c =
    records_prefix (g.D.Disk.contents (disk_of c.args.journal.now))
    (g.D.Disk.contents (disk_of c.loop-commit_byte.journal))
    c.loop-commit_byte.invariant.kept.only_reads.contents
    c.args.first c.loop-commit_byte.commit_byte (end_of c.args.journal.now)
    (g.O.Sink.taken c.args.out.now)
    (g.O.Sink.taken c.loop-commit_byte.out) (g.O.Sink.taken c.copy_record.new.out) (omega arith)
    c.loop-commit_byte.invariant.written
    (subst (λ (n : ℕ). AtRecord (g.D.Disk.contents (disk_of c.loop-commit_byte.journal))
    c.loop-commit_byte.commit_byte n
    (λ body. AppendsPrefix (g.O.Sink.taken c.loop-commit_byte.out)
    (g.O.Sink.taken c.copy_record.new.out)
    (sized body))) c.loop-commit_byte.invariant.kept.end c.copy_record.ensures.prefix)

pub loop-commit_byte-preserved : goal.loop-commit_byte-preserved
loop-commit_byte-preserved g c = record {
  end = c.loop-commit_byte.invariant.end;
  within = omega (arith, c.in_ok-commit_byte.ensures.within.1);
  written = records_more (g.D.Disk.contents (disk_of c.args.journal.now))
      (g.D.Disk.contents (disk_of c.loop-commit_byte.journal))
      c.loop-commit_byte.invariant.kept.only_reads.contents
      c.args.first c.loop-commit_byte.commit_byte (end_of c.args.journal.now)
      (g.O.Sink.taken c.args.out.now)
      (g.O.Sink.taken c.loop-commit_byte.out) (g.O.Sink.taken c.copy_record.new.out) (omega arith)
      c.loop-commit_byte.invariant.written c.in_ok-commit_byte.commit_byte
      (subst (λ (n : ℕ). AtRecord (g.D.Disk.contents (disk_of c.loop-commit_byte.journal))
      c.loop-commit_byte.commit_byte n
      (λ body. c.in_ok-commit_byte.commit_byte ≡ c.loop-commit_byte.commit_byte + 5 + length body))
      c.loop-commit_byte.invariant.kept.end c.in_ok-commit_byte.ensures.next)
      (subst (λ (n : ℕ). AtRecord (g.D.Disk.contents (disk_of c.loop-commit_byte.journal))
      c.loop-commit_byte.commit_byte n
      (λ body. Appends (g.O.Sink.taken c.loop-commit_byte.out)
      (g.O.Sink.taken c.copy_record.new.out)
      (sized body))) c.loop-commit_byte.invariant.kept.end c.in_ok-commit_byte.ensures.ok);
  grows = grows_more _ _ _ c.loop-commit_byte.invariant.grows c.copy_record.ensures.grows;
  kept = record {
    list = c.copy_record.ensures.kept.list ∙ c.loop-commit_byte.invariant.kept.list;
    end = c.copy_record.ensures.kept.end ∙ c.loop-commit_byte.invariant.kept.end;
    broken = c.copy_record.ensures.kept.broken ∙ c.loop-commit_byte.invariant.kept.broken;
    only_reads = only_read_on g.D.Disk _ _ _ c.loop-commit_byte.invariant.kept.only_reads
        c.copy_record.ensures.kept.only_reads;
  };
  read = c.in_ok-commit_byte.ensures.cause.0 ∙ c.loop-commit_byte.invariant.read;
  took = c.in_ok-commit_byte.ensures.cause.1 ∙ c.loop-commit_byte.invariant.took;
}

pub returns-clause-ok : goal.returns-clause-ok
returns-clause-ok g c =
    records_all (g.D.Disk.contents (disk_of c.args.journal.now)) c.args.first
    c.loop-commit_byte.commit_byte
    (end_of c.args.journal.now) (g.O.Sink.taken c.args.out.now)
    (g.O.Sink.taken c.loop-commit_byte.out)
    (omega arith) c.loop-commit_byte.invariant.written

pub returns-clause-prefix : goal.returns-clause-prefix
returns-clause-prefix g c =
    records_whole (g.D.Disk.contents (disk_of c.args.journal.now)) c.args.first
    (end_of c.args.journal.now) (g.O.Sink.taken c.args.out.now)
    (g.O.Sink.taken c.loop-commit_byte.out)
    (records_all (g.D.Disk.contents (disk_of c.args.journal.now)) c.args.first
    c.loop-commit_byte.commit_byte
    (end_of c.args.journal.now) (g.O.Sink.taken c.args.out.now)
    (g.O.Sink.taken c.loop-commit_byte.out)
    (omega arith) c.loop-commit_byte.invariant.written)

pub returns-in_err-commit_byte-clause-grows : goal.returns-in_err-commit_byte-clause-grows
returns-in_err-commit_byte-clause-grows g c =
    grows_more (g.O.Sink.taken c.args.out.now) (g.O.Sink.taken c.loop-commit_byte.out)
    (g.O.Sink.taken c.copy_record.new.out) c.loop-commit_byte.invariant.grows
    c.copy_record.ensures.grows
