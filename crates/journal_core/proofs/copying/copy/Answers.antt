use Rattle.std.proofs.Common.{arith, ◌∙◌}
use Rattle.disk_core.proofs.Times.{only_read_on}
use Rattle.journal_core.specs.Words.{disk_of}
use Rattle.journal_core.proofs.Copies.{contents_prefix, contents_whole, grows_more}
use Rattle.journal_core.proofs.copying.copy.Goals as goal

pub returns-in_err-copy_piece-clause-prefix : goal.returns-in_err-copy_piece-clause-prefix
returns-in_err-copy_piece-clause-prefix g c =
    contents_prefix (g.D.Disk.contents (disk_of c.args.journal.now))
    (g.D.Disk.contents (disk_of c.loop-done.journal)) c.loop-done.invariant.kept.only_reads.contents
    c.args.place c.loop-done.done c.min-length.result c.args.count
    (g.O.Sink.taken c.args.out.now) (g.O.Sink.taken c.loop-done.out)
    (g.O.Sink.taken c.copy_piece.new.out) c.loop-done.invariant.written
    (omega arith) c.copy_piece.ensures.prefix

pub loop-done-preserved : goal.loop-done-preserved
loop-done-preserved g c = record {
  within = omega arith;
  written = contents_whole (g.D.Disk.contents (disk_of c.args.journal.now))
      (g.D.Disk.contents (disk_of c.loop-done.journal))
      c.loop-done.invariant.kept.only_reads.contents
      c.args.place c.loop-done.done c.min-length.result c.args.count
      (g.O.Sink.taken c.args.out.now) (g.O.Sink.taken c.loop-done.out)
      (g.O.Sink.taken c.copy_piece.new.out) c.loop-done.invariant.written
      c.in_ok-copy_piece.ensures.ok;
  grows = grows_more _ _ _ c.loop-done.invariant.grows c.copy_piece.ensures.grows;
  kept = record {
    list = c.copy_piece.ensures.kept.list ∙ c.loop-done.invariant.kept.list;
    end = c.copy_piece.ensures.kept.end ∙ c.loop-done.invariant.kept.end;
    broken = c.copy_piece.ensures.kept.broken ∙ c.loop-done.invariant.kept.broken;
    only_reads = only_read_on g.D.Disk _ _ _ c.loop-done.invariant.kept.only_reads
        c.copy_piece.ensures.kept.only_reads;
  };
  read = c.in_ok-copy_piece.ensures.cause.0 ∙ c.loop-done.invariant.read;
  took = c.in_ok-copy_piece.ensures.cause.1 ∙ c.loop-done.invariant.took;
}

pub returns-in_err-copy_piece-clause-grows : goal.returns-in_err-copy_piece-clause-grows
returns-in_err-copy_piece-clause-grows g c =
    grows_more (g.O.Sink.taken c.args.out.now) (g.O.Sink.taken c.loop-done.out)
    (g.O.Sink.taken c.copy_piece.new.out) c.loop-done.invariant.grows c.copy_piece.ensures.grows
