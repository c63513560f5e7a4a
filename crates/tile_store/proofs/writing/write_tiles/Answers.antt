use Rattle.std.proofs.Common.{◌*◌, sym, ◌∙◌, arith}
use Rattle.tile_store.proofs.Kept.{on-ok}
use Rattle.tile_store.proofs.Steps.{prefix-contents, only_reads-following, writes-on}
use Rattle.tile_store.proofs.writing.write_tiles.Goals as goal

pub returns-in_err-make_durable-clause-following : goal.returns-in_err-make_durable-clause-following
returns-in_err-make_durable-clause-following g c =
    only_reads-following g.T.Disk c.args.disk.now c.make_durable.new.disk (8192 * c.args.from)
    c.make_durable.ensures.only_reads

pub returns-in_err-put_all-clause-prefix : goal.returns-in_err-put_all-clause-prefix
returns-in_err-put_all-clause-prefix g c = λ before after contents_old contents_new.
    prefix-contents g.T.Disk c.make_durable.new.disk c.put_all.new.disk (8192 * c.args.from) before
    after
    (g.met.T.Disk.counts_now c.put_all.new.disk) (g.met.T.Disk.reads_crash_state c.put_all.new.disk)
    c.in_ok-make_durable.ensures.durable (c.make_durable.ensures.only_reads.contents ∙ contents_old)
    contents_new
    c.put_all.ensures.following.any_time

pub returns-in_err-put_all-clause-following : goal.returns-in_err-put_all-clause-following
returns-in_err-put_all-clause-following g c =
    writes-on g.T.Disk c.args.disk.now c.make_durable.new.disk c.put_all.new.disk
    (8192 * c.args.from)
    (g.met.T.Disk.counts_now c.make_durable.new.disk)
    (only_reads-following g.T.Disk c.args.disk.now c.make_durable.new.disk (8192 * c.args.from)
    c.make_durable.ensures.only_reads) c.put_all.ensures.following

pub returns-clause-written : goal.returns-clause-written
returns-clause-written g c =
    let known = c.make_durable-2.ensures.known in
    let written = c.in_ok-put_all.ensures.written in
    let before = c.make_durable.ensures.known in
    let wrote = written.known in
    on-ok c.make_durable-2.result (record {
      known = omega arith;
      holds = λ before after contents_old contents_new leaves are first.
          written.holds before after (c.make_durable.ensures.only_reads.contents ∙ contents_old)
          (sym c.make_durable-2.ensures.only_reads.contents ∙ contents_new) leaves are first;
      after = λ before now contents_old contents_new.
          written.after before now (c.make_durable.ensures.only_reads.contents ∙ contents_old)
          (sym c.make_durable-2.ensures.only_reads.contents ∙ contents_new);
    })

pub returns-clause-prefix : goal.returns-clause-prefix
returns-clause-prefix g c = λ before after contents_old contents_new.
    prefix-contents g.T.Disk c.make_durable.new.disk c.put_all.new.disk (8192 * c.args.from) before
    after
    (g.met.T.Disk.counts_now c.put_all.new.disk) (g.met.T.Disk.reads_crash_state c.put_all.new.disk)
    c.in_ok-make_durable.ensures.durable (c.make_durable.ensures.only_reads.contents ∙ contents_old)
    (sym c.make_durable-2.ensures.only_reads.contents ∙ contents_new)
    c.put_all.ensures.following.any_time

pub returns-clause-following : goal.returns-clause-following
returns-clause-following g c =
    writes-on g.T.Disk c.args.disk.now c.put_all.new.disk c.make_durable-2.new.disk
    (8192 * c.args.from) (g.met.T.Disk.counts_now c.put_all.new.disk)
    (writes-on g.T.Disk c.args.disk.now c.make_durable.new.disk c.put_all.new.disk
    (8192 * c.args.from) (g.met.T.Disk.counts_now c.make_durable.new.disk)
    (only_reads-following g.T.Disk c.args.disk.now c.make_durable.new.disk (8192 * c.args.from)
    c.make_durable.ensures.only_reads) c.put_all.ensures.following)
    (only_reads-following g.T.Disk c.put_all.new.disk c.make_durable-2.new.disk (8192 * c.args.from)
    c.make_durable-2.ensures.only_reads)
