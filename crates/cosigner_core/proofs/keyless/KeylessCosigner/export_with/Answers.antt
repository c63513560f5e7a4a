use Rattle.std.proofs.Common.{◌∙◌, sym}
use Rattle.disk_core.proofs.Times.{nothing_read}
use Rattle.journal_core.proofs.Copies.{grows_more, grows_prefix, when_ok}
use Rattle.cosigner_core.specs.Keyless.{keyless_owner}
use Rattle.cosigner_core.proofs.Exported.{export_begun, export_prefix, export_whole}
use Rattle.cosigner_core.proofs.keyless.KeylessCosigner.export_with.Goals as goal

pub returns-in-Err-clause-prefix : goal.returns-in-Err-clause-prefix
returns-in-Err-clause-prefix g c =
    let old = keyless_owner c.args.self.now in
    export_begun old.state old.records
    (g.O.Sink.taken c.args.out.now) (g.O.Sink.taken c.write_prefix.new.out)
    c.write_prefix.ensures.prefix

pub returns-clause-written : goal.returns-clause-written
returns-clause-written g c =
    let it = c.args.self.now in
    let old = keyless_owner it in
    when_ok c.copy_after.result _ _ (export_whole g.H.TreeHash.hash old.state
    c.end_after_first-from.result old.end
    (λ first long. c.end_after_first-from.ensures.end first
    (long ∙ sym c.first_size.ensures.value))
    (g.D.Disk.contents old.disk) (g.O.Sink.taken c.args.out.now)
    (g.O.Sink.taken c.write_prefix.new.out) (g.O.Sink.taken c.copy_after.new.out) it.is_durable
    (g.met.D.Disk.contents_bytes old.disk) c.in-Ok.ensures.ok) c.copy_after.ensures.ok

pub returns-clause-prefix : goal.returns-clause-prefix
returns-clause-prefix g c =
    let it = c.args.self.now in
    let old = keyless_owner it in
    export_prefix g.H.TreeHash.hash old.state c.end_after_first-from.result
    old.end
    (λ first long. c.end_after_first-from.ensures.end first
    (long ∙ sym c.first_size.ensures.value))
    (g.D.Disk.contents old.disk) (g.O.Sink.taken c.args.out.now)
    (g.O.Sink.taken c.write_prefix.new.out) (g.O.Sink.taken c.copy_after.new.out) it.is_durable
    (g.met.D.Disk.contents_bytes old.disk) c.in-Ok.ensures.ok c.copy_after.ensures.prefix

pub returns-in-Err-clause-only_reads : goal.returns-in-Err-clause-only_reads
returns-in-Err-clause-only_reads g c = nothing_read g.D.Disk _ (g.met.D.Disk.only_now _)

pub returns-in-Err-clause-grows : goal.returns-in-Err-clause-grows
returns-in-Err-clause-grows g c =
    grows_prefix (g.O.Sink.taken c.args.out.now) (g.O.Sink.taken c.write_prefix.new.out) _
    c.write_prefix.ensures.prefix

pub returns-clause-grows : goal.returns-clause-grows
returns-clause-grows g c = grows_more (g.O.Sink.taken c.args.out.now)
    (g.O.Sink.taken c.write_prefix.new.out) (g.O.Sink.taken c.copy_after.new.out)
    (_, c.in-Ok.ensures.ok) c.copy_after.ensures.grows
