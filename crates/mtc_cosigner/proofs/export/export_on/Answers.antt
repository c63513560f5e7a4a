use Rattle.std.proofs.Common.{refl}
use Rattle.cosigner_core.specs.Keyless.{keyless_owner}
use Rattle.mtc_command.specs.declared.answer.Stop.TheVariants.{Room}
use Rattle.mtc_cosigner.proofs.Streamed.{export_broken, export_lost, export_written, read_fine}
use Rattle.mtc_cosigner.proofs.Streamed.{read_rose, write_rose}
use Rattle.mtc_cosigner.proofs.export.export_on.Goals as goal

pub returns-in-Ok-clause-streams : goal.returns-in-Ok-clause-streams
returns-in-Ok-clause-streams g c =
    let did = c.export_with.ensures in
    export_written g.D.Disk g.O.Sink c.args.journal.now (keyless_owner c.args.cosigner.now)
    (keyless_owner c.export_with.new.self).disk did.only_reads c.args.out.now
    c.export_with.new.out did.grows
    c.in-Ok.ensures.written tt

pub returns-in-Err-Read-clause-streams : goal.returns-in-Err-Read-clause-streams
returns-in-Err-Read-clause-streams g c =
    let did = c.export_with.ensures in
    export_broken g.D.Disk g.O.Sink c.args.journal.now (keyless_owner c.args.cosigner.now)
    (keyless_owner c.export_with.new.self).disk did.only_reads c.args.out.now
    c.export_with.new.out did.grows
    did.prefix (read_rose _ _ _ _ _ c.in-Err-Read.field-0-is c.in-Err-Read.ensures.cause)
    (read_fine _ _ _ _ _ c.in-Err-Read.field-0-is c.in-Err-Read.ensures.cause)
    (Room c.args.journal) refl

pub returns-in-Err-Write-clause-streams : goal.returns-in-Err-Write-clause-streams
returns-in-Err-Write-clause-streams g c =
    let did = c.export_with.ensures in
    export_lost g.D.Disk g.O.Sink c.args.journal.now (keyless_owner c.args.cosigner.now)
    (keyless_owner c.export_with.new.self).disk did.only_reads c.args.out.now
    c.export_with.new.out did.grows
    did.prefix (write_rose _ _ _ _ _ c.in-Err-Write.field-0-is c.in-Err-Write.ensures.cause) _
