use Rattle.std.proofs.Common.{subst}
use Rattle.journal_core.specs.Words.{disk_of}
use Rattle.issuance_log.specs.Opened.{LogIsNotOpened, LogIsOpened}
use Rattle.issuance_log.specs.Records.{settings_record}
use Rattle.mtc_library.proofs.Begun.{just_begun, new_log_is, stands}
use Rattle.mtc_library.proofs.beginning.begin_log.Goals as goal

pub returns-in-Ok-open-clause-begun : goal.returns-in-Ok-open-clause-begun
returns-in-Ok-open-clause-begun g c =
    let it = c.in-Ok-open.log in
    new_log_is c.args.settings.now c.args.disk c.args.tiles c.in-Ok.journal it
    c.in-Ok.ensures.ok
    (c.in-Ok.ensures.valid g.H.TreeHash.hash)
    (subst (λ (d : g.row.D.Denot). LogIsOpened d c.args.tiles it) c.into_disk.ensures
    c.in-Ok-open.ensures.opened)

pub returns-in-Err-open-clause-refused : goal.returns-in-Err-open-clause-refused
returns-in-Err-open-clause-refused g c =
    let left = c.in-Err-open.refused.disk in
    let tiles = c.in-Err-open.refused.tiles in
    let why = c.in-Err-open.refused.why in
    let journal = c.in-Ok.journal in
    let first = settings_record c.args.settings.now in
    let h = g.H.TreeHash.hash in
    let refused =
    subst (λ (d : g.row.D.Denot). LogIsNotOpened g.D.Disk g.T.Disk h d left c.args.tiles tiles why)
    c.into_disk.ensures c.in-Err-open.ensures.refused in
    record {
      stands = stands first c.args.disk left journal c.in-Ok.ensures.ok refused.only_reads;
      begun = disk_of journal;
      journal = just_begun first c.args.disk journal c.in-Ok.ensures.ok;
      refused = refused;
    }
