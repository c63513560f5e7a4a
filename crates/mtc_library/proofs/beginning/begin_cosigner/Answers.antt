use Rattle.std.proofs.Common.{subst}
use Rattle.cosigner_core.specs.Records.{cosigner_record}
use Rattle.cosigner_core.specs.Words.{cosigner_owner}
use Rattle.journal_core.specs.Words.{disk_of}
use Rattle.cosigner_core.specs.Openings.{CosignerIsNotOpened, CosignerIsOpened}
use Rattle.mtc_library.proofs.Begun.{just_begun, new_cosigner_is, stands}
use Rattle.mtc_library.proofs.beginning.begin_cosigner.Goals as goal

pub returns-in-Ok-open-clause-begun : goal.returns-in-Ok-open-clause-begun
returns-in-Ok-open-clause-begun g c =
    let h = g.H.TreeHash.hash in
    let it = c.in-Ok-open.cosigner in
    new_cosigner_is c.args.settings.now c.args.secret.now c.args.disk c.in-Ok.journal it
    c.in-Ok.ensures.ok
    (c.in-Ok.ensures.valid h)
    (subst (λ (d : g.row.D.Denot). CosignerIsOpened g.D.Disk h d (cosigner_owner it))
    c.into_disk.ensures c.in-Ok-open.ensures.opened)

pub returns-in-Err-open-clause-refused : goal.returns-in-Err-open-clause-refused
returns-in-Err-open-clause-refused g c =
    let left = c.in-Err-open.refused.disk in
    let why = c.in-Err-open.refused.why in
    let journal = c.in-Ok.journal in
    let first = cosigner_record c.args.settings.now c.args.secret.now in
    let refused =
    subst (λ (d : g.row.D.Denot). CosignerIsNotOpened g.D.Disk g.H.TreeHash.hash d left why)
    c.into_disk.ensures c.in-Err-open.ensures.refused in
    record {
      stands = stands first c.args.disk left journal c.in-Ok.ensures.ok refused.only_reads;
      begun = disk_of journal;
      journal = just_begun first c.args.disk journal c.in-Ok.ensures.ok;
      refused = refused;
    }
