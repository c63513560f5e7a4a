use Rattle.std.proofs.Common.{◌≡◌, inr, Err, None, IfSome, sym, subst, ◌∙◌}
use Rattle.disk_core.specs.Times.{OnlyReads}
use Rattle.journal_core.specs.Ends.{durable_of}
use Rattle.journal_core.specs.Words.{disk_of, end_of}
use Rattle.tile_store.proofs.Kept.{on-ok-from}
use Rattle.tile_store.specs.Store.{tiles_disk}
use Rattle.issuance_log.specs.Counted.{kept_in}
use Rattle.issuance_log.specs.Folds.{LogState}
use Rattle.issuance_log.specs.Items.{items_leaves, items_offsets}
use Rattle.issuance_log.specs.Rebuilt.{HasRebuiltTiles, LeavesRebuilt, RewritesTiles}
use Rattle.issuance_log.specs.Shown.{shown_with}
use Rattle.issuance_log.specs.declared.error.LogOpenError.{LogOpenError}
use Rattle.issuance_log.specs.declared.machine.TileRest.{TileRest}
use Rattle.issuance_log.proofs.Opening.{refused_so, tiles_there}
use Rattle.issuance_log.proofs.Renewing.{finds, on_err, rebuilt_left, refused_left, tiles_rebuilt}
use Rattle.issuance_log.proofs.Renewing.{tiles_left}
use Rattle.issuance_log.proofs.rebuilding.rebuild_tiles.Goals as goal

pub returns-in-Err-clause-left : goal.returns-in-Err-clause-left
returns-in-Err-clause-left g c =
    let h = g.H.TreeHash.hash in
    let e = c.in-Err.refused in
    let r = c.not_opened-disk.result in
    let is = c.not_opened-disk.ensures in
    let first : TileRest g.row.T.Denot = record { disk = c.args.tiles; refusal = None } in
    subst (λ d. LeavesRebuilt g.D.Disk g.T.Disk h c.args.disk d c.args.tiles r.tiles (Err r.why))
    (sym is.disk)
    (subst (λ t. LeavesRebuilt g.D.Disk g.T.Disk h c.args.disk e.disk c.args.tiles t (Err r.why))
    (sym is.tiles)
    (subst (λ (w : LogOpenError). LeavesRebuilt g.D.Disk g.T.Disk h c.args.disk e.disk c.args.tiles
    e.rest.disk (Err w)) (sym is.why)
    (refused_left g.D.Disk g.T.Disk h c.args.disk e.disk c.args.tiles e.rest.disk e.why
    e.rest.refusal
    (refused_so g.D.Disk g.T.Disk h c.args.disk e.disk first e.rest e.why c.in-Err.ensures.err
    (c.in-Err.ensures.rest first
    (tiles_there g.T.Disk c.args.tiles (g.met.T.Disk.only_now c.args.tiles)))))))

pub returns-clause-left : goal.returns-clause-left
returns-clause-left g c =
    let h = g.H.TreeHash.hash in
    let k = g.T.Disk in
    let file = c.args.tiles in
    let journal = c.in-Ok.opened.0 in
    let it = c.in-Ok.opened.1 in
    let v = it.numbers.view in
    let offsets = items_offsets it.items in
    let leaves = items_leaves it.items in
    let nodes = it.items.nodes in
    let nodes' = c.renew-renewed.new.nodes in
    let new = tiles_disk nodes' in
    let size = c.tiled-size.result in
    let value = c.tiled-size.ensures.value in
    let renew = c.renew-renewed.ensures in
    let opened = c.in-Ok.ensures.opened in
    let made = c.in-Ok.ensures.made in
    let left = c.in-Ok.ensures.rest (record { disk = file; refusal = None })
    (tiles_there k file (g.met.T.Disk.only_now file)) in
    let later = disk_of journal in
    let kept = kept_in h v offsets leaves (end_of journal) (g.D.Disk.contents later)
    (λ b contents.
    let is = made.durable b contents in record { durable = is.durable; kept = is.holds.keeps }) in
    let first = left.only_reads in
    let counts = g.met.T.Disk.counts_now (tiles_disk nodes) in
    let reads = g.met.T.Disk.reads_crash_state file in
    rw (c.into_disk.ensures, c.into_disk-2.ensures)
    (rebuilt_left g.D.Disk k h c.args.disk later file new (tiles_disk nodes) size
    c.renew-renewed.result c.answer_of.result c.answer_of.ensures opened.fine left.fine renew.cause
    (on-ok-from c.renew-renewed.result renew.renewed renew.cause.fine (λ renewed fine. record {
      fine = opened.fine;
      fine_tiles = fine ∙ left.fine;
      none = λ none. subst (λ n. OnlyReads k file (tiles_disk n)) (sym (renew.none none)) first;
      reach = renewed.reach;
      found = finds g.D.Disk h v offsets (durable_of (end_of journal)) leaves later
          (λ (s : LogState). (s.tiled ≡ size)
          × IfSome (k.contents file) (HasRebuiltTiles k h file new s)) c.args.disk opened.only_reads
          opened.stands opened.all kept (λ list is. (
            sym value,
            tiles_rebuilt file nodes nodes' size first counts reads (shown_with v list) value
                is.hashed renew.renews renewed,
          ));
    }))
    (on_err c.renew-renewed.result (inr (finds g.D.Disk h v offsets (durable_of (end_of journal))
    leaves later (λ (s : LogState). IfSome (k.contents file) (RewritesTiles k h file new s))
    c.args.disk opened.only_reads opened.stands opened.all kept (λ list is.
    tiles_left file nodes nodes' size first counts reads (shown_with v list) value is.hashed
    renew.renews)))))
