use Rattle.std.proofs.Common.{inl}
use Rattle.disk_core.proofs.Times.{nothing_read}
use Rattle.tile_store.specs.Store.{tiles_disk}
use Rattle.issuance_log.proofs.Renewing.{nothing_renewed}
use Rattle.issuance_log.proofs.rebuilding.renew.Goals as goal

pub returns-then-size-eq0-clause-renews : goal.returns-then-size-eq0-clause-renews
returns-then-size-eq0-clause-renews g c =
    let disk = tiles_disk c.args.nodes.now in
    inl (nothing_read g.T.Disk disk (g.met.T.Disk.only_now disk))

pub returns-then-size-eq0-clause-renewed : goal.returns-then-size-eq0-clause-renewed
returns-then-size-eq0-clause-renewed g c =
    nothing_renewed c.args.nodes.now c.args.size c.if-size-eq0.true
