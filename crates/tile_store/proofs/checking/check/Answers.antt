use Rattle.std.proofs.Common.{◌≤◌, arith, rules}
use Rattle.tile_store.proofs.Compared.{reason-only_read}
use Rattle.tile_store.specs.Comparing.{HasTileReason}
use Rattle.tile_store.proofs.checking.check.Goals as goal

pub returns-in_err-compare-clause-err : goal.returns-in_err-compare-clause-err
returns-in_err-compare-clause-err g c =
    let least = c.min.ensures in
    let within : c.min.result ≤ c.args.to = omega arith in
    let reason : HasTileReason g.T.Disk g.H.TreeHash.hash c.args.rows.now c.args.from c.args.to
    c.args.disk.now c.compare.new.disk c.args.pool.now c.in_err-compare.field-0.0 =
    reason-only_read g.T.Disk g.H.TreeHash.hash c.args.rows.now c.args.from c.min.result c.args.to
    c.args.disk.now c.read_len.new.disk c.compare.new.disk c.args.pool.now
    c.in_err-compare.field-0.0 c.read_len.ensures.only_reads c.in_ok-whole.ensures.cause.fine within
    c.in_err-compare.ensures.err in
    let made = c.from_residual-in_err-compare.ensures in
    search rules
