use Rattle.std.proofs.Common.{subst, arith}
use Rattle.disk_core.specs.Disk.{Torn}
use Rattle.disk_core.proofs.Times.{continues, started}
use Rattle.tile_store.proofs.Prefixes.{following-now, prefix-torn}
use Rattle.tile_store.proofs.Numbers.{full-number, full-small}
use Rattle.tile_store.specs.Layout.{tile_at}
use Rattle.tile_store.specs.Writing.{IsCrashStateAfter}
use Rattle.tree_cache.specs.Rows.{filled_of}
use Rattle.tile_store.proofs.writing.put.Goals as goal

pub offset_of-requires-clause-few : goal.offset_of-requires-clause-few
offset_of-requires-clause-few g c =
    let few = c.requires.few in
    full-small (filled_of c.args.rows.now) c.args.key.level c.args.key.place (omega arith)
    c.requires.full

pub write_at-requires-clause-end : goal.write_at-requires-clause-end
write_at-requires-clause-end g c =
    let number = full-number (filled_of c.args.rows.now) c.args.key.level c.args.key.place
    c.requires.low c.requires.full in
    let few = c.requires.few in
    let here = c.offset_of.ensures in
    let size = c.tile_bytes.ensures.size in
    omega arith

pub returns-clause-any_time : goal.returns-clause-any_time
returns-clause-any_time g c =
    let disk = g.T.Disk in
    let place = tile_at c.args.key.level c.args.key.place in
    continues disk c.args.disk.now c.args.disk.now c.write_at.new.self
    (IsCrashStateAfter disk c.args.disk.now place)
    (started disk c.args.disk.now (IsCrashStateAfter disk c.args.disk.now place)
    (g.met.T.Disk.only_now c.args.disk.now) (following-now disk c.args.disk.now place))
    c.write_at.ensures.time
    (λ crash_state left.
    let step = c.write_at.ensures.crash crash_state left in
    record {
      before = step.0;
      left = step.1;
      keeps = prefix-torn place c.tile_bytes.result.now step.0 crash_state
          (subst (λ p. Torn p c.tile_bytes.result.now step.0 crash_state)
          c.offset_of.ensures step.2);
    })
