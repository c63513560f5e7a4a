use Rattle.std.proofs.Common.{ap, arith}
use Rattle.tree_proofs.proofs.Aligned.{first_valid}
use Rattle.issuance_log.specs.Folds.{LogView}
use Rattle.issuance_log.specs.Staying.{stays_alone}
use Rattle.issuance_log.specs.Words.{log_disk, log_tiles_disk}
use Rattle.drill_core.proofs.OnlyRead.{mem_now, nodes_stay}
use Rattle.drill_core.proofs.tree.proof_from.Goals as goal

pub consist-requires-clause-valid : goal.consist-requires-clause-valid
consist-requires-clause-valid g c =
    first_valid c.args.held (omega (arith, c.if-held-eq0.false))

pub consist-requires-clause-inside : goal.consist-requires-clause-inside
consist-requires-clause-inside g c =
    let held = c.requires in
    let size = c.size_of-size.ensures.value in
    omega (arith, held, size)

pub consist-requires-clause-within : goal.consist-requires-clause-within
consist-requires-clause-within g c =
    let seen = ap (λ (v : LogView). v.size) c.law_sound.ensures.view in
    let size = c.size_of-size.ensures.value in
    omega (arith, seen, size)

pub returns-in-Ok : goal.returns-in-Ok
returns-in-Ok g c = nodes_stay _ _ c.consist.ensures.stays

pub returns-in-Err : goal.returns-in-Err
returns-in-Err g c = nodes_stay _ _ c.consist.ensures.stays

pub returns-then-held-eq0 : goal.returns-then-held-eq0
returns-then-held-eq0 g c =
    stays_alone c.args.log.now (mem_now (log_disk c.args.log.now))
    (mem_now (log_tiles_disk c.args.log.now))
