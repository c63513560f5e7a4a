use Rattle.std.proofs.Common.{◌≡◌, ◌+◌, ◌≤◌, drop}
use Rattle.issuance_log.specs.Batches.{fitting, most_listed}
use Rattle.issuance_log.proofs.batch.fitting.Given as goal

-- so many fit before the rest
abbrev pub invariant-loop-item : goal.invariant-loop-item
invariant-loop-item l =
    (fitting most_listed l.items ≡ l.count + fitting l.left (drop l.item-index l.items))
    × (l.count ≤ l.item-index)
