use Rattle.std.proofs.Common.{◌≡◌, drop}
use Rattle.std.specs.List.{list_any}
use Rattle.issuance_log.specs.Batches.{has_large, is_large}
use Rattle.issuance_log.proofs.batch.has_large.Given as goal

-- none of those before the rest is
abbrev pub invariant-loop-item : goal.invariant-loop-item
invariant-loop-item l = has_large l.items ≡ list_any is_large (drop l.item-index l.items)
