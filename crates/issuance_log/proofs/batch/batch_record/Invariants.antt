use Rattle.std.proofs.Common.{◌≡◌, ◌++◌, drop}
use Rattle.std.specs.Prelude.{flat_map}
use Rattle.issuance_log.specs.Records.{batch_record, item_text}
use Rattle.issuance_log.proofs.batch.batch_record.Given as goal

-- the texts of the rest are what is missing
abbrev pub invariant-loop-item : goal.invariant-loop-item
invariant-loop-item l =
    l.body ++ flat_map item_text (drop l.item-index l.items) ≡ batch_record l.items
