use Rattle.std.proofs.Common.{◌≡◌, ◌-◌, ◌++◌, ◌≤◌, drop, take}
use Rattle.std.specs.Prelude.{flat_map}
use Rattle.issuance_log.specs.Records.{item_text}
use Rattle.mirror_core.specs.Records.{mirror_batch_record}
use Rattle.mirror_core.specs.Refusals.{pairs_of}
use Rattle.mirror_core.proofs.batch.batch_record.Given as goal

-- the texts of the rest are what is missing
abbrev pub invariant-items : goal.invariant-items
invariant-items g l = record {
  missing : l.body
      ++ flat_map item_text (drop l.done (take l.count (drop l.from (pairs_of l.items))))
      ≡ mirror_batch_record (take l.count (drop l.from (pairs_of l.items)));
  within : l.done ≤ l.count;
}

abbrev pub decreases-items : goal.decreases-items
decreases-items g l = l.count - l.done
