use Rattle.std.proofs.Common.{◌≡◌, ◌≤◌, ◌++◌, drop, length, Ok}
use Rattle.byte_formats.specs.Readings.{◌>>=◌}
use Rattle.toml.specs.View.{items_view}
use Rattle.policy_core.specs.CosignerFields.{cosigners_from}
use Rattle.policy_core.specs.Limits.{most_cosigners}
use Rattle.policy_core.proofs.cosigner_fields.each_cosigner.Given as goal

-- What is read so far, and what the rest says, make the whole.
abbrev pub invariant-loop-value : goal.invariant-loop-value
invariant-loop-value l = record {
  whole : (cosigners_from (length l.cosigners.items) (items_view (drop l.value-index l.values))
      >>= λ xs. Ok (l.cosigners.items ++ xs)) ≡ cosigners_from 0 (items_view l.values);
  few : length l.cosigners.items ≤ most_cosigners;
}
