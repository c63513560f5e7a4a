use Rattle.std.proofs.Common.{◌≡◌, ◌+◌, ◌^◌, ◌<◌, drop}
use Rattle.mtc_proof.specs.Views.{proof_parts}
use Rattle.policy_core.specs.Counting.{counts, set_from}
use Rattle.relying_party.proofs.counting.counted.Given as goal

-- The set so far, and the indices from here on, make the whole.
abbrev pub invariant-loop-place : goal.invariant-loop-place
invariant-loop-place l = record {
  whole : l.set + set_from (counts l.store (proof_parts l.proof) l.hash) l.place
      (drop l.place l.store.cosigners)
      ≡ set_from (counts l.store (proof_parts l.proof) l.hash) 0 l.store.cosigners;
  below : l.set < 2 ^ l.place;
}
