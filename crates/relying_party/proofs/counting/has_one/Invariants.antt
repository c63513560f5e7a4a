use Rattle.std.proofs.Common.{◌≡◌}
use Rattle.std.specs.List.{list_any}
use Rattle.policy_core.specs.Counting.{is_signature_of}
use Rattle.relying_party.proofs.counting.has_one.Given as goal

-- None of the signatures so far is the cosigner's.
abbrev pub invariant-loop-one : goal.invariant-loop-one
invariant-loop-one l = list_any (is_signature_of l.cosigner l.text) l.one-iterator
    ≡ list_any (is_signature_of l.cosigner l.text) l.initial.one-iterator
