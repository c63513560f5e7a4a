use Rattle.std.proofs.Common.{sym, ◌∙◌}
use Rattle.quarrel_core.proofs.Verdicts.{conflict_indices}
use Rattle.quarrel_core.proofs.quarrelling.quarrel.Goals as goal

pub key_at-first-requires : goal.key_at-first-requires
key_at-first-requires g c =
    (conflict_indices c.as_slice-steps.result.now c.in-Some.indices.0 c.in-Some.indices.1
    (sym c.in_ok-indices.ensures ∙ c.in-Some.is)).first

pub key_at-second-requires : goal.key_at-second-requires
key_at-second-requires g c =
    (conflict_indices c.as_slice-steps.result.now c.in-Some.indices.0 c.in-Some.indices.1
    (sym c.in_ok-indices.ensures ∙ c.in-Some.is)).second

pub pair_between-requires-clause-conflict : goal.pair_between-requires-clause-conflict
pair_between-requires-clause-conflict g c = sym c.in_ok-indices.ensures ∙ c.in-Some.is

pub pair_between-requires-clause-first : goal.pair_between-requires-clause-first
pair_between-requires-clause-first g c =
    (conflict_indices c.as_slice-steps.result.now c.in-Some.indices.0 c.in-Some.indices.1
    (sym c.in_ok-indices.ensures ∙ c.in-Some.is)).first

pub pair_between-requires-clause-second : goal.pair_between-requires-clause-second
pair_between-requires-clause-second g c =
    (conflict_indices c.as_slice-steps.result.now c.in-Some.indices.0 c.in-Some.indices.1
    (sym c.in_ok-indices.ensures ∙ c.in-Some.is)).second
