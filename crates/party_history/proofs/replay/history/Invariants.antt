use Rattle.std.proofs.Common.{◌≡◌, drop}
use Rattle.party_history.specs.Histories.{history_of, states_from}
use Rattle.party_history.specs.Rules.{may_follow}
use Rattle.party_history.proofs.replay.history.Given as goal

-- the steps that are left lead from here where all of them lead from the start
abbrev pub invariant-loop-step : goal.invariant-loop-step
invariant-loop-step g l =
    (l.number ≡ l.step-index) × (states_from (may_follow g.H.TreeHash.hash) l.number l.states.items
    (drop l.step-index l.steps)
    ≡ history_of (may_follow g.H.TreeHash.hash) l.starts l.steps)
