use Rattle.std.proofs.lemmas.Result.{err_from_is_err_and}
use Rattle.toml.specs.View.{table_view}
use Rattle.policy_core.proofs.Chains.{rules_fault, revoked_fault}
use Rattle.policy_core.proofs.reading.store_from.Goals as goal

pub returns-in_err-cosigners-clause-exact : goal.returns-in_err-cosigners-clause-exact
returns-in_err-cosigners-clause-exact c =
    let p = err_from_is_err_and c.from_residual-in_err-cosigners.result
    c.from_residual-in_err-cosigners.ensures.1 in
    rw (p.1, p.2) (λ other.
    rules_fault (table_view c.args.root.now) (c.in_ok-log.log, c.in_ok-log.algorithm_from) _
    c.in_ok-log.ensures
    (c.in_err-cosigners.ensures.err other))

pub returns-in_err-subtrees-clause-exact : goal.returns-in_err-subtrees-clause-exact
returns-in_err-subtrees-clause-exact c =
    let p = err_from_is_err_and c.from_residual-in_err-subtrees.result
    c.from_residual-in_err-subtrees.ensures.1 in
    rw (p.1, p.2) (λ other.
    revoked_fault (table_view c.args.root.now) (c.in_ok-log.log, c.in_ok-log.algorithm_from)
    c.in_ok-cosigners.cosigners
    c.in_ok-cosigners.rules _ c.in_ok-log.ensures c.in_ok-cosigners.ensures.ok.0
    c.in_ok-cosigners.ensures.ok.1 (c.in_err-subtrees.ensures.err other))
