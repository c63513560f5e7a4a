use Rattle.std.proofs.Common.{◌≡◌, List, Result, Ok, Err, IfOk, IfErr, subst}
use Rattle.std.specs.Prelude.{◌≢◌}
use Rattle.toml.specs.View.{items_view, table_view}
use Rattle.authority_core.specs.RequestLists.{member_tables}
use Rattle.authority_core.specs.Requests.{RequestParts}
use Rattle.authority_core.specs.declared.requests.error.RequestListError.{RequestListError}
use Rattle.authority_core.specs.declared.requests.error.RequestListError.TheVariants.{Memory}
use Rattle.authority_core.proofs.Tables.{listed_not, listed_of}
use Rattle.authority_core.proofs.requests.listed.requests_at.Goals as goal

pub returns-in-Ok-clause-ok : goal.returns-in-Ok-clause-ok
returns-in-Ok-clause-ok c =
    subst (λ (w : Result (List RequestParts) RequestListError). IfOk c.each_request.result
    (λ xs. w ≡ Ok xs.items))
    (listed_of (table_view c.args.root.now) (member_tables (items_view c.in-Ok.values.now))
    c.in-Ok.ensures.ok) c.each_request.ensures.ok

pub returns-in-Ok-clause-err : goal.returns-in-Ok-clause-err
returns-in-Ok-clause-err c =
    subst (λ (w : Result (List RequestParts) RequestListError). IfErr c.each_request.result
    (λ e. e ≢ Memory → w ≡ Err e))
    (listed_of (table_view c.args.root.now) (member_tables (items_view c.in-Ok.values.now))
    c.in-Ok.ensures.ok) c.each_request.ensures.err

pub returns-in-Err-clause-err : goal.returns-in-Err-clause-err
returns-in-Err-clause-err c = λ other.
    listed_not (table_view c.args.root.now) _ c.in-Err.ensures.err
