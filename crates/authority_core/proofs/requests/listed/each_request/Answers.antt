use Rattle.std.proofs.Common.{◌≡◌, ℕ, ◌+◌, List, Some, length, drop, ap, sym, subst, ◌∙◌}
use Rattle.std.proofs.Common.{arith}
use Rattle.std.proofs.lemmas.List.{at_drop_all, length_push}
use Rattle.std.specs.List.{AllByRecursion}
use Rattle.toml.specs.Data.{as_table}
use Rattle.toml.specs.View.{items_view, table_view, view}
use Rattle.toml.specs.declared.value.Value.{Value}
use Rattle.authority_core.specs.RequestLists.{member_tables, numbered_request, requests_from}
use Rattle.authority_core.specs.Requests.{CanBeIssued, RequestParts}
use Rattle.authority_core.proofs.Answered.{err_seen}
use Rattle.authority_core.proofs.Items.{AllByRecursion-push}
use Rattle.authority_core.proofs.Tables.{after_these, request_next, request_not, requests_all}
use Rattle.authority_core.proofs.Tables.{tables_after}
use Rattle.authority_core.proofs.requests.listed.each_request.Goals as goal

pub returns-in_err-request-in-Some-clause-err : goal.returns-in_err-request-in-Some-clause-err
returns-in_err-request-in-Some-clause-err c =
    let vs = c.args.values.now in
    let here = c.loop-value.invariant in
    let ms = table_view c.in-Some.table.now in
    let why = c.in_err-request-in-Some.field-0.0 in
    let one : as_table (view c.value-item.result) ≡ Some ms =
    sym (rw c.in-Some.is at c.as_table.ensures) in
    let number : length c.as_slice.result.now ≡ c.loop-value.value-index =
    ap (λ (l : List RequestParts). length l) c.as_slice.ensures.value ∙ here.count in
    err_seen _ c.from_residual.result why c.from_residual.ensures.1
    (λ other. request_not vs c.loop-value.value-index c.value-item.result c.loop-value-test.true
    c.value-item.is c.loop-value.requests.items c.loop-value.value-index ms one here.tables _
    here.whole why (ap (λ (n : ℕ). numbered_request n ms) (sym number)
    ∙ c.in_err-request-in-Some.ensures.exact other))

pub loop-value-preserved : goal.loop-value-preserved
loop-value-preserved c =
    let vs = c.args.values.now in
    let index = c.loop-value.value-index in
    let here = c.loop-value.invariant in
    let ms = table_view c.in-Some.table.now in
    let r = c.in_ok-request-in-Some.request in
    let one : as_table (view c.value-item.result) ≡ Some ms =
    sym (rw c.in-Some.is at c.as_table.ensures) in
    let number : length c.as_slice.result.now ≡ index =
    ap (λ (l : List RequestParts). length l) c.as_slice.ensures.value ∙ here.count in
    let grown = c.in_ok-push_request-in-Some.ensures in
    record {
      whole = subst (λ (l : List RequestParts). after_these l (requests_from (index + 1)
          (member_tables (items_view (drop (index + 1) vs))))
          ≡ requests_from 0 (member_tables (items_view vs))) (sym grown)
          (request_next vs index c.value-item.result c.loop-value-test.true c.value-item.is
          c.loop-value.requests.items index ms one here.tables _ here.whole r
          (ap (λ (n : ℕ). numbered_request n ms) (sym number)
          ∙ c.in_ok-request-in-Some.ensures.exact));
      tables = tables_after vs index c.value-item.result c.loop-value-test.true c.value-item.is ms
          one here.tables;
      valid = subst (λ (l : List RequestParts). AllByRecursion CanBeIssued l) (sym grown)
          (AllByRecursion-push CanBeIssued c.loop-value.requests.items r here.valid
          c.in_ok-request-in-Some.ensures.valid);
      count = ap (λ (l : List RequestParts). length l) grown
          ∙ length_push c.loop-value.requests.items r ∙ ap (λ (n : ℕ). n + 1) here.count;
    }

pub returns-clause-ok : goal.returns-clause-ok
returns-clause-ok c =
    let index = c.loop-value.value-index in
    let rs = c.loop-value.requests.items in
    sym c.loop-value.invariant.whole
    ∙ at_drop_all (λ (xs : List Value). after_these rs (requests_from index
    (member_tables (items_view xs)))) c.args.values.now index (omega arith)
    ∙ requests_all rs index
