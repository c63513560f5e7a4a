use Rattle.std.proofs.Common.{◌≡◌, drop, length, true}
use Rattle.std.specs.Prelude.{is_some}
use Rattle.std.specs.List.{AllByRecursion}
use Rattle.toml.specs.View.{items_view}
use Rattle.authority_core.specs.RequestLists.{member_tables, requests_from, tables_in}
use Rattle.authority_core.specs.Requests.{CanBeIssued}
use Rattle.authority_core.proofs.Tables.{after_these}
use Rattle.authority_core.proofs.requests.listed.each_request.Given as goal

-- the requests so far can be issued, and with those that the other tables say they make the whole
abbrev pub invariant-loop-value : goal.invariant-loop-value
invariant-loop-value l = record {
  whole : after_these l.requests.items (requests_from l.value-index
      (member_tables (items_view (drop l.value-index l.values))))
      ≡ requests_from 0 (member_tables (items_view l.values));
  tables : is_some (tables_in (items_view (drop l.value-index l.values))) ≡ true;
  valid : AllByRecursion CanBeIssued l.requests.items;
  count : length l.requests.items ≡ l.value-index;
}
