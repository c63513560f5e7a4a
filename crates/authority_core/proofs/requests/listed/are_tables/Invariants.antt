use Rattle.std.proofs.Common.{◌≡◌, drop}
use Rattle.std.specs.Prelude.{is_some}
use Rattle.toml.specs.View.{items_view}
use Rattle.authority_core.specs.RequestLists.{tables_in}
use Rattle.authority_core.proofs.requests.listed.are_tables.Given as goal

-- those before this one are tables
abbrev pub invariant-loop-value : goal.invariant-loop-value
invariant-loop-value l =
    is_some (tables_in (items_view (drop l.value-index l.values)))
    ≡ is_some (tables_in (items_view l.values))
