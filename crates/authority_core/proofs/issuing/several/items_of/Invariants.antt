use Rattle.std.proofs.Common.{◌≡◌, take}
use Rattle.std.specs.List.{AllByRecursion}
use Rattle.std.specs.Prelude.{map}
use Rattle.issuance_log.specs.Batches.{AreOfForm}
use Rattle.authority_core.specs.Acceptance.{IsOwnEntry}
use Rattle.authority_core.specs.Issuing.{entry_for}
use Rattle.authority_core.proofs.issuing.several.items_of.Given as goal

-- the items of the requests so far
abbrev pub invariant-loop-request : goal.invariant-loop-request
invariant-loop-request g l = record {
  items : l.items.items ≡ map (λ r. (entry_for g.H.TreeHash.hash l.form l.id r, r.key))
      (take l.request-index l.requests);
  own : AllByRecursion (λ r. IsOwnEntry l.id (entry_for g.H.TreeHash.hash l.form l.id r))
      (take l.request-index l.requests);
  fit : AreOfForm g.H.TreeHash.hash l.form l.items.items;
}
