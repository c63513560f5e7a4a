use Rattle.std.proofs.Common.{◌≡◌, ◌+◌, ◌*◌, ◌/◌, length, sym, ◌∙◌, ap, refl, subst, arith}
use Rattle.std.proofs.lemmas.List.{length_push}
use Rattle.tree_cache.proofs.Filled.{rows-pushed}
use Rattle.tree_cache.proofs.Grows.{gone-grown}
use Rattle.tree_cache.specs.Rows.{AreRowsOf, RowsState, filled_of, gone_at}
use Rattle.tree_cache.proofs.kept.Rows.push.Goals as goal

before : goal.After-push → RowsState
before c = record {
  first = c.self.inside.first;
  above = c.self.inside.above.items;
  capacity = c.self.inside.capacity;
}

after : goal.After-push → RowsState
after c = record {
  first = c.push.new.self;
  above = c.self.inside.above.items;
  capacity = c.self.inside.capacity;
}

pub returns-clause-pushed : goal.returns-clause-pushed
unfolding before after
returns-clause-pushed c = λ h leaves are.
    rows-pushed h leaves (before c) (after c) c.args.leaf.now c.push.ensures.gone
    c.push.ensures.hashes refl (subst (AreRowsOf h leaves) (sym c.self.view_is) are)

pub returns-clause-gone : goal.returns-clause-gone
unfolding before after
returns-clause-gone c = λ level.
    gone-grown (before c) (after c) c.push.ensures.gone (λ above. refl) level
    ∙ ap (λ r. gone_at r level) c.self.view_is

pub returns-clause-filled : goal.returns-clause-filled
unfolding before after
returns-clause-filled c =
    let size = ap length c.push.ensures.hashes
    ∙ length_push c.self.inside.first.kept c.args.leaf.now in
    let gone = c.push.ensures.gone in
    let made = c.self.invariant.made in
    subst (λ r. filled_of (after c) ≡ 2 * (filled_of r / 2) + 1) c.self.view_is (omega arith)
