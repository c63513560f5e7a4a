use Rattle.std.proofs.Common.{ℕ, Some, ap, refl, sym, ◌∙◌}
use Rattle.mirror_core.specs.Folds.{more_mirrored}
use Rattle.mirror_core.proofs.Views.{items_refused, items_taken}
use Rattle.mirror_core.proofs.following.take_next.Goals as goal

pub returns-then-not-takes_all-clause-taken : goal.returns-then-not-takes_all-clause-taken
returns-then-not-takes_all-clause-taken g c = (
  items_refused g.H.TreeHash.hash c.args.numbers.now c.args.body.now _ c.in-Ok.ensures.found
      (sym c.takes_all.ensures.value ∙ c.if-not-takes_all.true),
  refl,
)

pub returns-else-not-takes_all-clause-taken : goal.returns-else-not-takes_all-clause-taken
returns-else-not-takes_all-clause-taken g c =
    items_taken g.H.TreeHash.hash c.args.numbers.now c.args.body.now _ c.in-Ok.ensures.found
    (sym c.takes_all.ensures.value ∙ c.if-not-takes_all.false)
    ∙ ap (λ (n : ℕ). Some (more_mirrored n c.args.numbers.now)) (sym c.in-Ok.ensures.count)
    ∙ ap Some (sym c.add_items.ensures)
