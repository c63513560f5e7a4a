use Rattle.std.proofs.Common.{◌∙◌, ◌≤◌, ap, subst, sym}
use Rattle.issuance_log.specs.Folds.{LogNumbers}
use Rattle.issuance_log.proofs.TakenItems.{tested_all, tested_first, tested_not, tested_on}
use Rattle.issuance_log.proofs.TakenItems.{tested_within}
use Rattle.issuance_log.proofs.numbers.Numbers.takes_all.Goals as goal

pub items-init : goal.items-init
items-init g c =
    tested_first g.H.TreeHash.hash c.args.self.now.view c.args.items.now c.self.inside.size
    (λ i. (c.type_inv.items i).fits) (ap (λ (m : LogNumbers). m.view.size) c.self.view_is)
    (subst (λ (m : LogNumbers). m.view.size ≤ m.view.settings.limit) c.self.view_is
    c.self.invariant.few)

pub returns-then-not-takes_at-clause-value : goal.returns-then-not-takes_at-clause-value
returns-then-not-takes_at-clause-value g c =
    sym (tested_not g.H.TreeHash.hash c.args.self.now.view c.args.items.now c.items.size
    c.items.rest.now c.items.invariant _ _ (sym c.in-Some.ensures.item)
    (sym c.takes_at.ensures ∙ c.if-not-takes_at.true))

pub items-preserved : goal.items-preserved
items-preserved g c =
    tested_on g.H.TreeHash.hash c.args.self.now.view c.args.items.now c.items.size
    c.items.rest.now c.items.invariant _ _ (sym c.in-Some.ensures.item)
    (sym c.takes_at.ensures ∙ c.if-not-takes_at.false)

pub returns-clause-value : goal.returns-clause-value
returns-clause-value g c =
    sym (tested_all g.H.TreeHash.hash c.args.self.now.view c.args.items.now c.items.size
    c.items.rest.now c.items.invariant (sym c.in_default.ensures.item))

pub returns-clause-within : goal.returns-clause-within
returns-clause-within g c = λ all.
    tested_within g.H.TreeHash.hash c.args.self.now.view c.args.items.now c.items.size
    c.items.rest.now c.items.invariant (sym c.in_default.ensures.item)
