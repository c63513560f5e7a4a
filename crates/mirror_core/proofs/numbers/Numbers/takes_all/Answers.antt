use Rattle.std.proofs.Common.{ap, refl, sym, ◌∙◌, arith}
use Rattle.issuance_log.specs.Batches.{leading_items}
use Rattle.mirror_core.specs.Folds.{MirrorView}
use Rattle.mirror_core.proofs.Taking.{tested_all, tested_not, tested_on, too_many}
use Rattle.mirror_core.proofs.numbers.Numbers.takes_all.Goals as goal

pub items-init : goal.items-init
items-init g c = record { left = λ i. (c.type_inv.items i).fits; tests = refl }

pub returns-then-count-self-clause-value : goal.returns-then-count-self-clause-value
returns-then-count-self-clause-value g c =
    let size = ap (λ (v : MirrorView). v.size) c.self.view_is in
    let few = c.self.invariant.few in
    too_many g.H.TreeHash.hash c.args.self.now (leading_items c.args.items.now) c.args.count
    c.requires (omega (arith, size, few, c.if-count-self.true))

pub returns-then-not-is_mirrorable-clause-value : goal.returns-then-not-is_mirrorable-clause-value
returns-then-not-is_mirrorable-clause-value g c =
    sym (tested_not g.H.TreeHash.hash c.args.items.now c.items.rest.now c.items.invariant _ _
    (sym c.in-Some.ensures.item) c.args.self.now
    (sym c.is_mirrorable.ensures ∙ c.if-not-is_mirrorable.true))

pub items-preserved : goal.items-preserved
items-preserved g c =
    tested_on g.H.TreeHash.hash c.args.items.now c.items.rest.now c.items.invariant _ _
    (sym c.in-Some.ensures.item) (sym c.is_mirrorable.ensures ∙ c.if-not-is_mirrorable.false)

pub returns-clause-value : goal.returns-clause-value
returns-clause-value g c =
    let size = ap (λ (v : MirrorView). v.size) c.self.view_is in
    let few = c.self.invariant.few in
    sym (tested_all g.H.TreeHash.hash c.args.items.now c.items.rest.now c.items.invariant
    c.args.self.now (omega (arith, size, few, c.requires, c.if-count-self.false))
    (sym c.in_default.ensures.item))

pub returns-clause-within : goal.returns-clause-within
returns-clause-within g c = λ yes.
    let size = ap (λ (v : MirrorView). v.size) c.self.view_is in
    let few = c.self.invariant.few in
    omega (arith, size, few, c.if-count-self.false)
