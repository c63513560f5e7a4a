use Rattle.std.proofs.Common.{[], ◌∷◌, ◌++◌, ◌∙◌, ap, arith}
use Rattle.tree_cache.proofs.Filled.{all-pushed, first-pushed}
use Rattle.tree_cache.proofs.cache.Cache.push.Goals as goal

pub invariant_of-self : goal.invariant_of-self
invariant_of-self g c =
    let h = g.H.TreeHash.hash in
    all-pushed h c.args.leaf.now c.self.inside.rows c.push.new.self c.fill.new.self
    c.self.invariant (c.push.ensures.pushed h) c.push.ensures.gone c.fill.ensures.rows
    (omega (arith, c.fill.ensures.filled))

pub returns-clause-ok : goal.returns-clause-ok
returns-clause-ok g c =
    let h = g.H.TreeHash.hash in
    first-pushed h c.args.leaf.now c.self.inside.rows c.push.new.self c.fill.new.self
    c.self.invariant (c.push.ensures.pushed h) c.push.ensures.gone c.fill.ensures.rows
    ∙ ap (λ l. l ++ c.args.leaf.now ∷ [])
    (ap (λ v. v.leaves) c.self.view_is ∙ c.in_ok-reserve.ensures.list)
