use Rattle.std.proofs.Common.{length, ◌∙◌, ap}
use Rattle.tree_cache.proofs.Filled.{count-rows}
use Rattle.tree_cache.specs.Rows.{first_row}
use Rattle.tree_cache.proofs.cache.Cache.len.Goals as goal

pub returns : goal.returns
returns g c =
    c.count.ensures.value
    ∙ count-rows g.H.TreeHash.hash (first_row c.self.inside.rows) c.self.inside.rows
    c.self.invariant.rows_of
    ∙ ap (λ v. length v.leaves) c.self.view_is
