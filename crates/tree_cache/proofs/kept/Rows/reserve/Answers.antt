use Rattle.std.proofs.Common.{subst}
use Rattle.tree_cache.proofs.Grows.{grown-same, rows-grown}
use Rattle.tree_cache.specs.Rows.{HaveGrown}
use Rattle.tree_cache.proofs.kept.Rows.reserve.Goals as goal

pub returns-in_err-reserve-clause-grown : goal.returns-in_err-reserve-clause-grown
returns-in_err-reserve-clause-grown c =
    subst (λ r. HaveGrown r (record {
      first = c.reserve.new.self;
      above = c.self.inside.above.items;
      capacity = c.self.inside.capacity;
    })) c.self.view_is
    (rows-grown _ _ c.reserve.ensures.gone c.reserve.ensures.hashes
    (grown-same c.self.inside.above.items))

pub returns-in_err-make_capacity-clause-grown : goal.returns-in_err-make_capacity-clause-grown
returns-in_err-make_capacity-clause-grown c =
    subst (λ r. HaveGrown r (record {
      first = c.reserve.new.self;
      above = c.make_capacity.new.rows.items;
      capacity = c.self.inside.capacity;
    })) c.self.view_is
    (rows-grown _ _ c.reserve.ensures.gone c.reserve.ensures.hashes c.make_capacity.ensures.grown)

pub returns-clause-grown : goal.returns-clause-grown
returns-clause-grown c =
    subst (λ r. HaveGrown r (record {
      first = c.reserve.new.self;
      above = c.make_capacity.new.rows.items;
      capacity = c.in_ok-capacity.capacity;
    })) c.self.view_is
    (rows-grown _ _ c.reserve.ensures.gone c.reserve.ensures.hashes c.make_capacity.ensures.grown)
