use Rattle.std.proofs.Common.{sym, arith}
use Rattle.std.proofs.lemmas.Bool.{eqb-true}
use Rattle.tree_cache.proofs.Grows.{grown-none}
use Rattle.tree_cache.proofs.rows.add_levels.Goals as goal

pub returns-in_ok-rows-clause-grown : goal.returns-in_ok-rows-clause-grown
returns-in_ok-rows-clause-grown c =
    grown-none c.args.rows.now.items c.in_ok-rows.field-0.items
    (omega (arith, eqb-true _ _ (sym c.if-is_empty.ensures), c.args.rows.now.ok.0))
    c.in_ok-rows.ensures.none
