use Rattle.std.proofs.Common.{[], refl}
use Rattle.tree_cache.proofs.Fulls.{no-fulls, row-fulls}
use Rattle.tree_cache.proofs.kept.Rows.row.Goals as goal

pub returns-in-Some : goal.returns-in-Some
returns-in-Some c = λ h leaves are all whole.
    row-fulls h c.args.level leaves c.args.self.now c.in-Some.row.now c.as_slice.result.now
    c.in-Some.ensures.some c.as_slice.ensures are all whole

pub returns-in-None : goal.returns-in-None
returns-in-None c = λ h leaves are all whole.
    no-fulls h c.args.level leaves c.args.self.now [] c.in-None.ensures.none refl are all
