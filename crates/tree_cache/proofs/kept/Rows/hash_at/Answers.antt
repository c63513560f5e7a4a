use Rattle.std.proofs.Common.{◌≡◌, ◌+◌, ◌*◌, ◌^◌, [], get_or, subst, arith}
use Rattle.tree_core.specs.Path.{part_of}
use Rattle.tree_core.specs.Tree.{root_of}
use Rattle.tree_cache.proofs.kept.Rows.hash_at.Goals as goal

pub returns : goal.returns
returns c = λ h leaves are.
    let sum : c.args.place + 0 ≡ c.args.place = omega arith in
    subst (λ p. get_or c.hashes.result.now 0 []
    ≡ root_of h (part_of leaves (p * 2 ^ c.args.level) ((p + 1) * 2 ^ c.args.level))) sum
    (c.hashes.ensures.each h leaves are 0 (omega arith))
