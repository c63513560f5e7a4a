use Rattle.std.proofs.Common.{◌+◌, ◌^◌, length, arith}
use Rattle.std.proofs.lemmas.Nat.{le-div, pow_pos}
use Rattle.tree_cache.proofs.cache.Cache.node_at.Goals as goal

pub returns : goal.returns
returns g c =
    let all = c.row.ensures.all in
    let some = le-div (c.args.place + 1) (length c.args.self.now.leaves) (2 ^ c.args.level)
    (pow_pos c.args.level) c.requires in
    c.row.ensures.each c.args.place (omega arith)
