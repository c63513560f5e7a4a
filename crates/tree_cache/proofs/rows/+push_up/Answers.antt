use Rattle.std.proofs.Common.{length, ap, arith, rules}
use Rattle.std.proofs.lemmas.List.{length_push}
use Rattle.tree_cache.proofs.Pushes.{capacity-above, capacity-some, capacity-spare, pushed-alone}
use Rattle.tree_cache.proofs.Pushes.{pushed-joined}
use Rattle.tree_cache.specs.Rows.{HaveCapacity}
use Rattle.tree_cache.proofs.rows.+push_up.Goals as goal

pub unreachable-requires : goal.unreachable-requires
unreachable-requires g t c =
    capacity-some c.args.rows.now c.requires c.in-None.ensures.cases

pub push-requires : goal.push-requires
push-requires g t c =
    capacity-spare c.args.rows.now c.in-Some.row.now c.in-Some.above.now
    c.in-Some.ensures.cases.0 c.requires

pub push_up-requires : goal.push_up-requires
push_up-requires g t c =
    let size = ap length c.push.ensures.hashes in
    let one = length_push c.in-Some.row.now.kept c.args.hash.now in
    let capacity : HaveCapacity c.in-Some.above.now =
    capacity-above c.args.rows.now c.in-Some.row.now c.in-Some.above.now
    (length c.push.new.self.kept) c.in-Some.ensures.cases.0 c.requires (omega arith)
    c.in-Some-last_pair.ensures.0 in
    search rules

pub returns-in-Some-last_pair : goal.returns-in-Some-last_pair
returns-in-Some-last_pair g t c =
    pushed-joined c.args.rows.now c.in-Some.row.now c.push.new.self c.in-Some.above.now
    c.args.hash.now c.in-Some.ensures.cases.0 c.push.ensures.gone c.push.ensures.hashes
    c.push.ensures.spare g.H.TreeHash.hash c.push_up.new.rows c.in-Some-last_pair.parent
    c.in-Some-last_pair.ensures.0 c.in-Some-last_pair.ensures.1 c.push_up.ensures

pub returns-in_default : goal.returns-in_default
returns-in_default g t c =
    pushed-alone c.args.rows.now c.in-Some.row.now c.push.new.self c.in-Some.above.now
    c.args.hash.now c.in-Some.ensures.cases.0 c.push.ensures.gone c.push.ensures.hashes
    c.push.ensures.spare g.H.TreeHash.hash c.in_default.ensures
