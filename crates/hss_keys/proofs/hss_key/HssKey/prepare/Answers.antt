use Rattle.hss_keys.proofs.Newest.{prepared_is}
use Rattle.hss_keys.proofs.hss_key.HssKey.prepare.Goals as goal

pub returns : goal.returns
returns c =
    let key = c.self.inside in
    rw (← c.self.view_is) (prepared_is key.top key.low key.ots key.secret c.in-Some.low key.children
    c.in_ok-tree-in-Some.tree c.self.invariant.made c.in-Some.is
    (c.in_ok-tree-in-Some.ensures key.top.lms))
