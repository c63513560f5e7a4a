use Rattle.hss_keys.proofs.Newest.{held_so}
use Rattle.hss_keys.proofs.hss_key.HssKey.make.Goals as goal

pub invariant_of-result : goal.invariant_of-result
invariant_of-result c =
    held_so c.args.lms c.args.low c.args.ots c.args.secret.now c.copied.result c.args.children
    c.args.next c.in_ok-top.top c.in_ok-newest.newest c.requires c.in_ok-top.ensures
    c.copied.ensures c.in_ok-newest.ensures
