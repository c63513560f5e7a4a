use Rattle.lms_core.specs.Trees.{private_key}
use Rattle.hss_keys.proofs.Newest.{newest_made}
use Rattle.hss_keys.proofs.hss_key.newest_tree.Goals as goal

pub returns-in_ok-tree-in-Some : goal.returns-in_ok-tree-in-Some
returns-in_ok-tree-in-Some c top =
    newest_made (private_key top c.args.ots c.args.secret.now) c.args.low c.in-Some.low
    c.args.children c.in_ok-tree-in-Some.tree c.in-Some.is c.if-children-gt0.true
    (c.in_ok-tree-in-Some.ensures top)
