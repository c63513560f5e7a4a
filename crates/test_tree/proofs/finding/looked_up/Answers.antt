use Rattle.std.proofs.Common.{◌≡◌, Ok, sym, ◌∙◌, ap, rules}
use Rattle.tree_core.specs.Evaluation.{evaluation}
use Rattle.tree_core.specs.Toy.{toy_hash}
use Rattle.tree_core.specs.Tree.{tree_hash}
use Rattle.test_tree.proofs.finding.looked_up.Goals as goal

pub in_list-requires-clause-evaluates : goal.in_list-requires-clause-evaluates
in_list-requires-clause-evaluates c =
    let same : c.in_ok-given.given ≡ c.list_hash-own.result = search rules in
    let given : c.evaluate.result ≡ Ok c.in_ok-given.given = search rules in
    ap (λ l. evaluation toy_hash l c.args.index c.args.start c.args.end c.args.path.now)
    (sym c.leaf.ensures)
    ∙ sym c.evaluate.ensures.exact ∙ given
    ∙ ap Ok (same ∙ c.list_hash-own.ensures ∙ ap (tree_hash toy_hash) c.part_between.ensures)
