use Rattle.std.proofs.Common.{◌≡◌, ℕ, Bor, length, map, Ok, sym, ◌∙◌, ap, rules}
use Rattle.std.proofs.lemmas.List.{length-map}
use Rattle.byte_formats.specs.Types.{Hash, Text}
use Rattle.tree_core.specs.Toy.{toy_hash}
use Rattle.tree_proofs.proofs.Checked.{PassesWhereChecks_always}
use Rattle.tree_proofs.specs.Consistency.{consistency}
use Rattle.test_tree.proofs.finding.traced.Goals as goal

pub in_consistency-requires : goal.in_consistency-requires
in_consistency-requires c =
    let passes : c.check.result ≡ Ok tt = search rules in
    let borrowed : Bor Text → Text = λ x. x.now in
    let size = length (map borrowed c.args.items.now) in
    let law = PassesWhereChecks_always toy_hash c.args.start c.args.end size c.args.node.now _
    c.args.proof.now in
    law.0 (ap (λ (root : Hash). consistency toy_hash c.args.start c.args.end size c.args.node.now
    root c.args.proof.now) (sym c.list_hash-root.ensures)
    ∙ ap (λ (n : ℕ). consistency toy_hash c.args.start c.args.end n c.args.node.now
    c.list_hash-root.result c.args.proof.now) (length-map c.args.items.now borrowed)
    ∙ sym c.check.ensures.exact ∙ passes)
