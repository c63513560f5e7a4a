use Rattle.std.proofs.Common.{◌≡◌, Err, sym, ◌∙◌, ap, arith, rules}
use Rattle.tree_core.specs.Tree.{tree_hash}
use Rattle.tree_proofs.proofs.Fulls.{some_in}
use Rattle.collide.proofs.Compared.{found_of}
use Rattle.collide.specs.declared.comparing.Halt.TheVariants.{Found}
use Rattle.collide.proofs.consistency.in_consistency.Goals as goal

pub part_between-requires-clause-order : goal.part_between-requires-clause-order
part_between-requires-clause-order g c =
    let some = some_in c.args.start c.args.end c.requires.valid in
    omega arith

pub returns-then-eq : goal.returns-then-eq
returns-then-eq g c =
    let same : c.list_hash.result ≡ c.args.node.now = search rules in
    ap (tree_hash g.H.TreeHash.hash) (sym c.part_between.ensures)
    ∙ sym c.list_hash.ensures ∙ same

pub compare_proof-requires-clause-order : goal.compare_proof-requires-clause-order
compare_proof-requires-clause-order g c =
    some_in c.args.start c.args.end c.requires.valid

pub returns-in-Err-Found : goal.returns-in-Err-Found
returns-in-Err-Found g c =
    let differ : c.list_hash.result ≡ c.args.node.now → ⊥ = search rules in
    let is : c.compare_proof.result ≡ Err (Found c.in-Err-Found.one c.in-Err-Found.other) =
    search rules in (
      λ same. differ (c.list_hash.ensures
          ∙ ap (tree_hash g.H.TreeHash.hash) c.part_between.ensures
          ∙ same),
      found_of g.H.TreeHash.hash _ _ _ _ _ c.compare_proof.result _ _ is
          (c.compare_proof.ensures _ c.requires.opens),
    )
