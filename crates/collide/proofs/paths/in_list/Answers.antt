use Rattle.std.proofs.Common.{◌-◌, Some, sym, ◌∙◌, ap, arith}
use Rattle.std.proofs.lemmas.Result.{IfOk-weaker}
use Rattle.tree_core.proofs.Evaluates.{ok-evaluation}
use Rattle.tree_core.specs.Evaluation.{eval_of}
use Rattle.tree_core.specs.Tree.{leaf_hash, tree_hash}
use Rattle.tree_proofs.proofs.Halving.{part_item, part_length}
use Rattle.collide.proofs.Compared.{extracts_moved}
use Rattle.collide.specs.Inputs.{eval_inputs_of, inputs_of}
use Rattle.collide.proofs.paths.in_list.Goals as goal

pub part_between-part-requires-clause-order : goal.part_between-part-requires-clause-order
part_between-part-requires-clause-order g c =
    let has = ok-evaluation _ _ _ _ _ _ _ c.requires.evaluates in
    let from = has.from in
    let below = has.below in
    omega arith

pub overflow_sub-index : goal.overflow_sub-index
overflow_sub-index g c =
    let has = ok-evaluation _ _ _ _ _ _ _ c.requires.evaluates in
    has.from

pub in_part-requires-clause-inside : goal.in_part-requires-clause-inside
in_part-requires-clause-inside g c =
    let has = ok-evaluation _ _ _ _ _ _ _ c.requires.evaluates in
    let from = has.from in
    let below = has.below in
    let size = part_length _ _ c.args.start c.args.end c.requires.within
    c.part_between-part.ensures in
    omega arith

pub in_part-requires-clause-gives : goal.in_part-requires-clause-gives
in_part-requires-clause-gives g c =
    let h = g.H.TreeHash.hash in
    let has = ok-evaluation _ _ _ _ _ _ _ c.requires.evaluates in
    ap (λ n. eval_of h (c.args.index - c.args.start) n (leaf_hash h c.args.entry.now)
    c.args.path.now)
    (part_length _ _ c.args.start c.args.end c.requires.within c.part_between-part.ensures)
    ∙ has.gives
    ∙ ap (λ part. Some (tree_hash h part)) (sym c.part_between-part.ensures)

pub returns : goal.returns
returns g c =
    let h = g.H.TreeHash.hash in
    let has = ok-evaluation _ _ _ _ _ _ _ c.requires.evaluates in
    let item = part_item _ _ c.args.start c.args.end c.args.index has.from has.below
    c.part_between-part.ensures in
    IfOk-weaker c.in_part.result _ _
    (λ finding. extracts_moved h _ _ _ _ _ _ finding
    (λ same. sym item ∙ same) (λ same. item ∙ same)
    (ap (inputs_of h) c.part_between-part.ensures)
    (ap (λ n. eval_inputs_of h (c.args.index - c.args.start) n c.args.entry.now c.args.path.now)
    (part_length _ _ c.args.start c.args.end c.requires.within c.part_between-part.ensures)))
    c.in_part.ensures
