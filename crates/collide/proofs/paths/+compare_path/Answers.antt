use Rattle.std.proofs.Common.{◌≡◌, ◌-◌, length, Err, refl, subst, arith}
use Rattle.std.proofs.Common.{rules}
use Rattle.std.specs.Prelude.{IsSome}
use Rattle.tree_core.specs.Evaluation.{eval_of}
use Rattle.tree_core.specs.Tree.{leaf_hash, pair_hash}
use Rattle.collide.proofs.Evaluated.{ComparesPath, path_left, path_left_found, path_more, path_one}
use Rattle.collide.proofs.Evaluated.{path_right, path_right_found, some_below, value_left}
use Rattle.collide.proofs.Evaluated.{value_right}
use Rattle.collide.proofs.paths.+compare_path.Goals as goal

pub returns-in_default : goal.returns-in_default
returns-in_default g t c =
    let items = g.L.EntryList.texts c.args.items.now in
    path_one g.H.TreeHash.hash items c.args.index _ _ c.args.entry.now
    c.args.path.now _ c.requires.inside (search rules) refl
    c.entry.ensures
    c.compare_leaves.ensures

pub halves-left-requires : goal.halves-left-requires
halves-left-requires g t c =
    let items = g.L.EntryList.texts c.args.items.now in
    path_more g.H.TreeHash.hash c.args.index (length items) _ _ c.args.path.now _
    c.in-Some.ensures.cases.0 c.requires.gives

pub compare_path-requires : goal.compare_path-requires
compare_path-requires g t c κs within =
    let items = g.L.EntryList.texts c.args.items.now in
    let left = g.L.EntryList.texts c.halves-left.result.0 in
    let h = g.H.TreeHash.hash in
    let more = path_more h c.args.index (length items) _ _ c.args.path.now _
    c.in-Some.ensures.cases.0 c.requires.gives in
    let some : IsSome (eval_of h c.args.index (length left)
    (leaf_hash h c.args.entry.now) c.in-Some.rest.now) =
    some_below (λ a. pair_hash h a c.in-Some.sibling.now) _ _
    (value_left h c.args.index (length items) (length left)
    (leaf_hash h c.args.entry.now) c.in-Some.sibling.now c.args.path.now c.in-Some.rest.now
    c.in-Some.ensures.cases.0 more c.halves-left.ensures.count
    (omega (arith, c.len-middle.ensures, c.if-index-middle.true))) c.requires.gives in
    search rules

pub returns-in_err-below : goal.returns-in_err-below
returns-in_err-below g t c =
    let items = g.L.EntryList.texts c.args.items.now in
    let left = g.L.EntryList.texts c.halves-left.result.0 in
    let h = g.H.TreeHash.hash in
    let more = path_more h c.args.index (length items) _ _ c.args.path.now _
    c.in-Some.ensures.cases.0 c.requires.gives in
    let is : Err c.in_err-below.field-0.0 ≡ c.from_residual.result = search rules in
    subst (ComparesPath h items c.args.index (length items)
    c.args.entry.now c.args.path.now) is
    (path_left_found h _ _ _ c.args.index (length items) (length left)
    c.args.entry.now c.in-Some.sibling.now c.args.path.now c.in-Some.rest.now
    c.in_err-below.field-0.0
    c.halves-left.ensures
    c.in-Some.ensures.cases.0 more c.halves-left.ensures.count
    (omega (arith, c.len-middle.ensures, c.if-index-middle.true))
    c.in_err-below.ensures)

pub returns-then-index-middle : goal.returns-then-index-middle
returns-then-index-middle g t c =
    let items = g.L.EntryList.texts c.args.items.now in
    let left = g.L.EntryList.texts c.halves-left.result.0 in
    let h = g.H.TreeHash.hash in
    let more = path_more h c.args.index (length items) _ _ c.args.path.now _
    c.in-Some.ensures.cases.0 c.requires.gives in
    path_left h _ _ _ c.args.index (length items) (length left)
    c.args.entry.now c.list_hash.result c.in-Some.sibling.now c.args.path.now c.in-Some.rest.now
    c.in_ok-below.below _
    c.halves-left.ensures
    c.in-Some.ensures.cases.0 more c.halves-left.ensures.count
    (omega (arith, c.len-middle.ensures, c.if-index-middle.true))
    refl c.list_hash.ensures c.in_ok-below.ensures
    c.compare_pairs.ensures

pub compare_path-requires-2 : goal.compare_path-requires-2
compare_path-requires-2 g t c κs within =
    let items = g.L.EntryList.texts c.args.items.now in
    let left = g.L.EntryList.texts c.halves-left.result.0 in
    let back = g.L.EntryList.texts c.halves-left.result.1 in
    let h = g.H.TreeHash.hash in
    let more = path_more h c.args.index (length items) _ _ c.args.path.now _
    c.in-Some.ensures.cases.0 c.requires.gives in
    let right = c.if-index-middle.false in
    let same = c.len-middle.ensures in
    let all = c.halves-left.ensures.all in
    let some : IsSome (eval_of h (c.args.index - c.len-middle.result)
    (length back) (leaf_hash h c.args.entry.now) c.in-Some.rest.now) =
    some_below (λ a. pair_hash h c.in-Some.sibling.now a) _ _
    (value_right h c.args.index (length items) (length left) _ _
    (leaf_hash h c.args.entry.now) c.in-Some.sibling.now c.args.path.now c.in-Some.rest.now
    c.in-Some.ensures.cases.0 more c.halves-left.ensures.count (omega arith) (omega arith))
    c.requires.gives in
    search rules

pub returns-in_err-below-2 : goal.returns-in_err-below-2
returns-in_err-below-2 g t c =
    let items = g.L.EntryList.texts c.args.items.now in
    let left = g.L.EntryList.texts c.halves-left.result.0 in
    let back = g.L.EntryList.texts c.halves-left.result.1 in
    let h = g.H.TreeHash.hash in
    let more = path_more h c.args.index (length items) _ _ c.args.path.now _
    c.in-Some.ensures.cases.0 c.requires.gives in
    let right = c.if-index-middle.false in
    let same = c.len-middle.ensures in
    let all = c.halves-left.ensures.all in
    let is : Err c.in_err-below-2.field-0.0 ≡ c.from_residual-in_err-below-2.result = search rules
    in
    subst (ComparesPath h items c.args.index (length items)
    c.args.entry.now c.args.path.now) is
    (path_right_found h _ _ _ c.args.index (length items)
    (length left) (c.args.index - c.len-middle.result)
    (length back)
    c.args.entry.now c.in-Some.sibling.now c.args.path.now c.in-Some.rest.now
    c.in_err-below-2.field-0.0
    c.halves-left.ensures
    c.in-Some.ensures.cases.0 more c.halves-left.ensures.count (omega arith) (omega arith)
    c.in_err-below-2.ensures)

pub returns : goal.returns
returns g t c =
    let items = g.L.EntryList.texts c.args.items.now in
    let left = g.L.EntryList.texts c.halves-left.result.0 in
    let back = g.L.EntryList.texts c.halves-left.result.1 in
    let h = g.H.TreeHash.hash in
    let more = path_more h c.args.index (length items) _ _ c.args.path.now _
    c.in-Some.ensures.cases.0 c.requires.gives in
    let right = c.if-index-middle.false in
    let same = c.len-middle.ensures in
    let all = c.halves-left.ensures.all in
    path_right h _ _ _ c.args.index (length items) (length left)
    (c.args.index - c.len-middle.result) (length back)
    c.args.entry.now c.list_hash-2.result c.in-Some.sibling.now c.args.path.now c.in-Some.rest.now
    c.in_ok-below-2.below _
    c.halves-left.ensures
    c.in-Some.ensures.cases.0 more c.halves-left.ensures.count (omega arith) (omega arith)
    refl c.list_hash-2.ensures c.in_ok-below-2.ensures
    c.compare_pairs-2.ensures
