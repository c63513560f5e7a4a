use Rattle.std.proofs.Common.{◌≡◌, ◌+◌, ◌%◌, ◌<◌, ◌≤◌, ⊎_elim, inl, inr, refl, sym, ◌∙◌, ap, arith}
use Rattle.std.specs.Option.{ok_or}
use Rattle.tree_core.proofs.Evaluates.{EvaluatesFrom-promoted, EvaluatesFrom-step, eval_of-leaf}
use Rattle.tree_core.proofs.Evaluates.{eval_of-long, eval_of-short, evaluation-no_subtree}
use Rattle.tree_core.proofs.Evaluates.{evaluation-outside, evaluation-value}
use Rattle.tree_core.proofs.Paths.{eval_of-height}
use Rattle.tree_core.specs.declared.error.EvalError.TheVariants.{WrongLength}
use Rattle.tree_core.proofs.inclusion.evaluate.Goals as goal
use Rattle.tree_core.proofs.inclusion.evaluate.Goals.{then-place-eq1+else-used-path}
use Rattle.tree_core.proofs.inclusion.evaluate.Goals.{else-place-eq1+else-place-last}

pub returns-then-not-subtree_ok-clause-exact : goal.returns-then-not-subtree_ok-clause-exact
returns-then-not-subtree_ok-clause-exact g c =
    sym (evaluation-no_subtree _ _ _ _ _ _ (sym c.if-not-subtree_ok.ensures))

pub returns-then-index-start-clause-exact : goal.returns-then-index-start-clause-exact
returns-then-index-start-clause-exact g c =
    sym (evaluation-outside _ _ _ _ _ _ (sym c.if-not-subtree_ok.ensures)
    (⊎_elim
    (λ (below : c.args.index < c.args.start). inl below)
    (λ (above : (c.args.start ≤ c.args.index) × (c.args.end ≤ c.args.index)). inr above.1)
    c.then-index-start.either))

pub returns-then-used-path-clause-exact : goal.returns-then-used-path-clause-exact
returns-then-used-path-clause-exact g c =
    let within = c.levels.invariant.within in
    let short = eval_of-short g.H.TreeHash.hash c.levels.place (c.levels.last + 1) c.levels.node
    c.args.path.now c.levels.used (omega arith) (omega arith) in
    sym (evaluation-value _ _ _ _ _ _ (sym c.if-not-subtree_ok.ensures) c.if-index-start.false
    c.if-end-index.false
    ∙ ap (λ value. ok_or value WrongLength) (sym c.levels.invariant.same ∙ short))

pub levels-preserved : goal.levels-preserved
levels-preserved g c =
    elim c.if-place-eq1.branch [
      | then-place-eq1+else-used-path w ↦
          let within = c.levels.invariant.within in
          let inside = c.levels.invariant.inside in
          let sibling : c.levels.place < c.levels.last + c.levels.place % 2 =
          ⊎_elim
          (λ (odd : c.levels.place % 2 ≡ 1). omega arith)
          (λ (more : (c.levels.place % 2 ≡ 1 → ⊥) × (c.levels.place < c.levels.last)). let below =
          more.1 in
          omega arith)
          w.then-place-eq1.either in
          EvaluatesFrom-step _ _ _ _ _ _ _ _ _ _ _ _ c.levels.invariant
          (let u = w.if-used-path.false in omega arith) refl sibling
          (w.node-is ∙ w.parent-node.ensures) w.used-is
      | else-place-eq1+else-place-last w ↦
          EvaluatesFrom-promoted _ _ _ _ _ _ _ _ _ _ _ c.levels.invariant c.levels-test.true
          (let u = w.if-place-eq1.false in omega arith)
          w.if-place-last.false w.node-is w.used-is
    ]

pub returns-then-used-path-2-clause-exact : goal.returns-then-used-path-2-clause-exact
returns-then-used-path-2-clause-exact g c =
    let long = eval_of-long g.H.TreeHash.hash c.levels.place (c.levels.last + 1) c.levels.node
    c.args.path.now
    c.levels.used c.if-used-path-2.true (omega arith) in
    sym (evaluation-value _ _ _ _ _ _ (sym c.if-not-subtree_ok.ensures) c.if-index-start.false
    c.if-end-index.false
    ∙ ap (λ value. ok_or value WrongLength) (sym c.levels.invariant.same ∙ long))

pub returns-clause-exact : goal.returns-clause-exact
returns-clause-exact g c =
    let inside = c.levels.invariant.inside in
    let leaf = eval_of-leaf g.H.TreeHash.hash c.levels.place (c.levels.last + 1) c.levels.node
    c.args.path.now
    c.levels.used (omega arith) (omega arith) (omega arith) in
    sym (evaluation-value _ _ _ _ _ _ (sym c.if-not-subtree_ok.ensures) c.if-index-start.false
    c.if-end-index.false
    ∙ ap (λ value. ok_or value WrongLength) (sym c.levels.invariant.same ∙ leaf))

pub returns-clause-short : goal.returns-clause-short
returns-clause-short g c =
    let inside = c.levels.invariant.inside in
    let leaf = eval_of-leaf g.H.TreeHash.hash c.levels.place (c.levels.last + 1) c.levels.node
    c.args.path.now
    c.levels.used (omega arith) (omega arith) (omega arith) in
    eval_of-height _ _ _ 64 _ _ _ (omega arith) (sym c.levels.invariant.same ∙ leaf)
