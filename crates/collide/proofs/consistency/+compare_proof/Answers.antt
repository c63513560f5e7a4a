use Rattle.std.proofs.Common.{◌≡◌, ℕ, ◌<◌, length, Err, refl, sym, ◌∙◌, ap, arith}
use Rattle.std.proofs.Common.{subst, rules}
use Rattle.std.specs.Prelude.{IsSome, is_some}
use Rattle.std.proofs.lemmas.Bool.{false≢true}
use Rattle.tree_proofs.proofs.Opens.{open_of-short}
use Rattle.tree_proofs.specs.Open.{open_of}
use Rattle.collide.proofs.OpenSteps.{ComparesProof, after_order, part_counted, proof_found}
use Rattle.collide.proofs.OpenSteps.{proof_left, proof_right, step_following, step_left, step_some}
use Rattle.collide.specs.After.{IsFollowing}
use Rattle.collide.proofs.consistency.+compare_proof.Goals as goal

pub unreachable-requires : goal.unreachable-requires
unreachable-requires g t c =
    let items = g.L.EntryList.texts c.args.items.now in
    let part = part_counted c.args.start c.args.end _ (length items) c.len-count.ensures
    c.requires.within c.else-start-eq0.either in
    let none : length c.args.proof.now ≡ 0 = search rules in
    false≢true (sym (ap is_some (open_of-short g.H.TreeHash.hash c.args.start c.args.end
    (length items) c.args.known c.args.node.now c.args.proof.now part none))
    ∙ c.requires.gives)

pub compare_proof-requires : goal.compare_proof-requires
compare_proof-requires g t c κs within =
    let items = g.L.EntryList.texts c.args.items.now in
    let left = g.L.EntryList.texts c.halves-left.result.0 in
    let h = g.H.TreeHash.hash in
    let some : IsSome (open_of h c.args.start c.args.end (length left)
    c.args.known c.args.node.now c.in-Some.rest.now) =
    step_some _ _ (λ given gives.
    let step = step_left h _ _ _ c.args.start c.args.end (length items)
    (length left) c.args.known c.args.node.now c.in-Some.sibling.now
    c.args.proof.now c.in-Some.rest.now
    c.halves-left.ensures
    c.in-Some.ensures.cases.0 refl
    refl c.requires.order (omega (arith, c.len-middle.ensures, c.if-end-middle.true)) given gives in
    (step.below, step.gives)) c.requires.gives in
    search rules

pub returns-in_err-below : goal.returns-in_err-below
returns-in_err-below g t c =
    let items = g.L.EntryList.texts c.args.items.now in
    let left = g.L.EntryList.texts c.halves-left.result.0 in
    let h = g.H.TreeHash.hash in
    let is : Err c.in_err-below.field-0.0 ≡ c.from_residual.result = search rules in
    subst (ComparesProof h items c.args.start c.args.end
    (length items) c.args.known c.args.node.now c.args.proof.now) is
    (proof_found h _ _ _ _ _ _ _ _ _ _ _ _ _ _ _ _ _ c.in_err-below.field-0.0
    (step_left h _ _ _ c.args.start c.args.end (length items)
    (length left) c.args.known c.args.node.now c.in-Some.sibling.now
    c.args.proof.now c.in-Some.rest.now
    c.halves-left.ensures
    c.in-Some.ensures.cases.0 refl
    refl c.requires.order (omega (arith, c.len-middle.ensures, c.if-end-middle.true)))
    c.in_err-below.ensures)

pub returns-then-end-middle : goal.returns-then-end-middle
returns-then-end-middle g t c =
    let items = g.L.EntryList.texts c.args.items.now in
    let left = g.L.EntryList.texts c.halves-left.result.0 in
    let h = g.H.TreeHash.hash in
    proof_left h _ _ _ _ _ _ _ _ _ c.list_hash.result
    c.in-Some.sibling.now _ _ c.in_ok-below.below _
    (step_left h _ _ _ c.args.start c.args.end (length items)
    (length left) c.args.known c.args.node.now c.in-Some.sibling.now
    c.args.proof.now c.in-Some.rest.now
    c.halves-left.ensures
    c.in-Some.ensures.cases.0 refl
    refl c.requires.order (omega (arith, c.len-middle.ensures, c.if-end-middle.true)))
    c.list_hash.ensures c.in_ok-below.ensures c.compare_pairs.ensures

pub compare_proof-requires-2 : goal.compare_proof-requires-2
compare_proof-requires-2 g t c κs within =
    let items = g.L.EntryList.texts c.args.items.now in
    let left = g.L.EntryList.texts c.halves-left.result.0 in
    let right = g.L.EntryList.texts c.halves-left.result.1 in
    let h = g.H.TreeHash.hash in
    let part = part_counted c.args.start c.args.end _ (length items) c.len-count.ensures
    c.requires.within c.else-start-eq0.either in
    let all = c.halves-left.ensures.all in
    let some : IsSome (open_of h c.following-from.result.0 c.following-from.result.1
    (length right) c.following-from.result.2 c.args.node.now
    c.in-Some.rest.now) =
    step_some _ _ (λ given gives.
    let step = step_following h _ _ _ c.args.start c.args.end (length items)
    (length left) (length right) c.following-from.result.0
    c.following-from.result.1 c.args.known c.following-from.result.2 c.args.node.now
    c.in-Some.sibling.now c.args.proof.now c.in-Some.rest.now
    c.halves-left.ensures
    c.in-Some.ensures.cases.0 refl
    refl refl
    c.requires.within (omega (arith, c.len-middle.ensures, c.if-end-middle.false)) part
    (subst (λ (m : ℕ). IsFollowing m c.args.start c.args.end c.args.known c.following-from.result.0
    c.following-from.result.1 c.following-from.result.2) c.len-middle.ensures
    c.following-from.ensures)
    given gives in
    (step.below, step.gives)) c.requires.gives in
    let last = c.following-from.ensures.last in
    let order : c.following-from.result.0 < c.following-from.result.1 =
    after_order c.following-from.ensures c.requires.order
    (omega (arith, c.len-middle.ensures, c.if-end-middle.false)) in
    search rules

pub returns-in_err-below-2 : goal.returns-in_err-below-2
returns-in_err-below-2 g t c =
    let items = g.L.EntryList.texts c.args.items.now in
    let left = g.L.EntryList.texts c.halves-left.result.0 in
    let right = g.L.EntryList.texts c.halves-left.result.1 in
    let h = g.H.TreeHash.hash in
    let part = part_counted c.args.start c.args.end _ (length items) c.len-count.ensures
    c.requires.within c.else-start-eq0.either in
    let is : Err c.in_err-below-2.field-0.0 ≡ c.from_residual-in_err-below-2.result = search rules
    in
    subst (ComparesProof h items c.args.start c.args.end
    (length items) c.args.known c.args.node.now c.args.proof.now) is
    (proof_found h _ _ _ _ _ _ _ _ _ _ _ _ _ _ _ _ _ c.in_err-below-2.field-0.0
    (step_following h _ _ _ c.args.start c.args.end (length items)
    (length left) (length right) c.following-from.result.0
    c.following-from.result.1 c.args.known c.following-from.result.2 c.args.node.now
    c.in-Some.sibling.now c.args.proof.now c.in-Some.rest.now
    c.halves-left.ensures
    c.in-Some.ensures.cases.0 refl
    refl refl
    c.requires.within (omega (arith, c.len-middle.ensures, c.if-end-middle.false)) part
    (subst (λ (m : ℕ). IsFollowing m c.args.start c.args.end c.args.known c.following-from.result.0
    c.following-from.result.1 c.following-from.result.2) c.len-middle.ensures
    c.following-from.ensures))
    c.in_err-below-2.ensures)

pub returns : goal.returns
returns g t c =
    let items = g.L.EntryList.texts c.args.items.now in
    let left = g.L.EntryList.texts c.halves-left.result.0 in
    let right = g.L.EntryList.texts c.halves-left.result.1 in
    let h = g.H.TreeHash.hash in
    let part = part_counted c.args.start c.args.end _ (length items) c.len-count.ensures
    c.requires.within c.else-start-eq0.either in
    proof_right h _ _ _ _ _ _ _ _ _ _ _ _ c.list_hash-2.result
    c.in-Some.sibling.now _ _ c.in_ok-below-2.below _
    (step_following h _ _ _ c.args.start c.args.end (length items)
    (length left) (length right) c.following-from.result.0
    c.following-from.result.1 c.args.known c.following-from.result.2 c.args.node.now
    c.in-Some.sibling.now c.args.proof.now c.in-Some.rest.now
    c.halves-left.ensures
    c.in-Some.ensures.cases.0 refl
    refl refl
    c.requires.within (omega (arith, c.len-middle.ensures, c.if-end-middle.false)) part
    (subst (λ (m : ℕ). IsFollowing m c.args.start c.args.end c.args.known c.following-from.result.0
    c.following-from.result.1 c.following-from.result.2) c.len-middle.ensures
    c.following-from.ensures))
    c.list_hash-2.ensures c.in_ok-below-2.ensures c.compare_pairs-2.ensures
