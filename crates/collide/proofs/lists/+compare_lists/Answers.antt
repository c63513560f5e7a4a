use Rattle.std.proofs.Common.{◌≡◌, ◌≢◌, [], ◌∷◌, Err, sym, ◌∙◌, ap, arith, subst, rules}
use Rattle.collide.proofs.Compared.{apart_both, apart_left, apart_right, lists_both, lists_left}
use Rattle.collide.proofs.Compared.{lists_one, lists_right}
use Rattle.tree_proofs.proofs.Splits.{only_one}
use Rattle.collide.specs.Comparison.{Compares, WhereFound}
use Rattle.collide.proofs.lists.+compare_lists.Goals as goal

pub returns-then-len-eq1-clause-compares : goal.returns-then-len-eq1-clause-compares
returns-then-len-eq1-clause-compares g t c =
    let first = g.L.EntryList.texts c.args.first.now in
    let second = g.L.EntryList.texts c.args.second.now in
    lists_one g.H.TreeHash.hash first second _ _ _
    (only_one first
    (omega (arith, c.len.ensures, c.if-len-eq1.true))
    ∙ ap (λ x. x ∷ []) (sym c.entry.ensures))
    (only_one second
    (omega (arith, c.requires.length, c.len.ensures, c.if-len-eq1.true))
    ∙ ap (λ x. x ∷ []) (sym c.entry-then-len-eq1.ensures))
    c.compare_leaves.ensures

pub returns-in_err-left-clause-compares : goal.returns-in_err-left-clause-compares
returns-in_err-left-clause-compares g t c =
    let first = g.L.EntryList.texts c.args.first.now in
    let second = g.L.EntryList.texts c.args.second.now in
    let h = g.H.TreeHash.hash in
    let is : Err c.in_err-left.field-0.0 ≡ c.from_residual.result = search rules in
    subst (Compares h (first ≡ second) _ _ _ _) is
    (lists_left h _ _ _ _ _ _ c.in_err-left.field-0.0
    c.halves-first_left.ensures
    c.halves-second_left.ensures
    c.in_err-left.ensures.compares)

pub returns-in_err-left-clause-apart : goal.returns-in_err-left-clause-apart
returns-in_err-left-clause-apart g t c =
    let first = g.L.EntryList.texts c.args.first.now in
    let second = g.L.EntryList.texts c.args.second.now in
    let is : Err c.in_err-left.field-0.0 ≡ c.from_residual.result = search rules in
    subst (WhereFound (first ≢ second)) is
    (apart_left _ _ _ _ _ _ c.in_err-left.field-0.0
    c.halves-first_left.ensures
    c.halves-second_left.ensures
    c.in_err-left.ensures.apart)

pub returns-in_err-right-clause-compares : goal.returns-in_err-right-clause-compares
returns-in_err-right-clause-compares g t c =
    let first = g.L.EntryList.texts c.args.first.now in
    let second = g.L.EntryList.texts c.args.second.now in
    let h = g.H.TreeHash.hash in
    let is : Err c.in_err-right.field-0.0 ≡ c.from_residual-in_err-right.result = search rules in
    subst (Compares h (first ≡ second) _ _ _ _) is
    (lists_right h _ _ _ _ _ _ c.in_err-right.field-0.0
    c.halves-first_left.ensures
    c.halves-second_left.ensures
    c.in_err-right.ensures.compares)

pub returns-in_err-right-clause-apart : goal.returns-in_err-right-clause-apart
returns-in_err-right-clause-apart g t c =
    let first = g.L.EntryList.texts c.args.first.now in
    let second = g.L.EntryList.texts c.args.second.now in
    let is : Err c.in_err-right.field-0.0 ≡ c.from_residual-in_err-right.result = search rules in
    subst (WhereFound (first ≢ second)) is
    (apart_right _ _ _ _ _ _ c.in_err-right.field-0.0
    c.halves-first_left.ensures
    c.halves-second_left.ensures
    c.in_err-right.ensures.apart)

pub returns-clause-compares : goal.returns-clause-compares
returns-clause-compares g t c =
    lists_both g.H.TreeHash.hash _ _ _ _ _ _ c.in_ok-left.left c.in_ok-right.right _
    c.halves-first_left.ensures
    c.halves-second_left.ensures
    c.requires.length
    c.in_ok-left.ensures.compares c.in_ok-right.ensures.compares c.compare_pairs.ensures

pub returns-clause-apart : goal.returns-clause-apart
returns-clause-apart g t c =
    apart_both g.H.TreeHash.hash _ _ _ _ _ _ _ c.in_ok-left.left c.in_ok-right.right _ _ _
    c.halves-first_left.ensures
    c.halves-second_left.ensures
    c.in_ok-left.ensures.compares c.in_ok-right.ensures.compares c.compare_pairs.ensures
