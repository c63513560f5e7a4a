use Rattle.std.proofs.Common.{◌≡◌, ℕ, ◌<◌, ◌&&◌, cond, eqb, length, Some, sym, ◌∙◌, ap, subst}
use Rattle.std.proofs.Common.{arith}
use Rattle.cosigner_core.specs.declared.step.Step.{Step}
use Rattle.cosigner_steps.proofs.Holding.{found_at}
use Rattle.quarrel_core.proofs.Seeking.{IsSought, sought_found, sought_last, sought_other}
use Rattle.quarrel_core.proofs.Seeking.{sought_sign}
use Rattle.quarrel_core.specs.Conflicts.{conflicts}
use Rattle.quarrel_core.specs.Firsts.{first_sign_in}
use Rattle.quarrel_core.proofs.conflicting.conflict.Goals as goal

pub loop-place-preserved-in_default : goal.loop-place-preserved-in_default
loop-place-preserved-in_default c =
    let below : c.loop-place.place < length c.args.steps.now = omega arith in
    sought_other c.args.steps.now c.loop-place.place (first_sign_in c.loop-place.firsts)
    c.index-steps-place.result c.in_default.not-Sign below (sym c.index-steps-place.is)
    c.loop-place.invariant

pub returns-then-are_in_conflict : goal.returns-then-are_in_conflict
returns-then-are_in_conflict c =
    let below : c.loop-place.place < length c.args.steps.now = omega arith in
    sym (sought_found c.args.steps.now c.loop-place.place (first_sign_in c.loop-place.firsts)
    c.in-Sign.index c.in-Sign.start c.in-Sign.end c.in-Sign.hash c.in-Sign.proof
    c.in_ok-first.first c.index-steps-first.result below
    (sym (found_at c.args.steps.now c.loop-place.place _ _ c.index-steps-place.is c.in-Sign.is))
    c.loop-place.invariant c.in_ok-first.ensures.first (sym c.index-steps-first.is)
    (ap (λ (x : Step). conflicts x c.index-steps-first.result) (sym c.in-Sign.is)
    ∙ sym c.if-are_in_conflict.ensures))

pub loop-place-preserved : goal.loop-place-preserved
loop-place-preserved c =
    let below : c.loop-place.place < length c.args.steps.now = omega arith in
    sought_sign c.args.steps.now c.loop-place.place (first_sign_in c.loop-place.firsts)
    (first_sign_in c.first_sign.new.firsts)
    c.in-Sign.index c.in-Sign.start c.in-Sign.end c.in-Sign.hash c.in-Sign.proof
    c.in_ok-first.first c.index-steps-first.result below
    (sym (found_at c.args.steps.now c.loop-place.place _ _ c.index-steps-place.is c.in-Sign.is))
    c.loop-place.invariant c.in_ok-first.ensures.first (sym c.index-steps-first.is)
    (ap (λ (x : Step). conflicts x c.index-steps-first.result) (sym c.in-Sign.is)
    ∙ sym c.if-are_in_conflict.ensures)
    (λ q. c.in_ok-first.ensures.noted q
    ∙ ap (λ (n : ℕ). cond (eqb c.in-Sign.start q.0 && eqb c.in-Sign.end q.1) (Some n)
    (first_sign_in c.loop-place.firsts q)) (sym c.in_ok-first.ensures.first))

pub returns : goal.returns
returns c =
    let same : c.loop-place.place ≡ length c.args.steps.now = omega arith in
    sym (sought_last c.args.steps.now (first_sign_in c.loop-place.firsts)
    (subst (λ (k : ℕ). IsSought c.args.steps.now k (first_sign_in c.loop-place.firsts)) same
    c.loop-place.invariant))
