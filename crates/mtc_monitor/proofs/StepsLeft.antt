-- How far steps bring a cosigner, step by step.
use Rattle.std.proofs.Common.{◌≡◌, ℕ, ◌+◌, ◌<◌, ◌≤◌, List, length, drop}
use Rattle.std.proofs.Common.{get_or, Option, sym, ap, ◌∙◌, arith}
use Rattle.std.proofs.lemmas.List.{drop_all, drop_more}
use Rattle.lms_core.specs.declared.heights.LmsType.{LmsType}
use Rattle.cosigner_core.specs.Progress.{with_step}
use Rattle.cosigner_core.specs.declared.progress.Progress.{Progress}
use Rattle.cosigner_core.specs.declared.step.Step.{Step}
use Rattle.cosigner_core.specs.declared.step.Step.TheVariants.{Advance, Child, Sign}
use Rattle.cosigner_steps.specs.Steps.{with_steps}
use Rattle.tree_proofs.specs.declared.checkpoint.Checkpoint.{Checkpoint}

-- A cosigner that holds this, has made so many signatures, and has so many lower trees.
abbrev come_to : Checkpoint → ℕ → ℕ → Option LmsType → Progress
come_to held signs children low =
    record { held = held; next = signs; children = children; low = low }

-- The steps from this one on bring a cosigner that has come so far to where all steps bring it, and
-- each signature and each lower tree is one of the steps before.
pub record Reaches (first : Progress) (steps : List Step) (index : ℕ) (held : Checkpoint)
    (signs children : ℕ) (low : Option LmsType) : Type 0 where
  pub whole : with_steps (come_to held signs children low) (drop index steps)
      ≡ with_steps first steps
  pub few : signs ≤ index
  pub trees : children ≤ index

record CountsOne (p : Progress) (step : Step) : Type 0 where
  few : (with_step p step).next ≤ p.next + 1
  trees : (with_step p step).children ≤ p.children + 1

counts_one : (p : Progress) (step : Step) → CountsOne p step
counts_one p (Advance size root proof) = record { few = omega arith; trees = omega arith }
counts_one p (Sign index start end hash proof) = record { few = omega arith; trees = omega arith }
counts_one p (Child child low) = record { few = omega arith; trees = omega arith }

come_same : (held held' : Checkpoint) (signs signs' children children' : ℕ)
    (low low' : Option LmsType) → held ≡ held' → signs ≡ signs' → children ≡ children'
    → low ≡ low' → come_to held signs children low ≡ come_to held' signs' children' low'
come_same held held' signs signs' children children' low low' a b c d =
    ap (λ (x : Checkpoint). come_to x signs children low) a
    ∙ ap (λ (x : ℕ). come_to held' x children low) b
    ∙ ap (λ (x : ℕ). come_to held' signs' x low) c
    ∙ ap (come_to held' signs' children') d

-- one step more
pub reaches_more : (first : Progress) (steps : List Step) (index : ℕ) (held later : Checkpoint)
    (signs more children trees : ℕ) (low known : Option LmsType) (step said : Step)
    → Reaches first steps index held signs children low
    → index < length steps → step ≡ get_or steps index step → step ≡ said
    → later ≡ (with_step (come_to held signs children low) said).held
    → more ≡ (with_step (come_to held signs children low) said).next
    → trees ≡ (with_step (come_to held signs children low) said).children
    → known ≡ (with_step (come_to held signs children low) said).low
    → Reaches first steps (index + 1) later more trees known
unfolding with_steps
reaches_more first steps index held later signs more children trees low known step said so_far
    within is kind holds next counts knows =
    let p : Progress = come_to held signs children low in
    let q : Progress = with_step p said in
    let rest : List Step = drop (index + 1) steps in
    let one = counts_one p said in
    let few = so_far.few in
    let below = so_far.trees in
    let a = one.few in
    let b = one.trees in
    record {
      whole = ap (λ (x : Progress). with_steps x rest)
          (come_same later q.held more q.next trees q.children known q.low holds next counts knows
          ∙ ap (with_step p) (sym kind ∙ is))
          ∙ ap (with_steps p) (sym (drop_more steps index step within))
          ∙ so_far.whole;
      few = omega (arith, few, a, next);
      trees = omega (arith, below, b, counts);
    }

-- all steps
pub reaches_all : (first : Progress) (steps : List Step) (index : ℕ) (held : Checkpoint)
    (signs children : ℕ) (low : Option LmsType)
    → Reaches first steps index held signs children low → length steps ≤ index
    → come_to held signs children low ≡ with_steps first steps
unfolding with_steps
reaches_all first steps index held signs children low so_far all =
    ap (with_steps (come_to held signs children low)) (sym (drop_all index steps all))
    ∙ so_far.whole
