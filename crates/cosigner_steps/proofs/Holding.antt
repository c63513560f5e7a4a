-- What is held, from the last step back, at an Advance and at a Sign.
use Rattle.std.proofs.Common.{◌≡◌, ◌⊎◌, ℕ, ◌+◌, ◌-◌, ◌<◌, ◌≤◌, List, [], ◌∷◌, length, get_or, take}
use Rattle.std.proofs.Common.{Some, refl, sym, ap, subst, ◌∙◌, arith, inl, inr}
use Rattle.std.specs.List.{Contains}
use Rattle.std.proofs.Math.Seq.{take-length}
use Rattle.std.proofs.lemmas.Option.{same_Some}
use Rattle.byte_formats.specs.Types.{Hash, HashFunction, Text}
use Rattle.tree_proofs.specs.Checkpoints.{empty_checkpoint}
use Rattle.tree_proofs.specs.Consistency.{Checks}
use Rattle.tree_proofs.specs.declared.checkpoint.Checkpoint.{Checkpoint}
use Rattle.tree_proofs.proofs.Fulls.{some_in}
use Rattle.tree_proofs.proofs.Splits.{tree-none}
use Rattle.lms_core.specs.declared.heights.LmsType.{LmsType}
use Rattle.cosigner_core.specs.Progress.{first_progress, is_allowed, progress_by, with_step}
use Rattle.cosigner_core.specs.declared.progress.Progress.{Progress}
use Rattle.cosigner_core.specs.declared.step.Step.{Step}
use Rattle.cosigner_core.specs.declared.step.Step.TheVariants.{Advance, Child, Sign}
use Rattle.cosigner_core.specs.declared.terms.KeyTerms.{KeyTerms}
use Rattle.cosigner_steps.specs.Steps.{AreSteps, HasPrefix, IsSign, IsWithin, held_by_first}
use Rattle.cosigner_steps.specs.Steps.{held_by, held_sizes, with_steps}
use Rattle.cosigner_steps.proofs.Steps.{IsAdvanceFrom, KeepsHeld, advance_checks, allowed_at}
use Rattle.cosigner_steps.proofs.Steps.{held_advance, held_none, held_same, none_held, rises_to}
use Rattle.cosigner_steps.proofs.Steps.{sign_checks}
use Rattle.cosigner_steps.proofs.Steps.{size_held, sizes_take, step_first}

-- ---- what is held at last

pub done_by : (h : HashFunction) (terms : KeyTerms) (p q : Progress) (steps : List Step)
    → progress_by h terms p steps ≡ Some q → with_steps p steps ≡ q
unfolding progress_by with_steps
done_by h terms p q [] e = same_Some p q e
done_by h terms p q (step ∷ steps) e =
    let one = step_first (is_allowed h terms p step) (with_step p step) q
    (λ (r : Progress). progress_by h terms r steps) e in
    done_by h terms (with_step p step) q steps one.1

-- Steps that are allowed bring a cosigner just so far.
pub held_at_last : (h : HashFunction) (terms : KeyTerms) (q : Progress) (steps : List Step)
    → progress_by h terms (first_progress h) steps ≡ Some q → held_by h steps ≡ q.held
unfolding held_by
held_at_last h terms q steps e =
    ap (λ (r : Progress). r.held) (done_by h terms (first_progress h) q steps e)

pub found_at : (steps : List Step) (k : ℕ) (s t : Step) → s ≡ get_or steps k s → s ≡ t
    → t ≡ get_or steps k t
found_at steps k s t at is = subst (λ (x : Step). x ≡ get_or steps k x) is at

-- ---- what is held, from the last step back

pub not_advance : (s : Step)
    → ((size : ℕ) (root : Hash) (proof : List Hash) → s ≡ Advance size root proof → ⊥)
    → KeepsHeld s
not_advance (Advance size root proof) none = absurd (none size root proof refl)
not_advance (Sign index start end hash proof) none = λ p. refl
not_advance (Child child low) none = λ p. refl

-- The step is a Sign or a Child, as a match leaves it.
abbrev pub IsSignOrChild : Step → Type 0
IsSignOrChild s =
    ((index : ℕ) × (start : ℕ) × (end : ℕ) × (hash : Hash) × (proof : List Hash)
    × (s ≡ Sign index start end hash proof))
    ⊎ ((child : ℕ) × (low : LmsType) × (s ≡ Child child low))

pub either_keeps : (s : Step) → IsSignOrChild s → KeepsHeld s
either_keeps s either =
    elim either [
      | inl x ↦ subst KeepsHeld (sym x.5) (λ p. refl)
      | inr x ↦ subst KeepsHeld (sym x.2) (λ p. refl)
    ]

pub back_same : (h : HashFunction) (steps : List Step) (place : ℕ) (s : Step) → KeepsHeld s
    → 0 < place → place ≤ length steps → s ≡ get_or steps (place - 1) s
    → held_by_first h steps place ≡ held_by h steps
    → held_by_first h steps (place - 1) ≡ held_by h steps
back_same h steps place s keeps some within is same =
    let below : place - 1 < length steps = omega arith in
    let here : place - 1 + 1 ≡ place = omega arith in
    sym (held_same h steps (place - 1) s keeps below is)
    ∙ (ap (λ (k : ℕ). held_by_first h steps k) here ∙ same)

pub back_advance : (h : HashFunction) (steps : List Step) (place size : ℕ) (root : Hash)
    (proof : List Hash) → 0 < place → place ≤ length steps
    → Advance size root proof ≡ get_or steps (place - 1) (Advance size root proof)
    → held_by_first h steps place ≡ held_by h steps
    → record { size = size; root = root } ≡ held_by h steps
back_advance h steps place size root proof some within is same =
    let below : place - 1 < length steps = omega arith in
    let here : place - 1 + 1 ≡ place = omega arith in
    sym (held_advance h steps (place - 1) size root proof below is)
    ∙ (ap (λ (k : ℕ). held_by_first h steps k) here ∙ same)

pub back_none : (h : HashFunction) (steps : List Step) (place : ℕ) → place ≤ 0
    → held_by_first h steps place ≡ held_by h steps → empty_checkpoint h ≡ held_by h steps
back_none h steps place none same =
    let nought : 0 ≡ place = omega arith in
    sym (held_none h) ∙ (ap (λ (k : ℕ). held_by_first h steps k) nought ∙ same)

-- ---- at a step

-- The step is no Sign, as a match leaves it.
abbrev pub NeverSigns : Step → Type 0
NeverSigns s = (index start end : ℕ) (hash : Hash) (proof : List Hash)
    → s ≡ Sign index start end hash proof → ⊥

pub never_sign : (s : Step) → NeverSigns s → IsSign s → ⊥
never_sign (Advance size root proof) none is = is
never_sign (Sign index start end hash proof) none is = none index start end hash proof refl
never_sign (Child child low) none is = is

pub empty_prefix : (h : HashFunction) (entries : List Text)
    → HasPrefix h entries (empty_checkpoint h)
empty_prefix h entries = record {
  within = omega arith;
  root = sym (tree-none h (take 0 entries) (omega arith));
}

pub sign_checked : (h : HashFunction) (steps : List Step) (k index start end : ℕ) (hash : Hash)
    (proof : List Hash) → AreSteps h steps → k < length steps
    → Sign index start end hash proof ≡ get_or steps k (Sign index start end hash proof)
    → Checks h start end (held_by_first h steps k).size hash (held_by_first h steps k).root proof
unfolding held_by
sign_checked h steps k index start end hash proof are below is =
    sign_checks h are.terms
    (with_steps (first_progress h) (take k steps)) index start end hash proof
    (allowed_at h are.terms (first_progress h) are.done steps k (Sign index start end hash proof)
    are.each below is)

pub sign_long : (h : HashFunction) (entries : List Text) (steps : List Step) (k : ℕ)
    (step : Step) → AreSteps h steps → k < length steps → step ≡ get_or steps k step
    → HasPrefix h entries (held_by_first h steps (length steps)) → IsWithin (length entries) step
unfolding held_by
sign_long h entries steps k (Advance size root proof) are below is prefix = tt
sign_long h entries steps k (Child child low) are below is prefix = tt
sign_long h entries steps k (Sign index start end hash proof) are below is prefix =
    let checks = sign_checked h steps k index start end hash proof are below is in
    let rise = rises_to h are.terms (first_progress h) are.done steps k are.each in
    let all = ap (λ (xs : List Step). (held_by h xs).size) (take-length steps) in
    let long = prefix.within in
    let within = checks.within in
    let some = some_in start end checks.valid in
    (omega arith, omega arith)

-- what an Advance shows of what was held, and that a list begins with no entries
pub advance_at : (h : HashFunction) (steps : List Step) (k size : ℕ) (root : Hash)
    (proof : List Hash) → AreSteps h steps → k < length steps
    → Advance size root proof ≡ get_or steps k (Advance size root proof)
    → IsAdvanceFrom h (held_by_first h steps k) size root proof
unfolding held_by
advance_at h steps k size root proof are below is =
    let first = first_progress h in
    advance_checks h are.terms (with_steps first (take k steps)) size root proof
    (allowed_at h are.terms first are.done steps k (Advance size root proof) are.each below is)

pub nothing_held : (h : HashFunction) (entries : List Text) (steps : List Step) (k : ℕ)
    → AreSteps h steps → (held_by_first h steps k).size ≡ 0
    → HasPrefix h entries (held_by_first h steps k)
unfolding held_by
nothing_held h entries steps k are none =
    subst (HasPrefix h entries)
    (sym (none_held h are.terms (first_progress h) are.done steps k are.each none))
    (empty_prefix h entries)

pub size_there : (h : HashFunction) (steps : List Step) (k start end : ℕ)
    → start < end → end ≤ (held_by_first h steps k).size
    → Contains (held_sizes steps) (held_by_first h steps k).size
size_there h steps k start end some within =
    elim (size_held h (take k steps)) [
      | inl none ↦
          let size : (held_by_first h steps k).size ≡ 0 = ap (λ (c : Checkpoint). c.size) none in
          absurd (omega arith)
      | inr there ↦ sizes_take steps k (held_by_first h steps k).size there
    ]
