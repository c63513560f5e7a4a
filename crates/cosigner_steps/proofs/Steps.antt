-- Steps of a cosigner: what is held after each, and what their proofs show.
use Rattle.std.proofs.Common.{◌≡◌, ◌⊎◌, ℕ, zero, suc, ◌+◌, ◌<◌, ◌≤◌, Bool, true, false, List, []}
use Rattle.std.proofs.Common.{◌∷◌, ◌++◌, length, get_or, take, Some, None, refl, sym, ap}
use Rattle.std.proofs.Common.{subst, ◌∙◌}
use Rattle.std.proofs.Common.{arith, ltb-true, inl, inr}
use Rattle.std.specs.Prelude.{Option, option_and_then, if◌then◌else◌, nat_lt, ◌==◌}
use Rattle.std.specs.List.{Contains, flat_map}
use Rattle.std.proofs.Math.Seq.{take-suc}
use Rattle.std.proofs.lemmas.Bool.{and_parts}
use Rattle.std.proofs.lemmas.List.Elements.{Contains-append_left, Contains-append_right}
use Rattle.byte_formats.specs.Types.{Hash, HashFunction, Text}
use Rattle.tree_proofs.specs.Consistency.{Checks}
use Rattle.tree_proofs.proofs.Checkpoints.{CheckpointsAreShown_always}
use Rattle.tree_proofs.specs.Checkpoints.{empty_checkpoint}
use Rattle.tree_proofs.specs.declared.checkpoint.Checkpoint.{Checkpoint}
use Rattle.cosigner_core.specs.Progress.{first_progress, is_allowed, progress_by}
use Rattle.cosigner_core.specs.Progress.{keys_by, with_step}
use Rattle.cosigner_core.specs.declared.progress.Progress.{Progress}
use Rattle.cosigner_core.specs.declared.step.Step.{Step}
use Rattle.cosigner_core.specs.declared.step.Step.TheVariants.{Advance, Child, Sign}
use Rattle.cosigner_core.specs.declared.terms.KeyTerms.{KeyTerms}
use Rattle.collide.specs.Inputs.{inputs_of}
use Rattle.cosigner_steps.specs.Steps.{held_by_first, held_by, inputs_from, held_sizes}
use Rattle.cosigner_steps.specs.Steps.{step_inputs, with_steps}

-- ---- what is held

pub with_steps_push : (p : Progress) (xs : List Step) (s : Step)
    → with_steps p (xs ++ s ∷ []) ≡ with_step (with_steps p xs) s
unfolding with_steps
with_steps_push p [] s = refl
with_steps_push p (x ∷ xs) s = with_steps_push (with_step p x) xs s

pub held_none : (h : HashFunction) → held_by h [] ≡ empty_checkpoint h
unfolding held_by with_steps
held_none h = refl

pub held_push : (h : HashFunction) (xs : List Step) (s : Step)
    → held_by h (xs ++ s ∷ []) ≡ (with_step (with_steps (first_progress h) xs) s).held
unfolding held_by
held_push h xs s = ap (λ (p : Progress). p.held) (with_steps_push (first_progress h) xs s)

taken : (steps : List Step) (k : ℕ) (s : Step) → k < length steps → s ≡ get_or steps k s
    → take (k + 1) steps ≡ take k steps ++ s ∷ []
taken steps k s below is =
    let next : k + 1 ≡ suc k = omega arith in
    ap (λ (n : ℕ). take n steps) next
    ∙ (take-suc steps k s below ∙ ap (λ (x : Step). take k steps ++ x ∷ []) (sym is))

-- after an Advance its own checkpoint is held, and after any other step what was held before
pub held_advance : (h : HashFunction) (steps : List Step) (k size : ℕ) (root : Hash)
    (proof : List Hash) → k < length steps
    → Advance size root proof ≡ get_or steps k (Advance size root proof)
    → held_by_first h steps (k + 1) ≡ record { size = size; root = root }
held_advance h steps k size root proof below is =
    ap (held_by h) (taken steps k (Advance size root proof) below is)
    ∙ held_push h (take k steps) (Advance size root proof)

abbrev pub KeepsHeld : Step → Type 0
KeepsHeld s = (p : Progress) → (with_step p s).held ≡ p.held

pub held_same : (h : HashFunction) (steps : List Step) (k : ℕ) (s : Step) → KeepsHeld s
    → k < length steps → s ≡ get_or steps k s
    → held_by_first h steps (k + 1) ≡ held_by_first h steps k
unfolding held_by
held_same h steps k s keeps below is =
    ap (held_by h) (taken steps k s below is) ∙ (held_push h (take k steps) s
    ∙ keeps (with_steps (first_progress h) (take k steps)))

pub held_sign : (h : HashFunction) (steps : List Step) (k index start end : ℕ) (hash : Hash)
    (proof : List Hash) → k < length steps
    → Sign index start end hash proof ≡ get_or steps k (Sign index start end hash proof)
    → held_by_first h steps (k + 1) ≡ held_by_first h steps k
held_sign h steps k index start end hash proof below is =
    held_same h steps k (Sign index start end hash proof) (λ p. refl) below is

-- ---- what is allowed

pub step_first : (b : Bool) (q r : Progress) (next : Progress → Option Progress)
    → option_and_then next (if b then Some q else None) ≡ Some r → (b ≡ true) × (next q ≡ Some r)
step_first true q r next e = (refl, e)
step_first false q r next e = absurd cc

pub allowed_at : (h : HashFunction) (terms : KeyTerms) (p q : Progress) (steps : List Step) (k : ℕ)
    (s : Step) → progress_by h terms p steps ≡ Some q → k < length steps → s ≡ get_or steps k s
    → is_allowed h terms (with_steps p (take k steps)) s ≡ true
unfolding progress_by with_steps
allowed_at h terms p q [] k s e below is = absurd (omega arith)
allowed_at h terms p q (step ∷ steps) zero s e below is =
    let one = step_first (is_allowed h terms p step) (with_step p step) q
    (λ (r : Progress). progress_by h terms r steps) e in
    subst (λ (x : Step). is_allowed h terms p x ≡ true) (sym is) one.0
allowed_at h terms p q (step ∷ steps) (suc k) s e below is =
    let one = step_first (is_allowed h terms p step) (with_step p step) q
    (λ (r : Progress). progress_by h terms r steps) e in
    allowed_at h terms (with_step p step) q steps k s one.1 (omega arith) is

-- ---- what is hashed

pub inputs_at : (h : HashFunction) (p : Progress) (steps : List Step) (k : ℕ) (s : Step) (y : Text)
    → k < length steps → s ≡ get_or steps k s
    → Contains (step_inputs h (with_steps p (take k steps)).held s) y
    → Contains (inputs_from h p steps) y
unfolding inputs_from with_steps
inputs_at h p [] k s y below is one = absurd (omega arith)
inputs_at h p (step ∷ steps) zero s y below is one =
    Contains-append_left (step_inputs h p.held step) (inputs_from h (with_step p step) steps) y
    (subst (λ (x : Step). Contains (step_inputs h p.held x) y) is one)
inputs_at h p (step ∷ steps) (suc k) s y below is one =
    Contains-append_right (step_inputs h p.held step) (inputs_from h (with_step p step) steps) y
    (inputs_at h (with_step p step) steps k s y (omega arith) is one)

first_in : {X : Type 0} (x : X) (xs : List X) → Contains (x ∷ xs) x
first_in x xs = (0, omega arith, refl)

later_in : {X : Type 0} (x y : X) (xs : List X) → Contains xs y → Contains (x ∷ xs) y
later_in x y xs c = (suc c.0, omega arith, c.2)

first_or : {X : Type 0} (a : X) (xs ys : List X) (m : X) → (Contains xs m → Contains ys m)
    → (k : ℕ) → k < length (a ∷ xs) → get_or (a ∷ xs) k m ≡ m → Contains (a ∷ ys) m
first_or a xs ys m more zero below is = (0, omega arith, is)
first_or a xs ys m more (suc k) below is = later_in a m ys (more (k, omega arith, is))

pub size_at : (steps : List Step) (k size : ℕ) (root : Hash) (proof : List Hash)
    → k < length steps → Advance size root proof ≡ get_or steps k (Advance size root proof)
    → Contains (held_sizes steps) size
unfolding held_sizes
size_at [] k size root proof below is = absurd (omega arith)
size_at (Advance a b c ∷ steps) zero size root proof below is =
    let same : size ≡ a = cc in
    subst (Contains (a ∷ held_sizes steps)) (sym same) (first_in a (held_sizes steps))
size_at (Sign a b c d e ∷ steps) zero size root proof below is = absurd cc
size_at (Child a b ∷ steps) zero size root proof below is = absurd cc
size_at (Advance a b c ∷ steps) (suc k) size root proof below is =
    later_in a size (held_sizes steps) (size_at steps k size root proof (omega arith) is)
size_at (Sign a b c d e ∷ steps) (suc k) size root proof below is =
    size_at steps k size root proof (omega arith) is
size_at (Child a b ∷ steps) (suc k) size root proof below is =
    size_at steps k size root proof (omega arith) is

size_from : (p : Progress) (steps : List Step)
    → ((with_steps p steps).held ≡ p.held)
    ⊎ Contains (held_sizes steps) (with_steps p steps).held.size
unfolding held_sizes with_steps
size_from p [] = inl refl
size_from p (Advance a b c ∷ steps) =
    let q : Progress = with_step p (Advance a b c) in
    elim (size_from q steps) [
      | inl e ↦ inr (subst (Contains (a ∷ held_sizes steps))
          (sym (ap (λ (c : Checkpoint). c.size) e))
          (first_in a (held_sizes steps)))
      | inr c ↦ inr (later_in a (with_steps q steps).held.size (held_sizes steps) c)
    ]
size_from p (Sign a b c d e ∷ steps) = size_from (with_step p (Sign a b c d e)) steps
size_from p (Child a b ∷ steps) = size_from (with_step p (Child a b)) steps

-- What is held is nothing, or a checkpoint of some Advance.
pub size_held : (h : HashFunction) (steps : List Step)
    → (held_by h steps ≡ empty_checkpoint h) ⊎ Contains (held_sizes steps) (held_by h steps).size
unfolding held_by
size_held h steps = size_from (first_progress h) steps

pub prefix_at : (h : HashFunction) (entries : List Text) (sizes : List ℕ) (m : ℕ) (x : Text)
    (k : ℕ) → k < length sizes → get_or sizes k m ≡ m
    → Contains (inputs_of h (take m entries)) x
    → Contains (flat_map (λ (n : ℕ). inputs_of h (take n entries)) sizes) x
prefix_at h entries [] m x k below is one = absurd (omega arith)
prefix_at h entries (n ∷ ns) m x zero below is one =
    Contains-append_left (inputs_of h (take n entries))
    (flat_map (λ (j : ℕ). inputs_of h (take j entries)) ns) x
    (subst (λ (j : ℕ). Contains (inputs_of h (take j entries)) x) (sym is) one)
prefix_at h entries (n ∷ ns) m x (suc k) below is one =
    Contains-append_right (inputs_of h (take n entries))
    (flat_map (λ (j : ℕ). inputs_of h (take j entries)) ns) x
    (prefix_at h entries ns m x k (omega arith) is one)

-- ---- what is allowed shows

pub sign_checks : (h : HashFunction) (terms : KeyTerms) (p : Progress) (index start end : ℕ)
    (hash : Hash)
    (proof : List Hash) → is_allowed h terms p (Sign index start end hash proof) ≡ true
    → Checks h start end p.held.size hash p.held.root proof
sign_checks h terms p index start end hash proof e =
    let one = and_parts (index == p.next) _ e in
    let two = and_parts (nat_lt index (keys_by terms p)) _ one.1 in
    ((CheckpointsAreShown_always h).subtree p.held start end hash proof).0 two.1

pub record IsAdvanceFrom (h : HashFunction) (held : Checkpoint) (size : ℕ) (root : Hash)
    (proof : List Hash) : Type 0 where
  pub more : held.size < size
  pub shown : (held.size ≡ 0) ⊎ Checks h 0 held.size size held.root root proof

pub advance_checks : (h : HashFunction) (terms : KeyTerms) (p : Progress) (size : ℕ) (root : Hash)
    (proof : List Hash) → is_allowed h terms p (Advance size root proof) ≡ true
    → IsAdvanceFrom h p.held size root proof
advance_checks h terms p size root proof e =
    let one = and_parts (nat_lt p.held.size size) _ e in
    record {
      more = ltb-true p.held.size size one.0;
      shown = elim (((CheckpointsAreShown_always h).prefix p.held size root proof).0 one.1) [
        | inl none ↦ inl none.0
        | inr some ↦ inr some.1
      ];
    }

-- ---- sizes rise

pub rises : (h : HashFunction) (terms : KeyTerms) (p q : Progress) (steps : List Step)
    → progress_by h terms p steps ≡ Some q → p.held.size ≤ (with_steps p steps).held.size
unfolding progress_by with_steps
rises h terms p q [] e = omega arith
rises h terms p q (Advance size root proof ∷ steps) e =
    let s = Advance size root proof in
    let one = step_first (is_allowed h terms p s) (with_step p s) q
    (λ (r : Progress). progress_by h terms r steps) e in
    let more = (advance_checks h terms p size root proof one.0).more in
    let rest = rises h terms (with_step p s) q steps one.1 in
    omega arith
rises h terms p q (Sign index start end hash proof ∷ steps) e =
    let s = Sign index start end hash proof in
    let one = step_first (is_allowed h terms p s) (with_step p s) q
    (λ (r : Progress). progress_by h terms r steps) e in
    rises h terms (with_step p s) q steps one.1
rises h terms p q (Child child low ∷ steps) e =
    let s = Child child low in
    let one = step_first (is_allowed h terms p s) (with_step p s) q
    (λ (r : Progress). progress_by h terms r steps) e in
    rises h terms (with_step p s) q steps one.1

pub rises_to : (h : HashFunction) (terms : KeyTerms) (p q : Progress) (steps : List Step) (k : ℕ)
    → progress_by h terms p steps ≡ Some q
    → (with_steps p (take k steps)).held.size ≤ (with_steps p steps).held.size
unfolding progress_by with_steps
rises_to h terms p q steps zero e = rises h terms p q steps e
rises_to h terms p q [] (suc k) e = omega arith
rises_to h terms p q (s ∷ steps) (suc k) e =
    let one = step_first (is_allowed h terms p s) (with_step p s) q
    (λ (r : Progress). progress_by h terms r steps) e in
    rises_to h terms (with_step p s) q steps k one.1

-- where no entries are held, no Advance was taken
pub none_held : (h : HashFunction) (terms : KeyTerms) (p q : Progress) (steps : List Step) (k : ℕ)
    → progress_by h terms p steps ≡ Some q → (with_steps p (take k steps)).held.size ≡ 0
    → (with_steps p (take k steps)).held ≡ p.held
unfolding progress_by with_steps
none_held h terms p q steps zero e none = refl
none_held h terms p q [] (suc k) e none = refl
none_held h terms p q (Advance size root proof ∷ steps) (suc k) e none =
    let s = Advance size root proof in
    let one = step_first (is_allowed h terms p s) (with_step p s) q
    (λ (r : Progress). progress_by h terms r steps) e in
    let more = (advance_checks h terms p size root proof one.0).more in
    let same = none_held h terms (with_step p s) q steps k one.1 none in
    let empty : size ≡ 0 = sym (ap (λ (c : Checkpoint). c.size) same) ∙ none in
    absurd (omega arith)
none_held h terms p q (Sign index start end hash proof ∷ steps) (suc k) e none =
    let s = Sign index start end hash proof in
    let one = step_first (is_allowed h terms p s) (with_step p s) q
    (λ (r : Progress). progress_by h terms r steps) e in
    none_held h terms (with_step p s) q steps k one.1 none
none_held h terms p q (Child child low ∷ steps) (suc k) e none =
    let s = Child child low in
    let one = step_first (is_allowed h terms p s) (with_step p s) q
    (λ (r : Progress). progress_by h terms r steps) e in
    none_held h terms (with_step p s) q steps k one.1 none

pub sizes_take : (steps : List Step) (k m : ℕ) → Contains (held_sizes (take k steps)) m
    → Contains (held_sizes steps) m
unfolding held_sizes
sizes_take steps zero m c = let below = c.1 in absurd (omega arith)
sizes_take [] (suc k) m c = c
sizes_take (Advance a b d ∷ steps) (suc k) m c = first_or a (held_sizes (take k steps))
    (held_sizes steps) m (sizes_take steps k m) c.0 c.1 c.2
sizes_take (Sign a b d e f ∷ steps) (suc k) m c = sizes_take steps k m c
sizes_take (Child a b ∷ steps) (suc k) m c = sizes_take steps k m c
