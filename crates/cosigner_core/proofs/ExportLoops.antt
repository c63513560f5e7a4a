-- Reading the records of an export up to the end: those that were read and those that are left make
-- the whole.
use Rattle.std.proofs.Common.{◌≡◌, ◌≢◌, ℕ, zero, suc, ◌+◌, ◌<◌, ◌≤◌, List, [], ◌∷◌, ◌++◌, length}
use Rattle.std.proofs.Common.{Result, Ok, Err, refl, sym, ap, ◌∙◌, subst, append-nil, append_assoc}
use Rattle.std.proofs.Common.{arith, ne_eqb, eq-eqb}
use Rattle.std.proofs.lemmas.List.{length-append}
use Rattle.byte_formats.specs.Types.{HashFunction}
use Rattle.byte_formats.specs.Offsets.{At}
use Rattle.byte_formats.specs.Readings.{◌>>=◌}
use Rattle.cosigner_core.specs.ExportReading.{all_exported_at, exported_at, steps_left}
use Rattle.cosigner_core.specs.Progress.{first_progress, with_step}
use Rattle.cosigner_core.specs.declared.error.ReadExportError.{ReadExportError}
use Rattle.cosigner_core.specs.declared.progress.Progress.{Progress}
use Rattle.cosigner_core.specs.declared.step.Step.{Step}
use Rattle.cosigner_core.specs.declared.terms.KeyTerms.{KeyTerms}

-- What is left gives these steps more.
abbrev following : List Step → Result (List Step × At) ReadExportError
    → Result (List Step) ReadExportError
following seen r = r >>= λ (xs : List Step × At). Ok (seen ++ xs.0)

-- These steps were read, and reading on from here gives what the whole gives.
pub record StepsLeft (h : HashFunction) (terms : KeyTerms)
    (total : Result (List Step) ReadExportError)
    (seen : List Step) (p : Progress) (a : At) : Type 0 where
  pub fuel : ℕ
  pub enough : length a.rest ≤ fuel
  pub rest : following seen (all_exported_at h terms fuel (length seen + 1) p a) ≡ total

pub steps_from : (h : HashFunction) (terms : KeyTerms) (a : At) (seen : List Step) (p : Progress)
    → seen ≡ [] → p ≡ first_progress h → StepsLeft h terms (steps_left h terms a) seen p a
unfolding steps_left
steps_from h terms a seen p none first =
    let P : List Step → Type 0 = λ s. StepsLeft h terms (steps_left h terms a) s p a in
    subst P (sym none) (
    let Q : Progress → Type 0 = λ q. StepsLeft h terms (steps_left h terms a) [] q a in
    subst Q (sym first) (record {
      fuel = length a.rest;
      enough = omega arith;
      rest = refl;
    }))

following_one : (seen : List Step) (x : Step) (r : Result (List Step × At) ReadExportError)
    → following seen (r >>= λ (xs : List Step × At). Ok (x ∷ xs.0, xs.1))
    ≡ following (seen ++ x ∷ []) r
following_one seen x (Ok xs) = ap (λ (l : List Step). Ok l) (sym (append_assoc seen (x ∷ []) xs.0))
following_one seen x (Err e) = refl

step_more : (h : HashFunction) (terms : KeyTerms) (n k : ℕ) (p : Progress) (seen : List Step)
    (a : At)
    (x : Step) (b : At) → exported_at h terms k p a ≡ Ok (x, b) → length a.rest ≢ 0
    → following seen (all_exported_at h terms (suc n) k p a)
    ≡ following (seen ++ x ∷ []) (all_exported_at h terms n (k + 1) (with_step p x) b)
unfolding all_exported_at
step_more h terms n k p seen a x b step some =
    rw (
      ne_eqb (length a.rest) 0 some,
      step,
    ) (following_one seen x (all_exported_at h terms n (k + 1) (with_step p x) b))

step_fails : (h : HashFunction) (terms : KeyTerms) (n k : ℕ) (p : Progress) (seen : List Step)
    (a : At)
    (e : ReadExportError) → exported_at h terms k p a ≡ Err e → length a.rest ≢ 0
    → following seen (all_exported_at h terms (suc n) k p a) ≡ Err e
unfolding all_exported_at
step_fails h terms n k p seen a e step some = rw (ne_eqb (length a.rest) 0 some, step) refl

step_ends : (h : HashFunction) (terms : KeyTerms) (n k : ℕ) (p : Progress) (seen : List Step)
    (a : At)
    → length a.rest ≡ 0 → following seen (all_exported_at h terms n k p a) ≡ Ok seen
unfolding all_exported_at
step_ends h terms zero k p seen a none = ap (λ (l : List Step). Ok l) (append-nil seen)
step_ends h terms (suc n) k p seen a none =
    rw (eq-eqb (length a.rest) 0 none) (ap (λ (l : List Step). Ok l) (append-nil seen))

-- One step more is read.
pub steps_more : (h : HashFunction) (terms : KeyTerms) (total : Result (List Step) ReadExportError)
    (seen next : List Step) (p q : Progress) (a : At) (number : ℕ) (x : Step) (b : At)
    → number ≡ length seen + 1 → exported_at h terms number p a ≡ Ok (x, b)
    → length b.rest < length a.rest → next ≡ seen ++ x ∷ [] → q ≡ with_step p x
    → StepsLeft h terms total seen p a → StepsLeft h terms total next q b
steps_more h terms total seen next p q a number x b count step less grown moved w =
    go w.fuel w.enough w.rest
  where
    here : exported_at h terms (length seen + 1) p a ≡ Ok (x, b)
    here = ap (λ (k : ℕ). exported_at h terms k p a) (sym count) ∙ step

    far : length seen + 1 + 1 ≡ length (seen ++ x ∷ []) + 1
    far = let long = length-append seen (x ∷ []) in omega arith

    go : (f : ℕ) → length a.rest ≤ f
        → following seen (all_exported_at h terms f (length seen + 1) p a) ≡ total
        → StepsLeft h terms total next q b
    go zero le e = absurd (omega arith)
    go (suc f) le e =
        let some : length a.rest ≢ 0 = omega arith in
        let made : following (seen ++ x ∷ [])
        (all_exported_at h terms f (length (seen ++ x ∷ []) + 1) (with_step p x) b) ≡ total =
        ap (λ (k : ℕ). following (seen ++ x ∷ []) (all_exported_at h terms f k (with_step p x) b))
        (sym far)
        ∙ sym (step_more h terms f (length seen + 1) p seen a x b here some) ∙ e in
        subst (λ (s : List Step). StepsLeft h terms total s q b) (sym grown)
        (subst (λ (r : Progress). StepsLeft h terms total (seen ++ x ∷ []) r b) (sym moved)
        (record { fuel = f; enough = omega arith; rest = made }))

-- The next record doesn't read.
pub steps_fail : (h : HashFunction) (terms : KeyTerms) (total : Result (List Step) ReadExportError)
    (seen : List Step) (p : Progress) (a : At) (number : ℕ) (e : ReadExportError)
    → number ≡ length seen + 1 → exported_at h terms number p a ≡ Err e → 0 < length a.rest
    → StepsLeft h terms total seen p a → total ≡ Err e
steps_fail h terms total seen p a number e count step some w = go w.fuel w.enough w.rest
  where
    here : exported_at h terms (length seen + 1) p a ≡ Err e
    here = ap (λ (k : ℕ). exported_at h terms k p a) (sym count) ∙ step

    go : (f : ℕ) → length a.rest ≤ f
        → following seen (all_exported_at h terms f (length seen + 1) p a) ≡ total → total ≡ Err e
    go zero le so_far = absurd (omega arith)
    go (suc f) le so_far =
        let other : length a.rest ≢ 0 = omega arith in
        sym so_far ∙ step_fails h terms f (length seen + 1) p seen a e here other

-- Nothing is left.
pub steps_end : (h : HashFunction) (terms : KeyTerms) (total : Result (List Step) ReadExportError)
    (seen : List Step) (p : Progress) (a : At) → length a.rest ≤ 0
    → StepsLeft h terms total seen p a → total ≡ Ok seen
steps_end h terms total seen p a none w =
    let end : length a.rest ≡ 0 = omega arith in
    sym w.rest ∙ step_ends h terms w.fuel (length seen + 1) p seen a end
