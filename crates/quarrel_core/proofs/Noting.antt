-- The map of first Signs, after a Sign.
use Rattle.std.proofs.Common.{◌≡◌, ℕ, ◌<◌, Bool, true, false, ◌&&◌, cond, eqb, eqb-true}
use Rattle.std.proofs.Common.{List, [], length, take, Some, None, sym, ◌∙◌, ap, refl, arith}
use Rattle.std.specs.Prelude.{Option, unwrap_or}
use Rattle.std.specs.List.{position}
use Rattle.std.specs.Ordering.{is_eq}
use Rattle.std.proofs.lemmas.Bool.{and_parts}
use Rattle.std.proofs.lemmas.List.{length-take-le}
use Rattle.std.proofs.lemmas.List.Quantifiers.{position-Some}
use Rattle.cosigner_core.specs.declared.step.Step.{Step}
use Rattle.cosigner_core.specs.declared.step.Step.TheVariants.{Advance}
use Rattle.quarrel_core.proofs.Seeking.{IsSought, same_key}
use Rattle.quarrel_core.specs.Firsts.{interval_cmp, signs}

-- what is noted of an interval is read there, and nothing else changes
pub noted_same : (at : ℕ × ℕ → Option ℕ) (s e place f : ℕ) → at (s, e) ≡ Some f → (q : ℕ × ℕ)
    → at q ≡ cond (eqb s q.0 && eqb e q.1) (Some (unwrap_or (at (s, e)) place)) (at q)
noted_same at s e place f found q = by (eqb s q.0 && eqb e q.1) refl
  where
    by : (t : Bool) → (eqb s q.0 && eqb e q.1) ≡ t
        → at q ≡ cond t (Some (unwrap_or (at (s, e)) place)) (at q)
    by true here =
        let both = and_parts (eqb s q.0) (eqb e q.1) here in
        let start : s ≡ q.0 = eqb-true s q.0 both.0 in
        let last : e ≡ q.1 = eqb-true e q.1 both.1 in
        sym (ap (λ (k : ℕ). at (k, e)) start ∙ ap (λ (k : ℕ). at (q.0, k)) last) ∙ found
        ∙ ap (λ (n : ℕ). Some n) (sym (ap (λ (o : Option ℕ). unwrap_or o place) found))
    by false apart = refl

pub noted_new : (at more : ℕ × ℕ → Option ℕ) (s e place : ℕ) → at (s, e) ≡ None
    → ((q : ℕ × ℕ) → more q ≡ cond (is_eq (interval_cmp (s, e) q)) (Some place) (at q))
    → (q : ℕ × ℕ)
    → more q ≡ cond (eqb s q.0 && eqb e q.1) (Some (unwrap_or (at (s, e)) place)) (at q)
noted_new at more s e place none updates q =
    updates q
    ∙ ap (λ (t : Bool). cond t (Some place) (at q)) (same_key (s, e) q)
    ∙ ap (λ (o : Option ℕ). cond (eqb s q.0 && eqb e q.1) (Some (unwrap_or o place)) (at q))
    (sym none)

-- the first Sign of an interval isn't later than this one
pub first_within : (steps : List Step) (place : ℕ) (at : ℕ × ℕ → Option ℕ) (s e first : ℕ)
    → place < length steps → IsSought steps place at → first ≡ unwrap_or (at (s, e)) place
    → first < length steps
first_within steps place at s e first below is first_is =
    by (position (signs (s, e)) (take place steps)) refl
  where
    named : first ≡ unwrap_or (position (signs (s, e)) (take place steps)) place
    named = first_is ∙ ap (λ (o : Option ℕ). unwrap_or o place) (is.firsts (s, e))

    by : (o : Option ℕ) → position (signs (s, e)) (take place steps) ≡ o → first < length steps
    by None none =
        let here : first ≡ place = named ∙ ap (λ (o : Option ℕ). unwrap_or o place) none in
        omega arith
    by (Some n) found =
        let there = position-Some (signs (s, e)) (take place steps) n (Advance 0 [] []) found in
        let within : n < length (take place steps) = there.0 in
        let here : first ≡ n = named ∙ ap (λ (o : Option ℕ). unwrap_or o place) found in
        let size : length (take place steps) ≡ place = length-take-le place steps (omega arith) in
        omega arith
