-- The records after the first one of a cosigner, taken one by one.
use Rattle.std.proofs.Common.{◌≡◌, ℕ, ◌+◌, ◌<◌, ◌≤◌, Bool, true, false, List, [], ◌∷◌, ◌++◌}
use Rattle.std.proofs.Common.{length, drop, get_or, Option, Some, None, Result, Ok, Err, is_ok}
use Rattle.std.proofs.Common.{option_map, option_and_then, refl, ap, sym, ◌∙◌}
use Rattle.std.proofs.lemmas.Option.{none-some, same_Some}
use Rattle.std.specs.Prelude.{if◌then◌else◌, is_some}
use Rattle.byte_formats.specs.Types.{Hash, HashFunction, Text}
use Rattle.byte_formats.specs.Readings.{◌>>=◌, some_or}
use Rattle.byte_formats.proofs.Steps.{bind_ok, ok_is, some_or_ok}
use Rattle.byte_formats.proofs.Values.{when_some}
use Rattle.journal_core.specs.Folds.{state_after, taken_from}
use Rattle.journal_core.proofs.Bodies.{none_left, rest_at}
use Rattle.cosigner_core.specs.Counts.{AreCounted, FollowsItsTree}
use Rattle.cosigner_core.specs.Folds.{CosignerState, after_step, begun_cosigner, cosigner_fold}
use Rattle.cosigner_core.specs.Folds.{cosigner_of}
use Rattle.cosigner_core.specs.Folds.{new_cosigner, next_state, progress_of, terms_by}
use Rattle.cosigner_core.specs.Folds.{with_progress}
use Rattle.cosigner_core.specs.Progress.{first_progress, is_allowed, may_follow_cosigner}
use Rattle.cosigner_core.specs.Progress.{progress_after, progress_by, progress_in, steps_in}
use Rattle.cosigner_core.specs.Progress.{terms_of, with_step}
use Rattle.cosigner_core.specs.Records.{cosigner_in, step_in}
use Rattle.cosigner_core.specs.declared.progress.Progress.{Progress}
use Rattle.cosigner_core.specs.declared.settings.CosignerSettings.{CosignerSettings}
use Rattle.cosigner_core.specs.declared.step.Step.{Step}
use Rattle.cosigner_core.specs.declared.step.Step.TheVariants.{Sign}
use Rattle.cosigner_core.specs.declared.terms.KeyTerms.{KeyTerms}
use Rattle.cosigner_core.proofs.Counts.{follows_tree, records_count_up}
use Rattle.cosigner_core.proofs.Brought.{comes_to}

-- how far these records bring a cosigner that has come so far
abbrev pub brought : HashFunction → KeyTerms → Progress → List Text → Option Progress
brought h terms p bodies = option_and_then (progress_by h terms p) (steps_in bodies)

-- the steps of the rest after a step, if all of them are read
abbrev before : Option (List Step) → Option Step → Option (List Step)
before all o = option_and_then (λ step. option_map (λ steps. step ∷ steps) all) o

-- where a first step leads, and where none does
step_leads : (h : HashFunction) (terms : KeyTerms) (p : Progress) (o : Option Step)
    (all : Option (List Step)) → option_and_then (progress_by h terms p) (before all o)
    ≡ option_and_then (λ q. option_and_then (progress_by h terms q) all)
    (option_and_then (progress_after h terms p) o)
unfolding progress_by
step_leads h terms p None all = refl
step_leads h terms p (Some step) (Some steps) = refl
step_leads h terms p (Some step) None = go (progress_after h terms p step)
  where
    go : (q : Option Progress) → None ≡ option_and_then (λ (q : Progress). option_and_then
        (progress_by h terms q) None) q
    go None = refl
    go (Some q) = refl

brought_on : (h : HashFunction) (terms : KeyTerms) (p : Progress) (body : Text) (rest : List Text)
    → brought h terms p (body ∷ rest) ≡ option_and_then (λ q. brought h terms q rest)
    (option_and_then (progress_after h terms p) (step_in body))
unfolding steps_in
brought_on h terms p body rest = step_leads h terms p (step_in body) (steps_in rest)

brought_end : (h : HashFunction) (terms : KeyTerms) (p : Progress) → brought h terms p [] ≡ Some p
unfolding steps_in progress_by
brought_end h terms p = refl

-- The record at an index is a step that is allowed, or it is none.
pub follows_on : (h : HashFunction) (terms : KeyTerms) (wanted : Option Progress) (p q : Progress)
    (bodies : List Text) (i : ℕ) (x body : Text) → i < length bodies → x ≡ get_or bodies i x
    → brought h terms p (drop i bodies ++ body ∷ []) ≡ wanted
    → option_and_then (progress_after h terms p) (step_in x) ≡ Some q
    → brought h terms q (drop (i + 1) bodies ++ body ∷ []) ≡ wanted
follows_on h terms wanted p q bodies i x body there is so_far next =
    let rest = drop (i + 1) bodies ++ body ∷ [] in
    sym (ap (option_and_then (λ (r : Progress). brought h terms r rest)) next)
    ∙ sym (brought_on h terms p x rest)
    ∙ ap (brought h terms p) (sym (rest_at bodies i x body there is)) ∙ so_far

pub follows_not : (h : HashFunction) (terms : KeyTerms) (wanted : Option Progress) (p : Progress)
    (bodies : List Text) (i : ℕ) (x body : Text) → i < length bodies → x ≡ get_or bodies i x
    → brought h terms p (drop i bodies ++ body ∷ []) ≡ wanted
    → option_and_then (progress_after h terms p) (step_in x) ≡ None → false ≡ is_some wanted
follows_not h terms wanted p bodies i x body there is so_far next =
    let rest = drop (i + 1) bodies ++ body ∷ [] in
    ap (λ (o : Option Progress). is_some o)
    (sym (ap (option_and_then (λ (r : Progress). brought h terms r rest)) next)
    ∙ sym (brought_on h terms p x rest)
    ∙ ap (brought h terms p) (sym (rest_at bodies i x body there is)) ∙ so_far)

pub last_follows : (h : HashFunction) (terms : KeyTerms) (wanted next : Option Progress)
    (p : Progress)
    (bodies : List Text) (i : ℕ) (body : Text) → length bodies ≤ i
    → brought h terms p (drop i bodies ++ body ∷ []) ≡ wanted
    → next ≡ option_and_then (progress_after h terms p) (step_in body)
    → is_some next ≡ is_some wanted
last_follows h terms wanted next p bodies i body past so_far is =
    ends next ∙ ap (λ (o : Option Progress). is_some o)
    (ap (option_and_then (λ (r : Progress). brought h terms r [])) is
    ∙ sym (brought_on h terms p body [])
    ∙ ap (brought h terms p) (sym (none_left bodies i body past)) ∙ so_far)
  where
    ends : (o : Option Progress) → is_some o
        ≡ is_some (option_and_then (λ (r : Progress). brought h terms r []) o)
    ends None = refl
    ends (Some q) = sym (ap (λ (o : Option Progress). is_some o) (brought_end h terms q))

pub begins_with : (h : HashFunction) (terms : KeyTerms) (bodies : List Text)
    → brought h terms (first_progress h) bodies ≡ progress_in h terms bodies
unfolding progress_in
begins_with h terms bodies = refl

-- ---- the same of the records of a journal

-- by the test of a step
by_test : (h : HashFunction) (k : ℕ) (s t : CosignerState) (terms : KeyTerms) (p : Progress)
    (bodies : List Text) (b : Bool) → (b ≡ true
    → is_ok (taken_from (cosigner_fold h) (k + 1) t bodies) ≡ is_some (brought h terms p bodies))
    → is_ok (some_or k (if b then Some t else None)
    >>= λ (u : CosignerState). taken_from (cosigner_fold h) (k + 1) u bodies)
    ≡ is_some (option_and_then (λ (q : Progress). brought h terms q bodies)
    (if b then Some p else None))
by_test h k s t terms p bodies true same = same refl
by_test h k s t terms p bodies false same = refl

by_step : (h : HashFunction) (k : ℕ) (s : CosignerState) (bodies : List Text) (o : Option Step)
    → ((t : CosignerState) → is_ok (taken_from (cosigner_fold h) (k + 1) t bodies)
    ≡ is_some (brought h (terms_by t) (progress_of t) bodies))
    → is_ok (some_or k (option_and_then (after_step h s) o)
    >>= λ (u : CosignerState). taken_from (cosigner_fold h) (k + 1) u bodies)
    ≡ is_some (option_and_then (λ (q : Progress). brought h (terms_by s) q bodies)
    (option_and_then (progress_after h (terms_by s) (progress_of s)) o))
by_step h k s bodies None rest = refl
by_step h k s bodies (Some step) rest =
    let next = with_step (progress_of s) step in
    by_test h k s (with_progress s next) (terms_by s) next bodies
    (is_allowed h (terms_by s) (progress_of s) step) (λ fits. rest (with_progress s next)
    ∙ ap (λ (p : Progress). is_some (brought h (terms_by s) p bodies)) (comes_to h s step fits))

after_agrees : (h : HashFunction) (k : ℕ) (s : CosignerState) (bodies : List Text)
    → is_ok (taken_from (cosigner_fold h) k s bodies)
    ≡ is_some (brought h (terms_by s) (progress_of s) bodies)
unfolding taken_from next_state
after_agrees h k s [] =
    sym (ap (λ (o : Option Progress). is_some o) (brought_end h (terms_by s) (progress_of s)))
after_agrees h k s (body ∷ bodies) =
    by_step h k s bodies (step_in body) (λ (t : CosignerState). after_agrees h (k + 1) t bodies)
    ∙ sym (ap (λ (o : Option Progress). is_some o)
    (brought_on h (terms_by s) (progress_of s) body bodies))

-- a step that a cosigner takes brings it as far as its records come
step_brings : (h : HashFunction) (s t : CosignerState) (o : Option Step)
    → option_and_then (after_step h s) o ≡ Some t
    → (option_and_then (progress_after h (terms_by s) (progress_of s)) o ≡ Some (progress_of t))
    × (terms_by t ≡ terms_by s)
step_brings h s t None is = let wrong : None ≡ Some t = is in cc
step_brings h s t (Some step) is =
    let next = with_step (progress_of s) step in
    let made = when_some (is_allowed h (terms_by s) (progress_of s) step)
    (Some (with_progress s next)) t is in
    let same = same_Some (with_progress s next) t made.1 in (
      ap (λ (b : Bool). if b then Some next else None) made.0
          ∙ (ap (λ (p : Progress). Some p) (sym (comes_to h s step made.0))
          ∙ ap (λ (u : CosignerState). Some (progress_of u)) same),
      ap terms_by (sym same),
    )

pub brings : (h : HashFunction) (k : ℕ) (s : CosignerState) (bodies : List Text)
    (t : CosignerState) → taken_from (cosigner_fold h) k s bodies ≡ Ok t
    → brought h (terms_by s) (progress_of s) bodies ≡ Some (progress_of t)
unfolding taken_from next_state
brings h k s [] t is =
    brought_end h (terms_by s) (progress_of s)
    ∙ ap (λ (u : CosignerState). Some (progress_of u)) (ok_is ℕ s t is)
brings h k s (body ∷ bodies) t is =
    let step = bind_ok (some_or k (next_state h s body))
    (λ (u : CosignerState). taken_from (cosigner_fold h) (k + 1) u bodies) t is in
    let first = step_brings h s step.0 (step_in body)
    (some_or_ok k (next_state h s body) step.0 step.1) in
    brought_on h (terms_by s) (progress_of s) body bodies
    ∙ ap (option_and_then (λ (q : Progress). brought h (terms_by s) q bodies)) first.0
    ∙ ap (λ (terms : KeyTerms). brought h terms (progress_of step.0) bodies)
    (sym first.1)
    ∙ brings h (k + 1) step.0 bodies t step.2

new_agrees : (h : HashFunction) (s : CosignerSettings) (secret : Text) (bodies : List Text)
    → is_ok (taken_from (cosigner_fold h) 1 (new_cosigner h s secret) bodies)
    ≡ may_follow_cosigner h (terms_of s.lms s.low) bodies
new_agrees h s secret bodies =
    after_agrees h 1 (new_cosigner h s secret) bodies
    ∙ ap (λ (o : Option Progress). is_some o) (begins_with h (terms_of s.lms s.low) bodies)

pub begins_so : (h : HashFunction) (first : Text) (s : CosignerSettings) (secret : Text)
    (bodies : List Text) → cosigner_in first ≡ Some (s, secret)
    → is_ok (cosigner_of h (first ∷ bodies)) ≡ may_follow_cosigner h (terms_of s.lms s.low) bodies
unfolding state_after begun_cosigner
begins_so h first s secret bodies is =
    ap (λ (o : Option (CosignerSettings × Text)). is_ok (some_or 0 (option_map
    (λ (x : CosignerSettings × Text). new_cosigner h x.0 x.1) o)
    >>= λ (u : CosignerState). taken_from (cosigner_fold h) 1 u bodies)) is
    ∙ new_agrees h s secret bodies

-- the cosigner of a first record that was read
abbrev begun_by : HashFunction → Option (CosignerSettings × Text) → Option CosignerState
begun_by h o = option_map (λ x. new_cosigner h x.0 x.1) o

-- a list that is no cosigner's makes none
pub no_cosigner : (k : ℕ) (t : CosignerState) → Err k ≡ Ok t → ⊥
no_cosigner k t is = cc

pub only_begins : (h : HashFunction) (list : List Text) (t : CosignerState)
    → cosigner_of h list ≡ Ok t → (first : Text) × ((bodies : List Text)
    × ((s : CosignerSettings) × ((secret : Text) × ((list ≡ first ∷ bodies)
    × (cosigner_in first ≡ Some (s, secret))
    × (may_follow_cosigner h (terms_of s.lms s.low) bodies ≡ true)))))
unfolding state_after begun_cosigner
only_begins h [] t is = absurd (no_cosigner 0 t is)
only_begins h (first ∷ bodies) t is = go (cosigner_in first) refl
  where
    went : (o : Option (CosignerSettings × Text)) → cosigner_in first ≡ o → (s : CosignerState)
        × (begun_by h o ≡ Some s)
    went o read =
        let step = bind_ok (some_or 0 (begun_by h (cosigner_in first)))
        (λ (u : CosignerState). taken_from (cosigner_fold h) 1 u bodies) t is in (
          step.0,
          ap (begun_by h) (sym read)
              ∙ some_or_ok 0 (begun_by h (cosigner_in first)) step.0 step.1,
        )

    go : (o : Option (CosignerSettings × Text)) → cosigner_in first ≡ o → (f : Text)
        × ((bs : List Text) × ((s : CosignerSettings) × ((secret : Text)
        × ((first ∷ bodies ≡ f ∷ bs) × (cosigner_in f ≡ Some (s, secret))
        × (may_follow_cosigner h (terms_of s.lms s.low) bs ≡ true)))))
    go None read = absurd (none-some (went None read).0 (went None read).1)
    go (Some x) read = (
      first,
      (
        bodies,
        (
          x.0,
          (
            x.1,
            (
              refl,
              read,
              sym (begins_so h first x.0 x.1 bodies read)
                  ∙ ap (λ (r : Result CosignerState ℕ). is_ok r) is,
            ),
          ),
        ),
      ),
    )

-- no number stands twice
found_ok : (r : Result CosignerState ℕ) → is_ok r ≡ true → (t : CosignerState) × (r ≡ Ok t)
found_ok (Ok t) is = (t, refl)
found_ok (Err k) is = let wrong : false ≡ true = is in absurd cc

pub once_each : (h : HashFunction) (s : CosignerSettings) (bodies : List Text)
    → may_follow_cosigner h (terms_of s.lms s.low) bodies ≡ true → AreCounted bodies
once_each h s bodies may =
    let made = found_ok (taken_from (cosigner_fold h) 1 (new_cosigner h s []) bodies)
    (new_agrees h s [] bodies ∙ may) in
    records_count_up h s [] bodies made.0 made.1

-- a Sign follows the Child of its lower tree
pub after_its_tree : (h : HashFunction) (s : CosignerSettings) (before : List Text) (body : Text)
    (after : List Text) (index start end : ℕ) (hash : Hash) (proof : List Hash)
    → may_follow_cosigner h (terms_of s.lms s.low) (before ++ body ∷ after) ≡ true
    → step_in body ≡ Some (Sign index start end hash proof)
    → FollowsItsTree s.lms s.low before index
after_its_tree h s before body after index start end hash proof may said =
    let bodies : List Text = before ++ body ∷ after in
    let made = found_ok (taken_from (cosigner_fold h) 1 (new_cosigner h s []) bodies)
    (new_agrees h s [] bodies ∙ may) in
    follows_tree h s [] before body after made.0 index start end hash proof made.1 said
