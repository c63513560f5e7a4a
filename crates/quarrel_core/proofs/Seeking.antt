-- The search for the first conflict, which has the index of the first Sign of each interval.
use Rattle.std.proofs.Common.{◌≡◌, ℕ, ◌+◌, ◌<◌, ◌≤◌, ⊎_elim, Bool, true, false, ◌&&◌, cond, eqb}
use Rattle.std.proofs.Common.{eqb-true, List, [], ◌∷◌, ◌++◌, length, get_or, take, drop, Some, None}
use Rattle.std.proofs.Common.{sym, ◌∙◌, ap, refl, subst, arith, ◌⊎◌}
use Rattle.std.specs.Prelude.{Option, bytes_eq, not, unwrap_or}
use Rattle.std.specs.List.{position}
use Rattle.std.specs.Ordering.{is_eq, nat_cmp, ordering_then}
use Rattle.std.specs.declared.cmp.Ordering.{Ordering}
use Rattle.std.specs.declared.cmp.Ordering.TheVariants.{Equal, Greater, Less}
use Rattle.std.proofs.lemmas.Bool.{and_parts, cases_lt, cases_order, cond-false}
use Rattle.std.proofs.lemmas.Bool.{cond-true, eq-eqb, false≢true, le-ltb, lt-ltb, ne_eqb}
use Rattle.std.proofs.lemmas.Bool.{true≢false}
use Rattle.std.proofs.lemmas.List.{drop_all, drop_more, get_or-take, get_or_default}
use Rattle.std.proofs.lemmas.List.{length-take-le, take_more}
use Rattle.std.proofs.lemmas.List.Quantifiers.{position-Some}
use Rattle.std.proofs.lemmas.Slice.Eq.{bytes_eq-Decides}
use Rattle.byte_formats.specs.Types.{Hash}
use Rattle.cosigner_core.specs.declared.step.Step.{Step}
use Rattle.cosigner_core.specs.declared.step.Step.TheVariants.{Advance, Child, Sign}
use Rattle.cosigner_steps.proofs.Holding.{NeverSigns}
use Rattle.quarrel_core.proofs.InConflict.{conflict_end, conflict_here, conflict_next}
use Rattle.quarrel_core.proofs.Indices.{last_fails, none_passes, passes_last, position_is}
use Rattle.quarrel_core.proofs.Indices.{position_none}
use Rattle.quarrel_core.specs.Conflicts.{conflict_after, conflict_in, conflicts}
use Rattle.quarrel_core.specs.Firsts.{interval_cmp, signs}

-- Two intervals are one in the order of intervals where both ends are.

nat_cmp_same : (a b : ℕ) → is_eq (nat_cmp a b) ≡ eqb a b
nat_cmp_same a b =
    ⊎_elim
    (λ (same : a ≡ b).
    ap is_eq (cond-false _ Less _ (le-ltb a b (omega arith))
    ∙ cond-true _ Equal Greater (eq-eqb a b same)) ∙ sym (eq-eqb a b same))
    (λ (apart : (a < b) ⊎ (b < a)).
    ⊎_elim
    (λ (less : a < b).
    ap is_eq (cond-true _ Less _ (lt-ltb a b less)) ∙ sym (ne_eqb a b (λ same. omega arith)))
    (λ (more : b < a).
    ap is_eq (cond-false _ Less _ (le-ltb a b (omega arith))
    ∙ cond-false _ Equal Greater (ne_eqb a b (λ same. omega arith)))
    ∙ sym (ne_eqb a b (λ same. omega arith)))
    apart)
    (cases_order a b)

pub same_key : (a b : ℕ × ℕ) → is_eq (interval_cmp a b) ≡ (eqb a.0 b.0 && eqb a.1 b.1)
same_key a b =
    ⊎_elim
    (λ (same : a.0 ≡ b.0).
    ap (λ (o : Ordering). is_eq (ordering_then o (nat_cmp a.1 b.1)))
    (cond-false _ Less _ (le-ltb a.0 b.0 (omega arith))
    ∙ cond-true _ Equal Greater (eq-eqb a.0 b.0 same))
    ∙ nat_cmp_same a.1 b.1
    ∙ ap (λ (t : Bool). t && eqb a.1 b.1) (sym (eq-eqb a.0 b.0 same)))
    (λ (apart : (a.0 < b.0) ⊎ (b.0 < a.0)).
    ⊎_elim
    (λ (less : a.0 < b.0).
    ap (λ (o : Ordering). is_eq (ordering_then o (nat_cmp a.1 b.1)))
    (cond-true _ Less _ (lt-ltb a.0 b.0 less))
    ∙ ap (λ (t : Bool). t && eqb a.1 b.1) (sym (ne_eqb a.0 b.0 (λ same. omega arith))))
    (λ (more : b.0 < a.0).
    ap (λ (o : Ordering). is_eq (ordering_then o (nat_cmp a.1 b.1)))
    (cond-false _ Less _ (le-ltb a.0 b.0 (omega arith))
    ∙ cond-false _ Equal Greater (ne_eqb a.0 b.0 (λ same. omega arith)))
    ∙ ap (λ (t : Bool). t && eqb a.1 b.1) (sym (ne_eqb a.0 b.0 (λ same. omega arith))))
    apart)
    (cases_order a.0 b.0)

-- Signs of one interval.

hash_of : Step → Hash
hash_of (Advance size root proof) = root
hash_of (Sign index start end hash proof) = hash
hash_of (Child child low) = []

conflict_of_signs : (i s e : ℕ) (a : Hash) (p : List Hash) (x : Step) → signs (s, e) x ≡ true
    → conflicts (Sign i s e a p) x ≡ not (bytes_eq a (hash_of x))
unfolding hash_of
conflict_of_signs i s e a p (Advance size root q) is = absurd (false≢true is)
conflict_of_signs i s e a p (Child child low) is = absurd (false≢true is)
conflict_of_signs i s e a p (Sign j t f b q) is =
    let both = and_parts (eqb t s) (eqb f e) is in
    ap (λ (c : Bool). c && (eqb f e && not (bytes_eq a b))) both.0
    ∙ ap (λ (c : Bool). c && not (bytes_eq a b)) both.1

no_conflict_apart : (i s e : ℕ) (a : Hash) (p : List Hash) (x : Step) → signs (s, e) x ≡ false
    → conflicts (Sign i s e a p) x ≡ false
no_conflict_apart i s e a p (Advance size root q) apart = refl
no_conflict_apart i s e a p (Child child low) apart = refl
no_conflict_apart i s e a p (Sign j t f b q) apart =
    by (eqb t s) (eqb f e) (not (bytes_eq a b)) apart
  where
    by : (b c d : Bool) → (b && c) ≡ false → (b && (c && d)) ≡ false
    by true true d is = absurd (true≢false is)
    by true false d is = refl
    by false c d is = refl

same_bytes : (a b : Hash) → not (bytes_eq a b) ≡ false → a ≡ b
same_bytes a b is = by (bytes_eq a b) refl is
  where
    by : (c : Bool) → bytes_eq a b ≡ c → not c ≡ false → a ≡ b
    by true same is = let decides = bytes_eq-Decides a b in decides.0 same
    by false differ is = absurd (true≢false is)

one_hash : (s e : ℕ) (x f : Step) → signs (s, e) x ≡ true → signs (s, e) f ≡ true
    → conflicts x f ≡ false → hash_of x ≡ hash_of f
unfolding hash_of
one_hash s e (Advance size root q) f is also none = absurd (false≢true is)
one_hash s e (Child child low) f is also none = absurd (false≢true is)
one_hash s e (Sign j t u b q) f is also none =
    let both = and_parts (eqb t s) (eqb u e) is in
    let first = eqb-true t s both.0 in
    let last = eqb-true u e both.1 in
    let here : signs (t, u) f ≡ true =
    ap (λ (k : ℕ). signs (k, u) f) first ∙ ap (λ (k : ℕ). signs (s, k) f) last ∙ also in
    same_bytes b (hash_of f) (sym (conflict_of_signs j t u b q f here) ∙ none)

never_itself : (x f : Step) → x ≡ f → conflicts x f ≡ false
never_itself x f same = subst (λ (y : Step). conflicts x y ≡ false) same (self x)
  where
    self : (x : Step) → conflicts x x ≡ false
    self (Advance size root q) = refl
    self (Child child low) = refl
    self (Sign j t u b q) =
        let decides = bytes_eq-Decides b b in
        ap (λ (c : Bool). c && (eqb u u && not (bytes_eq b b))) (eq-eqb t t refl)
        ∙ ap (λ (c : Bool). c && not (bytes_eq b b)) (eq-eqb u u refl)
        ∙ ap not (decides.1 refl)

-- where a Sign agrees with one of its interval, it agrees with each that agrees with that one
agrees_on : (i s e : ℕ) (a : Hash) (p : List Hash) (x f : Step) → signs (s, e) f ≡ true
    → conflicts (Sign i s e a p) f ≡ false → (signs (s, e) x ≡ true → conflicts x f ≡ false)
    → conflicts (Sign i s e a p) x ≡ false
unfolding hash_of
agrees_on i s e a p x f is none agree = by (signs (s, e) x) refl
  where
    by : (c : Bool) → signs (s, e) x ≡ c → conflicts (Sign i s e a p) x ≡ false
    by true here =
        let first : a ≡ hash_of f =
        same_bytes a (hash_of f) (sym (conflict_of_signs i s e a p f is) ∙ none) in
        let second : hash_of x ≡ hash_of f = one_hash s e x f here is (agree here) in
        conflict_of_signs i s e a p x here
        ∙ ap not (let decides = bytes_eq-Decides a (hash_of x) in decides.1 (first ∙ sym second))
    by false apart = no_conflict_apart i s e a p x apart

-- The state of the search before the step at an index.
pub record IsSought (steps : List Step) (place : ℕ) (at : ℕ × ℕ → Option ℕ) : Type 0 where
  pub whole : conflict_in steps ≡ conflict_after (take place steps) (drop place steps)
  pub firsts : (q : ℕ × ℕ) → at q ≡ position (signs q) (take place steps)
  pub quiet : (a b : ℕ) (d : Step) → a < b → b < place
      → conflicts (get_or steps b d) (get_or steps a d) ≡ false

pub sought_first : (steps : List Step) (at : ℕ × ℕ → Option ℕ) → ((q : ℕ × ℕ) → at q ≡ None)
    → IsSought steps 0 at
sought_first steps at none = record {
  whole = refl;
  firsts = λ q. none q;
  quiet = λ a b d less below. let no : ⊥ = omega arith in absurd no;
}

pub sought_last : (steps : List Step) (at : ℕ × ℕ → Option ℕ) → IsSought steps (length steps) at
    → conflict_in steps ≡ None
sought_last steps at is =
    is.whole
    ∙ ap (conflict_after (take (length steps) steps))
    (drop_all (length steps) steps (omega arith))
    ∙ conflict_end (take (length steps) steps)

-- a step that is in conflict with none before it
next_whole : (steps : List Step) (place : ℕ) (at : ℕ × ℕ → Option ℕ) (step : Step)
    → place < length steps → get_or steps place step ≡ step → IsSought steps place at
    → position (conflicts step) (take place steps) ≡ None
    → conflict_in steps ≡ conflict_after (take (place + 1) steps) (drop (place + 1) steps)
next_whole steps place at step below here is none =
    is.whole
    ∙ ap (conflict_after (take place steps))
    (drop_more steps place step below ∙ ap (λ (x : Step). x ∷ drop (place + 1) steps) here)
    ∙ conflict_next (take place steps) step (drop (place + 1) steps) none
    ∙ ap (λ (seen : List Step). conflict_after seen (drop (place + 1) steps))
    (sym (take_more steps place step below ∙ ap (λ (x : Step). take place steps ++ x ∷ []) here))

next_quiet : (steps : List Step) (place : ℕ) (at : ℕ × ℕ → Option ℕ) (step : Step)
    → place < length steps → get_or steps place step ≡ step → IsSought steps place at
    → ((d : Step) (k : ℕ) → k < place → conflicts step (get_or steps k d) ≡ false)
    → (a b : ℕ) (d : Step) → a < b → b < place + 1
    → conflicts (get_or steps b d) (get_or steps a d) ≡ false
next_quiet steps place at step below here is none a b d less under =
    ⊎_elim
    (λ (earlier : b < place). is.quiet a b d less earlier)
    (λ (past : place ≤ b).
    let same : b ≡ place = omega arith in
    let read : get_or steps place d ≡ step = got steps place step d below here in
    ap (λ (k : ℕ). conflicts (get_or steps k d) (get_or steps a d)) same
    ∙ ap (λ (x : Step). conflicts x (get_or steps a d)) read
    ∙ none d a (omega arith))
    (cases_lt b place)
  where
    got : (xs : List Step) (k : ℕ) (x d : Step) → k < length xs → get_or xs k x ≡ x
        → get_or xs k d ≡ x
    got xs k x d within is = sym (get_or_default xs k x d within) ∙ is

read_before : (steps : List Step) (place k : ℕ) (d : Step) → k < place
    → get_or (take place steps) k d ≡ get_or steps k d
read_before steps place k d less = get_or-take place steps k d less

taken_length : (steps : List Step) (place : ℕ) → place < length steps
    → length (take place steps) ≡ place
taken_length steps place below = length-take-le place steps (omega arith)

no_conflict : (s x : Step) → NeverSigns s → conflicts s x ≡ false
no_conflict (Advance size root proof) x none = refl
no_conflict (Child child low) x none = refl
no_conflict (Sign index start end hash proof) x none =
    absurd (none index start end hash proof refl)

no_interval : (q : ℕ × ℕ) (s : Step) → NeverSigns s → signs q s ≡ false
no_interval q (Advance size root proof) none = refl
no_interval q (Child child low) none = refl
no_interval q (Sign index start end hash proof) none =
    absurd (none index start end hash proof refl)

-- one step more, which is no Sign
pub sought_other : (steps : List Step) (place : ℕ) (at : ℕ × ℕ → Option ℕ) (step : Step)
    → NeverSigns step → place < length steps → get_or steps place step ≡ step
    → IsSought steps place at → IsSought steps (place + 1) at
sought_other steps place at step none below here is =
    let size_is = taken_length steps place below in
    record {
      whole = next_whole steps place at step below here is
          (position_none (conflicts step) (take place steps) step
          (λ k within. no_conflict step (get_or (take place steps) k step) none));
      firsts = λ q.
          is.firsts q
          ∙ sym (last_fails (signs q) (take place steps) step step (no_interval q step none))
          ∙ sym (ap (position (signs q)) (take_more steps place step below
          ∙ ap (λ (x : Step). take place steps ++ x ∷ []) here));
      quiet = next_quiet steps place at step below here is
          (λ d k less. no_conflict step (get_or steps k d) none);
    }

-- A Sign, with the first of its interval.

abbrev FirstOf : List Step → ℕ → ℕ → ℕ → ℕ → Type 0
FirstOf steps place s e first =
    first ≡ unwrap_or (position (signs (s, e)) (take place steps)) place

-- it is in conflict with none before it where it isn't with the first
none_conflicts : (steps : List Step) (place : ℕ) (at : ℕ × ℕ → Option ℕ) (i s e : ℕ) (a : Hash)
    (p : List Hash) (first : ℕ) (f : Step) → place < length steps → IsSought steps place at
    → FirstOf steps place s e first → get_or steps first f ≡ f
    → conflicts (Sign i s e a p) f ≡ false
    → (d : Step) (k : ℕ) → k < place → conflicts (Sign i s e a p) (get_or steps k d) ≡ false
none_conflicts steps place at i s e a p first f below is first_is read none d k less =
    by (position (signs (s, e)) (take place steps)) refl
  where
    at_k : get_or (take place steps) k d ≡ get_or steps k d
    at_k = read_before steps place k d less

    by : (o : Option ℕ) → position (signs (s, e)) (take place steps) ≡ o
        → conflicts (Sign i s e a p) (get_or steps k d) ≡ false
    by None nothing =
        let size = taken_length steps place below in
        no_conflict_apart i s e a p (get_or steps k d)
        (ap (signs (s, e)) (sym at_k)
        ∙ none_passes (signs (s, e)) (take place steps) d nothing k (omega arith))
    by (Some n) found =
        let size = taken_length steps place below in
        let there = position-Some (signs (s, e)) (take place steps) n f found in
        let within : n < length (take place steps) = there.0 in
        let here : first ≡ n = first_is ∙ ap (λ (o : Option ℕ). unwrap_or o place) found in
        let before : n < place = omega arith in
        let inside : n < length steps = omega arith in
        let own : get_or steps n f ≡ f = ap (λ (m : ℕ). get_or steps m f) (sym here) ∙ read in
        let sign : signs (s, e) f ≡ true =
        ap (signs (s, e)) (sym own ∙ sym (read_before steps place n f before)) ∙ there.1 in
        agrees_on i s e a p (get_or steps k d) f sign none
        (λ signed.
        ⊎_elim
        (λ (earlier : k < n).
        absurd (false≢true (sym (there.2 k earlier)
        ∙ ap (signs (s, e)) (read_before steps place k f less
        ∙ get_or_default steps k f d (omega arith)) ∙ signed)))
        (λ (past : n ≤ k).
        ⊎_elim
        (λ (later : n < k).
        ap (conflicts (get_or steps k d))
        (sym (sym (get_or_default steps n f d inside) ∙ own))
        ∙ is.quiet n k d later less)
        (λ (same : k ≤ n).
        let one : k ≡ n = omega arith in
        let equal : get_or steps k d ≡ f =
        ap (λ (m : ℕ). get_or steps m d) one
        ∙ sym (get_or_default steps n f d inside) ∙ own in
        never_itself (get_or steps k d) f equal)
        (cases_lt n k))
        (cases_lt k n))

-- one step more, which is a Sign that agrees with the first of its interval
pub sought_sign : (steps : List Step) (place : ℕ) (at more : ℕ × ℕ → Option ℕ) (i s e : ℕ)
    (a : Hash) (p : List Hash) (first : ℕ) (f : Step) → place < length steps
    → get_or steps place (Sign i s e a p) ≡ Sign i s e a p → IsSought steps place at
    → first ≡ unwrap_or (at (s, e)) place → get_or steps first f ≡ f
    → conflicts (Sign i s e a p) f ≡ false
    → ((q : ℕ × ℕ) → more q ≡ cond (eqb s q.0 && eqb e q.1) (Some first) (at q))
    → IsSought steps (place + 1) more
sought_sign steps place at more i s e a p first f below here is first_is read none updates =
    let step = Sign i s e a p in
    let size = taken_length steps place below in
    let is_first : FirstOf steps place s e first =
    first_is ∙ ap (λ (o : Option ℕ). unwrap_or o place) (is.firsts (s, e)) in
    let quiet = none_conflicts steps place at i s e a p first f below is is_first read none in
    record {
      whole = next_whole steps place at (Sign i s e a p) below here is
          (position_none (conflicts (Sign i s e a p)) (take place steps) step
          (λ k within.
          let less : k < place = omega arith in
          ap (conflicts (Sign i s e a p)) (read_before steps place k (Sign i s e a p) less)
          ∙ quiet (Sign i s e a p) k less));
      firsts = λ q.
          updates q ∙ pushed q (eqb s q.0 && eqb e q.1) refl
          ∙ sym (ap (position (signs q)) (take_more steps place step below
          ∙ ap (λ (x : Step). take place steps ++ x ∷ []) here));
      quiet = next_quiet steps place at (Sign i s e a p) below here is quiet;
    }
  where
    pushed : (q : ℕ × ℕ) (t : Bool) → (eqb s q.0 && eqb e q.1) ≡ t
        → cond t (Some first) (at q)
        ≡ position (signs q) (take place steps ++ Sign i s e a p ∷ [])
    pushed q true signed =
        let both = and_parts (eqb s q.0) (eqb e q.1) signed in
        let start : s ≡ q.0 = eqb-true s q.0 both.0 in
        let last : e ≡ q.1 = eqb-true e q.1 both.1 in
        let size = taken_length steps place below in
        ap (λ (n : ℕ). Some n) (first_is
        ∙ ap (λ (k : ℕ). unwrap_or (at (k, e)) place) start
        ∙ ap (λ (k : ℕ). unwrap_or (at (q.0, k)) place) last
        ∙ ap (λ (o : Option ℕ). unwrap_or o place) (is.firsts q)
        ∙ ap (unwrap_or (position (signs q) (take place steps))) (sym size))
        ∙ sym (passes_last (signs q) (take place steps) (Sign i s e a p) (Sign i s e a p) signed)
    pushed q false apart =
        is.firsts q
        ∙ sym (last_fails (signs q) (take place steps) (Sign i s e a p) (Sign i s e a p) apart)

-- a Sign that is in conflict with the first of its interval
pub sought_found : (steps : List Step) (place : ℕ) (at : ℕ × ℕ → Option ℕ) (i s e : ℕ)
    (a : Hash) (p : List Hash) (first : ℕ) (f : Step) → place < length steps
    → get_or steps place (Sign i s e a p) ≡ Sign i s e a p → IsSought steps place at
    → first ≡ unwrap_or (at (s, e)) place → get_or steps first f ≡ f
    → conflicts (Sign i s e a p) f ≡ true
    → conflict_in steps ≡ Some (first, place)
sought_found steps place at i s e a p first f below here is first_is read conflict =
    by (position (signs (s, e)) (take place steps)) refl
  where
    is_first : first ≡ unwrap_or (position (signs (s, e)) (take place steps)) place
    is_first = first_is ∙ ap (λ (o : Option ℕ). unwrap_or o place) (is.firsts (s, e))

    by : (o : Option ℕ) → position (signs (s, e)) (take place steps) ≡ o
        → conflict_in steps ≡ Some (first, place)
    by None nothing =
        let same : first ≡ place = is_first ∙ ap (λ (o : Option ℕ). unwrap_or o place) nothing in
        let own : Sign i s e a p ≡ f =
        sym here
        ∙ get_or_default steps place (Sign i s e a p) f below
        ∙ ap (λ (m : ℕ). get_or steps m f) (sym same) ∙ read in
        absurd (false≢true (sym (never_itself (Sign i s e a p) f own) ∙ conflict))
    by (Some n) found =
        let size = taken_length steps place below in
        let there = position-Some (signs (s, e)) (take place steps) n f found in
        let within : n < length (take place steps) = there.0 in
        let same : first ≡ n = is_first ∙ ap (λ (o : Option ℕ). unwrap_or o place) found in
        let before : n < place = omega arith in
        let own : get_or (take place steps) n f ≡ f =
        read_before steps place n f before ∙ ap (λ (m : ℕ). get_or steps m f) (sym same) ∙ read in
        let at_n = position_is (conflicts (Sign i s e a p)) (take place steps) n f within
        (λ k less. no_conflict_apart i s e a p (get_or (take place steps) k f) (there.2 k less))
        (ap (conflicts (Sign i s e a p)) own ∙ conflict) in
        is.whole
        ∙ ap (conflict_after (take place steps))
        (drop_more steps place (Sign i s e a p) below
        ∙ ap (λ (x : Step). x ∷ drop (place + 1) steps) here)
        ∙ conflict_here (take place steps) (Sign i s e a p) (drop (place + 1) steps) n at_n
        ∙ ap (λ (m : ℕ). Some (m, length (take place steps))) (sym same)
        ∙ ap (λ (m : ℕ). Some (first, m)) size
