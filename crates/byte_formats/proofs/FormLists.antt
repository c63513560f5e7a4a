-- Lists of values up to the end as forms.
use Rattle.std.proofs.Common.{◌≡◌, ◌≢◌, ℕ, zero, suc, ◌+◌, ◌<◌, ◌≤◌, List, [], ◌∷◌, ◌++◌, length}
use Rattle.std.proofs.Common.{Result, Ok, Err, refl, sym, ap, subst, ◌∙◌, append-nil, arith, inl}
use Rattle.std.proofs.Common.{inr, ne_eqb, eqb-true}
use Rattle.std.specs.Prelude.{if◌then◌else◌, ◌==◌}
use Rattle.std.specs.List.{flat_map, AllByRecursion}
use Rattle.std.proofs.lemmas.List.{length-append, nil_from_length}
use Rattle.byte_formats.specs.Types.{Text}
use Rattle.byte_formats.specs.Offsets.{At, IsBytes}
use Rattle.byte_formats.specs.Readings.{Reading, ◌>>=◌}
use Rattle.byte_formats.specs.Lists.{many_at, up_to_end, each_at}
use Rattle.byte_formats.specs.Forms.{Stands, IsForm, Anything, Nothing, FitsEach}
use Rattle.byte_formats.proofs.FormLaws.{none_following}
use Rattle.byte_formats.proofs.Steps.{bind_ok, chosen, ok_is, Stands-then, Stands-none}

-- ---- values that are read with the keys of those before them in view

module _ {X K E : Type 0} (key : X → K) {encode : X → Text} {Fits : List K → X → Type 0}
    {read : List K → Reading X E}
    (form : (seen : List K) → IsForm encode (Fits seen) Anything (read seen))
    (some : (seen : List K) (x : X) → Fits seen x → 0 < length (encode x)) where
  -- What such a list takes, and that it leaves nothing.
  each_takes : (n : ℕ) (seen : List K) (a : At) (xs : List X) (b : At) → IsBytes a.rest
      → each_at key read n seen a ≡ Ok (xs, b)
      → (Stands a (flat_map encode xs) b × FitsEach key Fits seen xs)
      × (length a.rest ≤ n → b.rest ≡ [])
  unfolding each_at
  each_takes zero seen a xs b h e =
      let P : List X × At → Type 0 = λ v. (Stands a (flat_map encode v.0) v.1
      × FitsEach key Fits seen v.0) × (length a.rest ≤ 0 → v.1.rest ≡ []) in
      subst P (ok_is E ([], a) (xs, b) e)
      ((Stands-none a h, tt), λ le. nil_from_length a.rest (omega arith))
  each_takes (suc n) seen a xs b h e =
      let P : List X × At → Type 0 = λ v. (Stands a (flat_map encode v.0) v.1
      × FitsEach key Fits seen v.0) × (length a.rest ≤ suc n → v.1.rest ≡ []) in
      let following : X × At → Result (List X × At) E = λ x. each_at key read n (seen
      ++ key x.0 ∷ []) x.1 >>= λ (ys : List X × At). Ok (x.0 ∷ ys.0, ys.1) in
      elim (chosen (length a.rest == 0) (Ok ([], a)) (read seen a >>= following) (Ok (xs, b)) e) [
        | inl c ↦ subst P (ok_is E ([], a) (xs, b) c.1) (
          (Stands-none a h, tt),
          λ le. nil_from_length a.rest (eqb-true (length a.rest) 0 c.0),
        )
        | inr c ↦
            let s = bind_ok (read seen a) following (xs, b) c.1 in
            let t = bind_ok (each_at key read n (seen ++ key s.0.0 ∷ []) s.0.1) (λ (ys : List X
            × At). Ok (s.0.0 ∷ ys.0, ys.1)) (xs, b) s.2 in
            let one = (form seen).takes a s.0.0 s.0.1 h s.1 in
            let others = each_takes n (seen ++ key s.0.0 ∷ []) s.0.1 t.0.0 t.0.1 one.0.bytes t.1 in
            let all : length a.rest ≡ length (encode s.0.0) + length s.0.1.rest =
            ap length one.0.parts ∙ length-append (encode s.0.0) s.0.1.rest in
            subst P (ok_is E (s.0.0 ∷ t.0.0, t.0.1) (xs, b) t.2) (
              (
                Stands-then a (encode s.0.0) s.0.1 (flat_map encode t.0.0) t.0.1 one.0 others.0.0,
                (one.1, others.0.1),
              ),
              λ le. others.1 (omega (arith, all, some seen s.0.0 one.1)),
            )
      ]

  none_again : (n : ℕ) (seen : List K) (p : ℕ)
      → each_at key read n seen (record { place = p; rest = [] })
      ≡ Ok ([], record { place = p + 0; rest = [] })
  unfolding each_at
  none_again zero seen p =
      ap (λ (a : At). Ok ([], a)) (none_following (record { place = p; rest = [] }))
  none_again (suc n) seen p =
      ap (λ (a : At). Ok ([], a)) (none_following (record { place = p; rest = [] }))

  each_again : (n : ℕ) (seen : List K) (xs : List X) (place : ℕ) → FitsEach key Fits seen xs
      → length (flat_map encode xs) ≤ n
      → each_at key read n seen (record { place = place; rest = flat_map encode xs })
      ≡ Ok (xs, record { place = place + length (flat_map encode xs); rest = [] })
  unfolding each_at
  each_again n seen [] p f le = none_again n seen p
  each_again zero seen (x ∷ xs) p f le =
      absurd (omega (arith, some seen x f.0, length-append (encode x) (flat_map encode xs)))
  each_again (suc n) seen (x ∷ xs) p f le =
      let count = length-append (encode x) (flat_map encode xs) in
      let long : length (encode x ++ flat_map encode xs) ≢ 0 = omega (arith, some seen x f.0) in
      let one = (form seen).again x p (flat_map encode xs) f.0 tt in
      let others = each_again n (seen ++ key x ∷ []) xs (p + length (encode x)) f.1 (omega (
        arith,
        some seen x f.0,
      )) in
      let far : p + length (encode x) + length (flat_map encode xs)
      ≡ p + length (encode x ++ flat_map encode xs) = omega arith in
      rw (ne_eqb (length (encode x ++ flat_map encode xs)) 0 long, one, others, far) refl

  -- Values up to the end take all of what is left.
  pub each_drains : (seen : List K) (a : At) (xs : List X) (b : At) → IsBytes a.rest
      → each_at key read (length a.rest) seen a ≡ Ok (xs, b) → b.rest ≡ []
  each_drains seen a xs b h e = (each_takes (length a.rest) seen a xs b h e).1 (omega arith)

  -- Values up to the end, each read with the keys of those before it in view.
  pub each_form : (seen : List K) → IsForm (flat_map encode) (FitsEach key Fits seen) Nothing
      (λ a. each_at key read (length a.rest) seen a)
  each_form seen = record {
    takes = λ a xs b h e. (each_takes (length a.rest) seen a xs b h e).0;
    again = λ xs p rest f q.
        rw (q, append-nil) (each_again (length (flat_map encode xs)) seen xs p f (omega arith));
  }

-- ---- values that are read by themselves: their keys say nothing

abbrev no_key : {X : Type 0} → X → Unit {0}
no_key x = tt

abbrev keyed : {X E : Type 0} → Reading X E → ℕ → List (Unit {0}) → Reading (List X) E
keyed read = each_at no_key (λ (keys : List (Unit {0})). read)

abbrev with_those : {X E : Type 0} → Reading (List X) E → X × At → Result (List X × At) E
with_those {X} following x = following x.1 >>= λ (ys : List X × At). Ok (x.0 ∷ ys.0, ys.1)

many_is : {X E : Type 0} (read : Reading X E) (n : ℕ) (seen : List (Unit {0})) (a : At)
    → many_at read n a ≡ keyed read n seen a
unfolding many_at each_at
many_is read zero seen a = refl
many_is {X} {E} read (suc n) seen a =
    ap (λ (r : Result (List X × At) E). if length a.rest == 0 then Ok ([], a) else r)
    (go (read a) (λ b. many_is read n (seen ++ tt ∷ []) b))
  where
    go : (r : Result (X × At) E)
        → ((b : At) → many_at read n b ≡ keyed read n (seen ++ tt ∷ []) b)
        → (r >>= with_those (many_at read n))
        ≡ (r >>= with_those (keyed read n (seen ++ tt ∷ [])))
    go (Ok x) same = rw (same x.1) refl
    go (Err e) same = refl

all_of_each : {X : Type 0} (Fits : X → Type 0) (seen : List (Unit {0})) (xs : List X)
    → FitsEach no_key (λ (keys : List (Unit {0})). Fits) seen xs → AllByRecursion Fits xs
all_of_each Fits seen [] f = tt
all_of_each Fits seen (x ∷ xs) f = (f.0, all_of_each Fits (seen ++ tt ∷ []) xs f.1)

each_of_all : {X : Type 0} (Fits : X → Type 0) (seen : List (Unit {0})) (xs : List X)
    → AllByRecursion Fits xs → FitsEach no_key (λ (keys : List (Unit {0})). Fits) seen xs
each_of_all Fits seen [] f = tt
each_of_all Fits seen (x ∷ xs) f = (f.0, each_of_all Fits (seen ++ tt ∷ []) xs f.1)

module _ {X E : Type 0} {encode : X → Text} {Fits : X → Type 0} {read : Reading X E}
    (form : IsForm encode Fits Anything read) (some : (x : X) → Fits x → 0 < length (encode x))
  where
    keyed_form : IsForm (flat_map encode)
        (FitsEach no_key (λ (keys : List (Unit {0})). Fits) []) Nothing
        (λ a. keyed read (length a.rest) [] a)
    keyed_form = each_form no_key (λ keys. form) (λ keys. some) []

    -- Values up to the end, each encoded by at least one byte and with an end of its own.
    pub many_form : IsForm (flat_map encode) (AllByRecursion Fits) Nothing (up_to_end read)
    many_form = record {
      takes = λ a xs b h e.
          let t = keyed_form.takes a xs b h (sym (many_is read (length a.rest) [] a) ∙ e) in
          (t.0, all_of_each Fits [] xs t.1);
      again = λ xs p rest f q.
          many_is read (length (flat_map encode xs ++ rest)) []
          (record { place = p; rest = flat_map encode xs ++ rest })
          ∙ keyed_form.again xs p rest (each_of_all Fits [] xs f) q;
    }

    -- Such a list takes all that is left.
    pub up_to_end_drains : (a : At) (xs : List X) (b : At) → IsBytes a.rest
        → up_to_end read a ≡ Ok (xs, b) → b.rest ≡ []
    up_to_end_drains a xs b h e =
        each_drains no_key (λ keys. form) (λ keys. some) [] a xs b h
        (sym (many_is read (length a.rest) [] a) ∙ e)
