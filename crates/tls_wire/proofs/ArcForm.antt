-- Arcs as a form.
use Rattle.std.proofs.Common.{◌≡◌, ◌≢◌, ℕ, zero, suc, ◌+◌, ◌*◌, ◌/◌, ◌%◌, ◌^◌, ◌<◌, ◌≤◌, true}
use Rattle.std.proofs.Common.{false, List, [], ◌∷◌, ◌++◌, length, map, get_or, take, drop, Result}
use Rattle.std.proofs.Common.{Ok, Err, refl, sym, ap, subst, ◌∙◌, append_assoc, arith, ne_eqb, Bool}
use Rattle.std.proofs.Common.{leb-true, leb-false, le-leb, le-ltb, mod-lt, mod-eq_of_lt}
use Rattle.std.proofs.Common.{div-add-mod'}
use Rattle.std.specs.Prelude.{if◌then◌else◌, cond, nat_le, nat_lt, ◌==◌, Some, None}
use Rattle.std.specs.List.{flat_map, AllByRecursion, take_while}
use Rattle.std.specs.Int.Digits.{digits_of, number_from_digits, number_from_digits_after}
use Rattle.std.specs.Int.Digits.{AllBelowBase}
use Rattle.std.proofs.lemmas.Bool.{lt-leb, eqb-false}
use Rattle.std.proofs.lemmas.Nat.{div-mul-add, mod-mul-add}
use Rattle.std.proofs.lemmas.List.{length-append, length-map, length-take, map_push, take_more}
use Rattle.std.proofs.lemmas.List.{take_at, drop_at}
use Rattle.std.proofs.lemmas.List.Sums.{prefix_len-le-length, prefix_len_stops}
use Rattle.std.proofs.lemmas.List.Sums.{take_while-cons}
use Rattle.std.proofs.lemmas.Int.Digits.{digits_of_step, first_digits_of, all_below_base_digits_of}
use Rattle.std.proofs.lemmas.Int.Digits.{number_digits_of, number_push, number_after_ge}
use Rattle.byte_formats.specs.Types.{Text}
use Rattle.byte_formats.specs.Offsets.{At, IsBytes, after, begins_with}
use Rattle.byte_formats.specs.Forms.{Stands, IsForm, Anything, Nothing}
use Rattle.byte_formats.specs.Lists.{up_to_end}
use Rattle.byte_formats.proofs.Steps.{guard_ok, ok_is, IsBytes-rest, Stands-prefix}
use Rattle.byte_formats.proofs.FormLists.{many_form}
use Rattle.tls_wire.specs.declared.fault.AnchorBytesError.{AnchorBytesError}
use Rattle.tls_wire.specs.declared.fault.AnchorBytesError.TheVariants.{Padding, ArcTooLarge}
use Rattle.tls_wire.specs.declared.fault.AnchorBytesError.TheVariants.{Unfinished}
use Rattle.tls_wire.specs.Arcs.{high_digits, arc, IsArc}
use Rattle.tls_wire.specs.Anchors.{high_count, base_128, arc_of, arc_at}
use Rattle.tls_wire.proofs.Digits.{digits_grow}

abbrev high : ℕ → ℕ
high d = 128 + d

abbrev low : ℕ → ℕ
low b = b % 128

pub high_digits_more : (n : ℕ) → n ≢ 0 → high_digits n ≡ high_digits (n / 128)
    ++ ((128 + n % 128) ∷ [])
high_digits_more n some =
    ap (map high) (digits_of_step 128 n (omega arith) (omega arith))
    ∙ map_push high (digits_of 128 (n / 128)) (n % 128)

-- ---- bytes that are read are the encoding

-- Bytes with the highest bit set are digits.
record AreHigh (bytes : Text) : Type 0 where
  same : map high (map low bytes) ≡ bytes
  below : AllBelowBase 128 (map low bytes)

high_prefix : (bytes : Text) → IsBytes bytes → AreHigh (take_while (λ b. nat_le 128 b) bytes)
high_prefix [] h = record { same = refl; below = tt }
high_prefix (b ∷ bytes) h = subst AreHigh (sym (take_while-cons (λ c. nat_le 128 c) b bytes))
    (go (high_prefix bytes (IsBytes-rest b bytes h)) (nat_le 128 b) refl)
  where
    go : AreHigh (take_while (λ c. nat_le 128 c) bytes) → (test : Bool) → nat_le 128 b ≡ test
        → AreHigh (cond (nat_le 128 b) (b ∷ take_while (λ c. nat_le 128 c) bytes) [])
    go others true e =
        let byte : b < 256 = h 0 in
        let least : 128 ≤ b = leb-true 128 b e in
        let digit : 128 + b % 128 ≡ b = omega arith in
        rw e (record {
          same = ap (λ (c : ℕ). c ∷ map high (map low (take_while (λ k. nat_le 128 k) bytes))) digit
              ∙ ap (λ (t : Text). b ∷ t) others.same;
          below = (mod-lt b (omega arith), others.below);
        })
    go others false e = rw e (record { same = refl; below = tt })

no_zero : (bytes : Text) → begins_with 128 bytes ≡ false → AreHigh bytes
    → 0 < length (map low bytes) → 0 < get_or (map low bytes) 0 0
no_zero [] plain are some = absurd (omega arith)
no_zero (b ∷ bytes) plain are some =
    let other : b ≢ 128 = eqb-false b 128 plain in
    let first : 128 + b % 128 ≡ b = ap (λ (t : Text). get_or t 0 0) are.same in
    omega arith

-- Digits with the highest bit set and a last one, which don't begin with a digit of 0, are the arc
-- of their number.
arc_is : (bytes : Text) (l : ℕ) → begins_with 128 bytes ≡ false → AreHigh bytes → l < 128
    → arc (base_128 (bytes ++ (l ∷ []))) ≡ bytes ++ (l ∷ [])
unfolding arc
arc_is bytes l plain are digit =
    let ds : List ℕ = map low bytes in
    let n : ℕ = number_from_digits 128 ds in
    let some = no_zero bytes plain are in
    let number : base_128 (bytes ++ (l ∷ [])) ≡ n * 128 + l =
    ap (number_from_digits 128) (map_push low bytes l)
    ∙ (number_push 128 ds (l % 128) ∙ ap (λ (k : ℕ). n * 128 + k) (mod-eq_of_lt digit)) in
    let digits_are : high_digits n ≡ bytes =
    ap (map high) (digits_grow 128 0 ds (omega arith) (λ long. omega (arith, some long)) are.below)
    ∙ are.same in
    rw (number, div-mul-add n 128 l digit, mod-mul-add n 128 l digit, digits_are) refl

arc_takes : (a : At) (m : ℕ) (b : At) → IsBytes a.rest → arc_at a ≡ Ok (m, b)
    → Stands a (arc m) b × IsArc m
unfolding arc_at
arc_takes a m b h e =
    let count : ℕ = high_count a.rest in
    let bytes : Text = take (count + 1) a.rest in
    let end : Result (ℕ × At) AnchorBytesError = Ok (base_128 bytes, after (length bytes) a) in
    let finished : Result (ℕ × At) AnchorBytesError = if length bytes == count then Err Unfinished
    else end in
    let small : Result (ℕ × At) AnchorBytesError = if nat_le (2 ^ 64) (base_128 bytes) then
    Err (ArcTooLarge a.place) else finished in
    let g = guard_ok (begins_with 128 a.rest) (Padding a.place) small (m, b) e in
    let s = guard_ok (nat_le (2 ^ 64) (base_128 bytes)) (ArcTooLarge a.place) finished (m, b) g.1 in
    let f = guard_ok (length bytes == count) Unfinished end (m, b) s.1 in
    let other : length bytes ≢ count = eqb-false (length bytes) count f.0 in
    let within = prefix_len-le-length (λ (c : ℕ). nat_le 128 c) a.rest in
    let less : count < length a.rest = omega (arith, length-take (count + 1) a.rest) in
    let long : length bytes ≡ count + 1 = omega (arith, length-take (count + 1) a.rest) in
    let last : ℕ = get_or a.rest count 0 in
    let digit : last < 128 = leb-false 128 last (prefix_len_stops (λ (c : ℕ). nat_le 128 c) a.rest 0
    less) in
    let parts : bytes ≡ take count a.rest ++ (last ∷ []) = take_more a.rest count 0 less in
    let are = high_prefix a.rest h in
    let same : arc (base_128 bytes) ≡ bytes = ap (λ (t : Text). arc (base_128 t)) parts
    ∙ (arc_is (take count a.rest) last (plain a.rest count g.0) are digit ∙ sym parts) in
    let P : ℕ × At → Type 0 = λ v. Stands a (arc v.0) v.1 × IsArc v.0 in
    subst P (ok_is AnchorBytesError (base_128 bytes, after (length bytes) a) (m, b) f.1)
    (rw (same, long) (Stands-prefix a (count + 1) (omega arith) h), leb-false _ _ s.0)
  where
    plain : (bytes : Text) (n : ℕ) → begins_with 128 bytes ≡ false
        → begins_with 128 (take n bytes) ≡ false
    plain bytes zero e = refl
    plain [] (suc n) e = refl
    plain (b ∷ bytes) (suc n) e = e

-- So large a number with a digit to come doesn't fit.
pub number_large : (n : ℕ) (rest : Text) (total : ℕ) → 2 ^ 57 ≤ n → 0 < length rest
    → number_from_digits_after 128 n (map low rest) ≡ total
    → None ≡ (if nat_lt total (2 ^ 64) then Some total else None)
number_large n [] total large some so_far = absurd (omega arith)
number_large n (b ∷ rest) total large some so_far =
    let least = number_after_ge 128 (n * 128 + b % 128) (map low rest) (omega arith) in
    rw (le-ltb total (2 ^ 64) (omega (arith, least, so_far))) refl

-- ---- each encoding is read again

-- Digits one after the other, all but the last with the highest bit set.
high_read : (ds : List ℕ) (l : ℕ) (rest : Text) → AllBelowBase 128 ds → l < 128
    → high_count (map high ds ++ (l ∷ rest)) ≡ length ds
high_read [] l rest below digit = rw (lt-leb 128 l digit) refl
high_read (d ∷ ds) l rest below digit =
    let set : nat_le 128 (128 + d) ≡ true = le-leb 128 (128 + d) (omega arith) in
    rw set (omega (arith, high_read ds l rest below.1 digit))

low_high : (ds : List ℕ) → AllBelowBase 128 ds → map low (map high ds) ≡ ds
low_high [] below = refl
low_high (d ∷ ds) below =
    let digit : (128 + d) % 128 ≡ d = omega (arith, below.0) in
    rw digit (ap (λ (t : List ℕ). d ∷ t) (low_high ds below.1))

arc_number : (m : ℕ) → base_128 (arc m) ≡ m
unfolding arc
arc_number m =
    let ds : List ℕ = digits_of 128 (m / 128) in
    let digit : m % 128 < 128 = mod-lt m (omega arith) in
    let digits = low_high ds (all_below_base_digits_of 128 (m / 128) (omega arith)) in
    let number = number_digits_of 128 (m / 128) (omega arith) in
    ap (number_from_digits 128) (map_push low (map high ds) (m % 128))
    ∙ (number_push 128 (map low (map high ds)) (m % 128 % 128)
    ∙ rw (digits, number, mod-eq_of_lt digit) (div-add-mod' m 128))

-- An arc doesn't begin with a digit of 0.
arc_plain : (m : ℕ) (rest : Text) → begins_with 128 (arc m ++ rest) ≡ false
unfolding arc
arc_plain m rest = go (digits_of 128 (m / 128)) (λ some. first_digits_of 128 (m / 128) (omega arith)
    (positive (m / 128) some))
  where
    positive : (n : ℕ) → 0 < length (digits_of 128 n) → 0 < n
    positive zero some = absurd (omega arith)
    positive (suc n) some = omega arith

    go : (ds : List ℕ) → (0 < length ds → 0 < get_or ds 0 0)
        → begins_with 128 ((map high ds ++ (m % 128 ∷ [])) ++ rest) ≡ false
    go [] first =
        let digit : m % 128 < 128 = mod-lt m (omega arith) in
        let other : m % 128 ≢ 128 = omega arith in
        ne_eqb (m % 128) 128 other
    go (d ∷ ds) first =
        let some : 0 < d = first (omega arith) in
        let other : 128 + d ≢ 128 = omega arith in
        ne_eqb (128 + d) 128 other

arc_count : (m : ℕ) (rest : Text) → high_count (arc m ++ rest) + 1 ≡ length (arc m)
unfolding arc
arc_count m rest =
    let ds : List ℕ = digits_of 128 (m / 128) in
    let digit : m % 128 < 128 = mod-lt m (omega arith) in
    let text = append_assoc (map high ds) (m % 128 ∷ []) rest in
    let count = high_read ds (m % 128) rest (all_below_base_digits_of 128 (m / 128) (omega arith))
    digit in
    omega (
      arith,
      ap high_count text,
      count,
      length-append (map high ds) (m % 128 ∷ []),
      length-map ds high,
    )

arc_again : (m place : ℕ) (rest : Text) → IsArc m
    → arc_at (record { place = place; rest = arc m ++ rest }) ≡ Ok (
      m,
      record {
        place =
            place + length (arc m);
        rest = rest;
      },
    )
unfolding arc_at
arc_again m place rest small =
    let count = arc_count m rest in
    let a : At = record { place = place; rest = arc m ++ rest } in
    let bytes : take (high_count (arc m ++ rest) + 1) (arc m ++ rest) ≡ arc m =
    take_at (arc m) rest (high_count (arc m ++ rest) + 1) (sym count) in
    let other : length (arc m) ≢ high_count (arc m ++ rest) = omega arith in
    let following : drop (length (arc m)) (arc m ++ rest) ≡ rest = drop_at (arc m) rest
    (length (arc m)) refl in
    ap (λ (t : Text). arc_of t a) bytes
    ∙ rw (
      arc_plain m rest,
      arc_number m,
      lt-leb (2 ^ 64) m small,
      ne_eqb (length (arc m)) (high_count (arc m ++ rest)) other,
      following,
    ) refl

pub arc_form : IsForm arc IsArc Anything arc_at
arc_form = record { takes = arc_takes; again = λ n place rest f q. arc_again n place rest f }

pub arc_some : (n : ℕ) → IsArc n → 0 < length (arc n)
unfolding arc
arc_some n small = omega (arith, length-append (high_digits (n / 128)) (n % 128 ∷ []))

-- Arcs one after the other.
pub arcs_form : IsForm (flat_map arc) (AllByRecursion IsArc) Nothing (up_to_end arc_at)
arcs_form = many_form arc_form arc_some

-- One digit more after the others.
pub digits_put : (old mid new : List ℕ) (n : ℕ) → n ≢ 0 → mid ≡ old ++ high_digits (n / 128)
    → new ≡ mid ++ ((128 + n % 128) ∷ []) → new ≡ old ++ high_digits n
digits_put old mid new n some prefix end =
    end ∙ (rw prefix (append_assoc old (high_digits (n / 128)) ((128 + n % 128) ∷ []))
    ∙ ap (λ (t : List ℕ). old ++ t) (sym (high_digits_more n some)))
