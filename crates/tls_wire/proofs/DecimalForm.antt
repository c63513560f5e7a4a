-- Numbers in decimal, and numbers with dots between them.
use Rattle.std.proofs.Common.{◌≡◌, ◌≢◌, ℕ, zero, suc, ◌+◌, ◌^◌, ◌<◌, ◌≤◌, true, List}
use Rattle.std.proofs.Common.{[], ◌∷◌, ◌++◌, length, drop, Result, Ok, Err, refl, sym, ap, subst}
use Rattle.std.proofs.Common.{◌∙◌, arith, inl, inr, ne_eqb, eqb-true}
use Rattle.std.proofs.Common.{leb-false, decimal, flat_map}
use Rattle.std.specs.Prelude.{if◌then◌else◌, ◌==◌, nat_le, not}
use Rattle.std.specs.Char.{is_ascii_digit}
use Rattle.std.specs.List.{AllByRecursion, take_while}
use Rattle.std.specs.Str.{all_ascii_digits}
use Rattle.std.specs.Str.Parse.{digits_value}
use Rattle.std.proofs.lemmas.Bool.{lt-leb, and_parts, not-false}
use Rattle.std.proofs.lemmas.Fmt.{decimal_nonempty}
use Rattle.std.proofs.lemmas.List.{length-append, length-take-le, drop_at, nil_from_length}
use Rattle.std.proofs.lemmas.List.Sums.{prefix_len-le-length, take_while-cons}
use Rattle.byte_formats.specs.Types.{Text}
use Rattle.byte_formats.specs.Offsets.{At, IsBytes, at, after, begins_with}
use Rattle.byte_formats.specs.Readings.{◌>>=◌}
use Rattle.byte_formats.specs.Lists.{many_at, up_to_end}
use Rattle.byte_formats.specs.Forms.{Stands}
use Rattle.byte_formats.proofs.Steps.{bind_ok, guard_ok, pass_ok, chosen, ok_is, IsBytes-drop}
use Rattle.byte_formats.proofs.Steps.{Stands-prefix}
use Rattle.tls_wire.specs.declared.fault.AnchorError.{AnchorError}
use Rattle.tls_wire.specs.declared.fault.AnchorError.TheVariants.{NotDecimal, LeadingZero}
use Rattle.tls_wire.specs.declared.fault.AnchorError.TheVariants.{ArcTooLarge}
use Rattle.tls_wire.specs.Arcs.{arc, IsArc, dot_decimal, dotted}
use Rattle.tls_wire.specs.Decimal.{is_decimal}
use Rattle.tls_wire.specs.Anchors.{ends_number, decimal_of, decimal_at, dot_decimal_at, arcs_in}
use Rattle.tls_wire.proofs.Decimals.{decimal_is, decimal_digits, decimal_value, decimal_in_form}

-- ---- a number

-- A number that was read, and what ends it.
record IsNumber (a : At) (m : ℕ) (b : At) : Type 0 where
  stands : Stands a (decimal m) b
  small : IsArc m

decimal_takes : (a : At) (m : ℕ) (b : At) → IsBytes a.rest → decimal_at a ≡ Ok (m, b)
    → IsNumber a m b
unfolding decimal_at
decimal_takes a m b h e =
    let digits : Text = take_while is_ascii_digit a.rest in
    let value : ℕ = digits_value 10 digits in
    let end : Result (ℕ × At) AnchorError = Ok (value, after (length digits) a) in
    let ended : Result (ℕ × At) AnchorError = if ends_number (drop (length digits) a.rest) then end
    else Err (NotDecimal (a.place + length digits)) in
    let fits : Result (ℕ × At) AnchorError = if nat_le (2 ^ 64) value then Err (ArcTooLarge a.place)
    else ended in
    let plain : Result (ℕ × At) AnchorError = if not (is_decimal digits) then
    Err (LeadingZero a.place) else fits in
    let some = guard_ok (length digits == 0) (NotDecimal a.place) plain (m, b) e in
    let form = guard_ok (not (is_decimal digits)) (LeadingZero a.place) fits (m, b) some.1 in
    let small = guard_ok (nat_le (2 ^ 64) value) (ArcTooLarge a.place) ended (m, b) form.1 in
    let last = pass_ok (ends_number (drop (length digits) a.rest)) end
    (NotDecimal (a.place + length digits)) (m, b) small.1 in
    let less : value < 2 ^ 64 = leb-false _ _ small.0 in
    let in_form = not-false (is_decimal digits) form.0 in
    let same : decimal value ≡ digits = decimal_is digits in_form less in
    let within = prefix_len-le-length is_ascii_digit a.rest in
    let P : ℕ × At → Type 0 = λ v. IsNumber a v.0 v.1 in
    subst P (ok_is AnchorError (value, after (length digits) a) (m, b) last.1) (record {
      stands = rw (same, length-take-le _ a.rest within) (Stands-prefix a _ within h);
      small = less;
    })

digits_read : (digits rest : Text) → all_ascii_digits digits ≡ true → ends_number rest ≡ true
    → take_while is_ascii_digit (digits ++ rest) ≡ digits
digits_read [] [] all ends = refl
digits_read [] (c ∷ rest) all ends = rw (eqb-true c 46 ends) refl
digits_read (c ∷ digits) rest all ends =
    let parts = and_parts (is_ascii_digit c) (all_ascii_digits digits) all in
    take_while-cons is_ascii_digit c (digits ++ rest)
    ∙ rw parts.0 (ap (λ (t : Text). c ∷ t) (digits_read digits rest parts.1 ends))

decimal_again : (n place : ℕ) (rest : Text) → IsArc n → ends_number rest ≡ true
    → decimal_at (record { place = place; rest = decimal n ++ rest }) ≡ Ok (
      n,
      record {
        place =
            place + length (decimal n);
        rest = rest;
      },
    )
unfolding decimal_at
decimal_again n place rest small ends =
    let digits = digits_read (decimal n) rest (decimal_digits n small) ends in
    let other : length (decimal n) ≢ 0 = omega (arith, decimal_nonempty n small) in
    ap (λ (t : Text). decimal_of t (record { place = place; rest = decimal n ++ rest })) digits
    ∙ rw (
      ne_eqb (length (decimal n)) 0 other,
      decimal_in_form n small,
      decimal_value n small,
      lt-leb (2 ^ 64) n small,
      drop_at (decimal n) rest (length (decimal n)) refl,
      ends,
    ) refl

-- ---- numbers after dots

dot_first : (rest : Text) → begins_with 46 rest ≡ true → rest ≡ 46 ∷ drop 1 rest
dot_first [] dot = absurd cc
dot_first (c ∷ rest) dot = ap (λ (x : ℕ). x ∷ rest) (eqb-true c 46 dot)

-- These numbers, each after a dot, are all of the text.
record AreDots (text : Text) (ns : List ℕ) : Type 0 where
  encoded : text ≡ flat_map dot_decimal ns
  small : AllByRecursion IsArc ns

abbrev none_read : At → Result (List ℕ × At) AnchorError
none_read a = Ok ([], a)

no_dots : (a b : At) (ns : List ℕ) → length a.rest ≡ 0 → none_read a ≡ Ok (ns, b)
    → AreDots a.rest ns
no_dots a b ns none e =
    let P : List ℕ × At → Type 0 = λ v. AreDots a.rest v.0 in
    subst P (ok_is AnchorError ([], a) (ns, b) e) (record {
      encoded = nil_from_length a.rest none;
      small = tt;
    })

dots_take : (fuel : ℕ) (a : At) (ns : List ℕ) (b : At) → IsBytes a.rest → length a.rest ≤ fuel
    → many_at dot_decimal_at fuel a ≡ Ok (ns, b) → AreDots a.rest ns
unfolding many_at dot_decimal_at
dots_take zero a ns b h le e = no_dots a b ns (omega arith) e
dots_take (suc fuel) a ns b h le e =
    let others : ℕ × At → Result (List ℕ × At) AnchorError = λ n.
    many_at dot_decimal_at fuel n.1 >>= λ (ms : List ℕ × At). Ok (n.0 ∷ ms.0, ms.1) in
    elim (chosen (length a.rest == 0) (Ok ([], a)) (dot_decimal_at a >>= others) (Ok (ns, b)) e) [
      | inl t ↦ no_dots a b ns (eqb-true (length a.rest) 0 t.0) t.1
      | inr t ↦
          let one = bind_ok (dot_decimal_at a) others (ns, b) t.1 in
          let n : ℕ = one.0.0 in
          let dot = pass_ok (begins_with 46 a.rest) (decimal_at (after 1 a)) (NotDecimal a.place)
          one.0 one.1 in
          let number = decimal_takes (after 1 a) n one.0.1 (IsBytes-drop 1 a.rest h) dot.1 in
          let first = dot_first a.rest dot.0 in
          let text : a.rest ≡ dot_decimal n ++ one.0.1.rest = first
          ∙ ap (λ (t : Text). 46 ∷ t) number.stands.parts in
          let all : length a.rest ≡ suc (length (drop 1 a.rest)) = ap length first in
          let count : length (drop 1 a.rest) ≡ length (decimal n) + length one.0.1.rest =
          ap length number.stands.parts ∙ length-append (decimal n) one.0.1.rest in
          let two = bind_ok (many_at dot_decimal_at fuel one.0.1)
          (λ (ms : List ℕ × At). Ok (n ∷ ms.0, ms.1)) (ns, b) one.2 in
          let more = dots_take fuel one.0.1 two.0.0 two.0.1 number.stands.bytes (omega arith)
          two.1 in
          let P : List ℕ × At → Type 0 = λ v. AreDots a.rest v.0 in
          subst P (ok_is AnchorError (n ∷ two.0.0, two.0.1) (ns, b) two.2) (record {
            encoded = text ∙ ap (λ (t : Text). dot_decimal n ++ t) more.encoded;
            small = (number.small, more.small);
          })
    ]

dots_end : (ns : List ℕ) → ends_number (flat_map dot_decimal ns) ≡ true
dots_end [] = refl
dots_end (n ∷ ns) = refl

dots_again : (ns : List ℕ) (fuel place : ℕ) → AllByRecursion IsArc ns
    → length (flat_map dot_decimal ns) ≤ fuel → (end : At)
    × (many_at dot_decimal_at fuel (record { place = place; rest = flat_map dot_decimal ns })
    ≡ Ok (ns, end))
unfolding many_at dot_decimal_at
dots_again [] zero place small le = (_, refl)
dots_again [] (suc fuel) place small le = (_, refl)
dots_again (n ∷ ns) zero place small le = absurd (omega arith)
dots_again (n ∷ ns) (suc fuel) place small le =
    let one = decimal_again n (place + 1) (flat_map dot_decimal ns) small.0 (dots_end ns) in
    let count = length-append (dot_decimal n) (flat_map dot_decimal ns) in
    let others = dots_again ns fuel (place + 1 + length (decimal n)) small.1 (omega arith) in
    let other : length (flat_map dot_decimal (n ∷ ns)) ≢ 0 = omega arith in
    (others.0, rw (ne_eqb (length (flat_map dot_decimal (n ∷ ns))) 0 other, one, others.1) refl)

-- ---- numbers with dots between them

pub record AreNumbers (text : Text) (ns : List ℕ) : Type 0 where
  pub encoded : text ≡ dotted ns
  pub small : AllByRecursion IsArc ns
  pub some : 0 < length ns

-- The arcs of a text, and its numbers.
pub arcs_in_takes : (text bytes : Text) → IsBytes text → arcs_in text ≡ Ok bytes → (ns : List ℕ)
    × AreNumbers text ns × (bytes ≡ flat_map arc ns)
unfolding arcs_in
arcs_in_takes text bytes h e =
    let one = bind_ok (decimal_at (at text 0)) (λ (n : ℕ × At).
    up_to_end dot_decimal_at n.1 >>= λ (ns : List ℕ × At). Ok (flat_map arc (n.0 ∷ ns.0))) bytes e
    in
    let n : ℕ = one.0.0 in
    let two = bind_ok (up_to_end dot_decimal_at one.0.1)
    (λ (ns : List ℕ × At). Ok (flat_map arc (n ∷ ns.0))) bytes one.2 in
    let first = decimal_takes (at text 0) n one.0.1 h one.1 in
    let others = dots_take (length one.0.1.rest) one.0.1 two.0.0 two.0.1 first.stands.bytes
    (omega arith) two.1 in (
      n ∷ two.0.0,
      record {
        encoded = first.stands.parts ∙ ap (λ (t : Text). decimal n ++ t) others.encoded;
        small = (first.small, others.small);
        some = omega arith;
      },
      sym (ok_is AnchorError (flat_map arc (n ∷ two.0.0)) bytes two.2),
    )

pub arcs_in_again : (ns : List ℕ) → AllByRecursion IsArc ns → 0 < length ns
    → arcs_in (dotted ns) ≡ Ok (flat_map arc ns)
unfolding arcs_in
arcs_in_again [] small some = absurd (omega arith)
arcs_in_again (n ∷ ns) small some =
    let others = dots_again ns (length (flat_map dot_decimal ns)) (0 + length (decimal n)) small.1
    (omega arith) in
    rw (decimal_again n 0 (flat_map dot_decimal ns) small.0 (dots_end ns), others.1) refl
