-- The loops between the text of an anchor id and its arcs.
use Rattle.std.proofs.Common.{◌≡◌, ◌≢◌, ℕ, zero, suc, ◌+◌, ◌<◌, ◌≤◌, true, List, [], ◌∷◌}
use Rattle.std.proofs.Common.{◌++◌, length, Result, Ok, Err, refl, sym, ap, ◌∙◌, append_assoc}
use Rattle.std.proofs.Common.{append-nil, arith, ne_eqb, eq-eqb, flat_map, decimal}
use Rattle.std.specs.List.{AllByRecursion}
use Rattle.std.proofs.lemmas.List.{length-append}
use Rattle.byte_formats.specs.Types.{Text}
use Rattle.byte_formats.specs.Offsets.{At, at}
use Rattle.byte_formats.specs.Readings.{◌>>=◌, is_read}
use Rattle.byte_formats.specs.Lists.{many_at}
use Rattle.byte_formats.proofs.Steps.{ok_is}
use Rattle.tls_wire.specs.declared.fault.AnchorError.{AnchorError}
use Rattle.tls_wire.specs.declared.fault.AnchorBytesError.{AnchorBytesError}
use Rattle.tls_wire.specs.Arcs.{arc, IsArc, dot_decimal, dotted, IsAnchorId}
use Rattle.tls_wire.specs.Anchors.{arc_at, decimal_at, dot_decimal_at, arcs_in, text_of}
use Rattle.tls_wire.proofs.ArcForm.{arc_form, arc_some}
use Rattle.tls_wire.proofs.AnchorForm.{text_of_id}

-- ---- from a text to arcs

-- Bytes, and the arcs of the numbers that are read after them.
abbrev pub with_bytes : Text → Result (List ℕ × At) AnchorError → Result Text AnchorError
with_bytes bytes read = read >>= λ ns. Ok (bytes ++ flat_map arc ns.0)

-- The arcs so far and the numbers from here on make the whole.
pub record NumbersLeft (total : Result Text AnchorError) (bytes : Text) (a : At) : Type 0 where
  pub fuel : ℕ
  pub enough : length a.rest ≤ fuel
  pub rest : with_bytes bytes (many_at dot_decimal_at fuel a) ≡ total

pub first_fails : (text : Text) (e : AnchorError) → decimal_at (at text 0) ≡ Err e
    → arcs_in text ≡ Err e
unfolding arcs_in
first_fails text e step = rw step refl

-- The first number was read.
pub numbers_from : (text : Text) (n : ℕ) (a : At) → decimal_at (at text 0) ≡ Ok (n, a)
    → NumbersLeft (arcs_in text) (arc n) a
unfolding arcs_in
numbers_from text n a step = record {
  fuel = length a.rest;
  enough = omega arith;
  rest = rw step refl;
}

with_more : (bytes : Text) (n : ℕ) (r : Result (List ℕ × At) AnchorError)
    → with_bytes bytes (r >>= λ (ns : List ℕ × At). Ok (n ∷ ns.0, ns.1))
    ≡ with_bytes (bytes ++ arc n) r
with_more bytes n (Ok ns) = ap (λ (t : Text). Ok t)
    (sym (append_assoc bytes (arc n) (flat_map arc ns.0)))
with_more bytes n (Err e) = refl

-- Another number, after a dot.
pub numbers_more : (total : Result Text AnchorError) (bytes : Text) (a : At) (n : ℕ) (b : At)
    → dot_decimal_at a ≡ Ok (n, b) → length b.rest < length a.rest → NumbersLeft total bytes a
    → NumbersLeft total (bytes ++ arc n) b
unfolding many_at
numbers_more total bytes a n b step less left = go left.fuel left.enough left.rest
  where
    go : (fuel : ℕ) → length a.rest ≤ fuel
        → with_bytes bytes (many_at dot_decimal_at fuel a) ≡ total
        → NumbersLeft total (bytes ++ arc n) b
    go zero few so_far = absurd (omega arith)
    go (suc fuel) few so_far =
        let some : length a.rest ≢ 0 = omega arith in
        record {
          fuel = fuel;
          enough = omega arith;
          rest = sym (with_more bytes n (many_at dot_decimal_at fuel b))
              ∙ rw (ne_eqb (length a.rest) 0 some, step) at so_far;
        }

-- The next number doesn't read.
pub numbers_fail : (total : Result Text AnchorError) (bytes : Text) (a : At) (e : AnchorError)
    → dot_decimal_at a ≡ Err e → length a.rest ≢ 0 → NumbersLeft total bytes a → total ≡ Err e
unfolding many_at
numbers_fail total bytes a e step some left = go left.fuel left.enough left.rest
  where
    go : (fuel : ℕ) → length a.rest ≤ fuel
        → with_bytes bytes (many_at dot_decimal_at fuel a) ≡ total → total ≡ Err e
    go zero few so_far = absurd (omega arith)
    go (suc fuel) few so_far = sym (rw (ne_eqb (length a.rest) 0 some, step) at so_far)

-- No number is left.
pub numbers_end : (total : Result Text AnchorError) (bytes : Text) (a : At) → length a.rest ≡ 0
    → NumbersLeft total bytes a → total ≡ Ok bytes
unfolding many_at
numbers_end total bytes a none left = sym left.rest ∙ go left.fuel
  where
    go : (fuel : ℕ) → with_bytes bytes (many_at dot_decimal_at fuel a) ≡ Ok bytes
    go zero = ap (λ (t : Text). Ok t) (append-nil bytes)
    go (suc fuel) = rw (eq-eqb (length a.rest) 0 none) (ap (λ (t : Text). Ok t) (append-nil bytes))

-- ---- from arcs to a text

-- The text so far and the arcs from here on make the whole.
pub record ArcsLeft (total text : Text) (a : At) : Type 0 where
  pub arcs : List ℕ
  pub are_arcs : AllByRecursion IsArc arcs
  pub encoded : a.rest ≡ flat_map arc arcs
  pub parts : text ++ flat_map dot_decimal arcs ≡ total

-- The arc that stands first is read.
arc_next : (a : At) (n : ℕ) (rest : Text) → IsArc n → a.rest ≡ arc n ++ rest
    → arc_at a ≡ Ok (n, record { place = a.place + length (arc n); rest = rest })
arc_next a n rest small encoded =
    ap (λ (t : Text). arc_at (record { place = a.place; rest = t })) encoded
    ∙ arc_form.again n a.place rest small tt

same_read : (a : At) (n m : ℕ) (b : At) (rest : Text) → IsArc n → a.rest ≡ arc n ++ rest
    → arc_at a ≡ Ok (m, b) → (n ≡ m) × (rest ≡ b.rest)
same_read a n m b rest small encoded step =
    let same = ok_is AnchorBytesError (n, record { place = a.place + length (arc n); rest = rest })
    (m, b) (sym (arc_next a n rest small encoded) ∙ step) in
    (ap (λ (v : ℕ × At). v.0) same, ap (λ (v : ℕ × At). v.1.rest) same)

read_next : (a : At) (n : ℕ) (rest : Text) → IsArc n → a.rest ≡ arc n ++ rest
    → is_read (arc_at a) ≡ true
read_next a n rest small encoded = ap is_read (arc_next a n rest small encoded)

-- The arcs of an anchor id, of which there is one.
pub record FirstArc (bytes : Text) : Type 0 where
  pub first : ℕ
  pub others : List ℕ
  pub small : IsArc first
  pub are_arcs : AllByRecursion IsArc others
  pub encoded : bytes ≡ arc first ++ flat_map arc others
  pub text : dotted (first ∷ others) ≡ text_of bytes

first_arc : (bytes : Text) → IsAnchorId bytes → FirstArc bytes
first_arc bytes id = go id.arcs id.are_arcs id.encoded (sym (text_of_id bytes id))
  where
    go : (ns : List ℕ) → AllByRecursion IsArc ns → bytes ≡ flat_map arc ns
        → dotted ns ≡ text_of bytes → FirstArc bytes
    go [] are encoded text = absurd (omega (arith, id.some, ap length encoded))
    go (n ∷ ns) are encoded text = record {
      first = n;
      others = ns;
      small = are.0;
      are_arcs = are.1;
      encoded = encoded;
      text = text;
    }

pub first_is_read : (bytes : Text) → IsAnchorId bytes → is_read (arc_at (at bytes 0)) ≡ true
first_is_read bytes id =
    let f = first_arc bytes id in
    read_next (at bytes 0) f.first (flat_map arc f.others) f.small f.encoded

pub arcs_from : (bytes : Text) (n : ℕ) (b : At) → IsAnchorId bytes → arc_at (at bytes 0) ≡ Ok (n, b)
    → ArcsLeft (text_of bytes) (decimal n) b
arcs_from bytes n b id step =
    let f = first_arc bytes id in
    let same = same_read (at bytes 0) f.first n b (flat_map arc f.others) f.small f.encoded step in
    record {
      arcs = f.others;
      are_arcs = f.are_arcs;
      encoded = sym same.1;
      parts = ap (λ (m : ℕ). decimal m ++ flat_map dot_decimal f.others) (sym same.0) ∙ f.text;
    }

pub next_is_read : (total text : Text) (a : At) → length a.rest ≢ 0 → ArcsLeft total text a
    → is_read (arc_at a) ≡ true
next_is_read total text a some left = go left.arcs left.are_arcs left.encoded
  where
    go : (ns : List ℕ) → AllByRecursion IsArc ns → a.rest ≡ flat_map arc ns
        → is_read (arc_at a) ≡ true
    go [] are encoded = absurd (some (ap length encoded))
    go (n ∷ ns) are encoded = read_next a n (flat_map arc ns) are.0 encoded

-- One arc more.
pub arcs_more : (total text : Text) (a : At) (n : ℕ) (b : At) (new : Text) → length a.rest ≢ 0
    → arc_at a ≡ Ok (n, b) → new ≡ text ++ dot_decimal n → ArcsLeft total text a
    → ArcsLeft total new b
arcs_more total text a n b new some step grows left =
    go left.arcs left.are_arcs left.encoded left.parts
  where
    go : (ns : List ℕ) → AllByRecursion IsArc ns → a.rest ≡ flat_map arc ns
        → text ++ flat_map dot_decimal ns ≡ total → ArcsLeft total new b
    go [] are encoded parts = absurd (some (ap length encoded))
    go (m ∷ ns) are encoded parts =
        let same = same_read a m n b (flat_map arc ns) are.0 encoded step in
        record {
          arcs = ns;
          are_arcs = are.1;
          encoded = sym same.1;
          parts = rw (grows, ← same.0) (append_assoc text (dot_decimal m) (flat_map dot_decimal ns)
              ∙ parts);
        }

-- No arc is left.
pub arcs_end : (total text : Text) (a : At) → length a.rest ≡ 0 → ArcsLeft total text a
    → text ≡ total
arcs_end total text a none left = go left.arcs left.are_arcs left.encoded left.parts
  where
    go : (ns : List ℕ) → AllByRecursion IsArc ns → a.rest ≡ flat_map arc ns
        → text ++ flat_map dot_decimal ns ≡ total → text ≡ total
    go [] are encoded parts = sym (append-nil text) ∙ parts
    go (n ∷ ns) are encoded parts = absurd (omega (
      arith,
      arc_some n are.0,
      ap length encoded,
      length-append (arc n) (flat_map arc ns),
    ))
