-- A text is read without storing its arcs: their number of bytes is enough.
use Rattle.std.proofs.Common.{◌≡◌, ◌≢◌, ℕ, zero, suc, ◌+◌, ◌*◌, ◌/◌, ◌%◌, ◌^◌, ◌<◌, ◌≤◌, Bool, true}
use Rattle.std.proofs.Common.{false, List, [], ◌∷◌, ◌++◌, length, Result, Ok, Err, IfOk, refl, sym}
use Rattle.std.proofs.Common.{ap, ◌∙◌, arith, lt-ltb, le-ltb, ne_eqb, flat_map, decimal}
use Rattle.std.specs.Prelude.{if◌then◌else◌, nat_lt}
use Rattle.std.specs.List.{AllByRecursion}
use Rattle.std.proofs.lemmas.List.{length-append}
use Rattle.std.proofs.lemmas.Fmt.{length-decimal-le}
use Rattle.byte_formats.specs.Types.{Text}
use Rattle.byte_formats.specs.Offsets.{At, at}
use Rattle.byte_formats.specs.Readings.{◌>>=◌, is_read}
use Rattle.byte_formats.specs.Lists.{many_at}
use Rattle.tls_wire.specs.declared.fault.AnchorError.{AnchorError}
use Rattle.tls_wire.specs.declared.fault.AnchorError.TheVariants.{TooLong}
use Rattle.tls_wire.specs.Arcs.{high_digits, arc, IsArc, dot_decimal, dotted, IsAnchorId}
use Rattle.tls_wire.specs.Anchors.{decimal_at, dot_decimal_at, arcs_in, anchor_text}
use Rattle.tls_wire.specs.Anchors.{is_anchor_text, text_of}
use Rattle.tls_wire.proofs.ArcForm.{high_digits_more, arc_some}
use Rattle.tls_wire.proofs.AnchorForm.{text_of_id}
use Rattle.tls_wire.proofs.TextLoops.{NumbersLeft, with_bytes, numbers_from, numbers_fail}
use Rattle.tls_wire.proofs.TextLoops.{numbers_end, numbers_more}

-- ---- the bytes of an arc

-- So many bytes, and the digits that are left, make the arc.
pub record Counted (total count high : ℕ) : Type 0 where
  pub whole : count + length (high_digits high) ≡ total
  pub small : count + high ≤ 2 ^ 57 + 1

pub counted_from : (n : ℕ) → n < 2 ^ 64 → Counted (length (arc n)) 1 (n / 128)
unfolding arc
counted_from n lt = record {
  whole =
      omega (arith, length-append (high_digits (n / 128)) (n % 128 ∷ []));
  small = omega arith;
}

pub counted_more : (total count high : ℕ) → 0 < high → Counted total count high
    → Counted total (count + 1) (high / 128)
counted_more total count high pos c =
    let more : length (high_digits high) ≡ length (high_digits (high / 128)) + 1 =
    ap length (high_digits_more high (omega arith))
    ∙ length-append (high_digits (high / 128)) ((128 + high % 128) ∷ []) in
    record { whole = omega (arith, c.whole, more); small = omega (arith, c.small) }

pub counted_end : (total count high : ℕ) → high ≤ 0 → Counted total count high → count ≡ total
counted_end total count zero le c = let none : length (high_digits 0) ≡ 0 =
    refl in omega (arith, c.whole, none)
counted_end total count (suc n) le c = absurd (omega arith)

-- ---- the numbers of a text

-- The arcs so far have so many bytes.
pub record CountLeft (text : Text) (count : ℕ) (a : At) : Type 0 where
  pub bytes : Text
  pub left : NumbersLeft (arcs_in text) bytes a
  pub same : length bytes ≡ count

-- An answer of so many bytes at most.
fits : Result Text AnchorError → Bool
fits (Ok bytes) = if nat_lt 255 (length bytes) then false else true
fits (Err e) = false

text_says : (text : Text) → is_anchor_text text ≡ fits (arcs_in text)
unfolding anchor_text arcs_in decimal_at fits
text_says [] = refl
text_says (c ∷ text) = let other : length (c ∷ text) ≢ 0 = omega arith in
    rw (ne_eqb (length (c ∷ text)) 0 other) (go (arcs_in (c ∷ text)))
  where
    test : (b : Bool) (bytes : Text) → is_read (if b then Err TooLong else Ok bytes)
        ≡ (if b then false else true)
    test true bytes = refl
    test false bytes = refl

    go : (r : Result Text AnchorError)
        → is_read (r >>= λ (bytes : Text). if nat_lt 255 (length bytes) then Err TooLong
        else Ok bytes) ≡ fits r
    go (Ok bytes) = test (nat_lt 255 (length bytes)) bytes
    go (Err e) = refl

-- A number doesn't read.
pub none_counted : (text : Text) (e : AnchorError) → arcs_in text ≡ Err e
    → false ≡ is_anchor_text text
unfolding fits
none_counted text e fails = sym (text_says text ∙ rw fails refl)

pub count_fails : (text : Text) (count : ℕ) (a : At) (e : AnchorError) → dot_decimal_at a ≡ Err e
    → length a.rest ≢ 0 → CountLeft text count a → false ≡ is_anchor_text text
count_fails text count a e step some c =
    none_counted text e (numbers_fail (arcs_in text) c.bytes a e step some c.left)

-- Too many bytes.
pub count_large : (text : Text) (count : ℕ) (a : At) → 255 < count → CountLeft text count a
    → false ≡ is_anchor_text text
unfolding fits
count_large text count a large c =
    sym (text_says text ∙ (ap fits (sym c.left.rest)
    ∙ go (many_at dot_decimal_at c.left.fuel a)))
  where
    go : (r : Result (List ℕ × At) AnchorError) → fits (with_bytes c.bytes r) ≡ false
    go (Err e) = refl
    go (Ok ns) =
        let all : 255 < length (c.bytes ++ flat_map arc ns.0) =
        omega (arith, length-append c.bytes (flat_map arc ns.0), c.same) in
        rw (lt-ltb 255 (length (c.bytes ++ flat_map arc ns.0)) all) refl

-- No number is left.
pub count_end : (text : Text) (count : ℕ) (a : At) → count ≤ 255 → length a.rest ≡ 0
    → CountLeft text count a → true ≡ is_anchor_text text
unfolding fits
count_end text count a few none c =
    let size : length c.bytes ≤ 255 = omega (arith, c.same) in
    sym (text_says text ∙ rw (
      numbers_end (arcs_in text) c.bytes a none c.left,
      le-ltb 255 (length c.bytes) size,
    ) refl)

pub count_from : (text : Text) (n : ℕ) (a : At) → decimal_at (at text 0) ≡ Ok (n, a)
    → CountLeft text (length (arc n)) a
count_from text n a step = record {
  bytes = arc n;
  left = numbers_from text n a step;
  same = refl;
}

-- Another number.
pub count_more : (text : Text) (count : ℕ) (a : At) (n : ℕ) (b : At)
    → dot_decimal_at a ≡ Ok (n, b) → length b.rest < length a.rest → CountLeft text count a
    → CountLeft text (count + length (arc n)) b
count_more text count a n b step less c = record {
  bytes = c.bytes ++ arc n;
  left = numbers_more (arcs_in text) c.bytes a n b step less c.left;
  same = omega (arith, length-append c.bytes (arc n), c.same);
}

-- ---- how long the text of an anchor id is

dots-short : (ns : List ℕ) → AllByRecursion IsArc ns
    → length (flat_map dot_decimal ns) ≤ 21 * length ns
dots-short [] f = omega arith
dots-short (n ∷ ns) f =
    let one : length (decimal n) ≤ 20 = length-decimal-le 20 n (omega arith) (omega arith) f.0 in
    let others = dots-short ns f.1 in
    omega (arith, one, others, length-append (dot_decimal n) (flat_map dot_decimal ns))

dotted-short : (ns : List ℕ) → AllByRecursion IsArc ns → length (dotted ns) ≤ 21 * length ns
dotted-short [] f = omega arith
dotted-short (n ∷ ns) f =
    let one : length (decimal n) ≤ 20 = length-decimal-le 20 n (omega arith) (omega arith) f.0 in
    let others = dots-short ns f.1 in
    omega (arith, one, others, length-append (decimal n) (flat_map dot_decimal ns))

arcs-count : (ns : List ℕ) → AllByRecursion IsArc ns → length ns ≤ length (flat_map arc ns)
arcs-count [] f = omega arith
arcs-count (n ∷ ns) f = omega (
  arith,
  arc_some n f.0,
  arcs-count ns f.1,
  length-append (arc n) (flat_map arc ns),
)

pub text-short : (bytes : List ℕ) → IsAnchorId bytes → length (text_of bytes) ≤ 5355
text-short bytes id =
    omega (
      arith,
      ap length (text_of_id bytes id),
      dotted-short id.arcs id.are_arcs,
      arcs-count id.arcs id.are_arcs,
      ap length id.encoded,
      id.short,
    )

pub short_text : {E : Type 0} (bytes : List ℕ) (r : Result (List ℕ) E) → IsAnchorId bytes
    → IfOk r (λ text. text ≡ text_of bytes) → IfOk r (λ text. length text ≤ 5355)
short_text bytes (Ok text) id same = omega (arith, ap length same, text-short bytes id)
short_text bytes (Err e) id same = tt
