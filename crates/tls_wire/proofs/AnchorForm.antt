-- Anchor ids: their bytes, and their text both ways.
use Rattle.std.proofs.Common.{◌≡◌, ◌≢◌, ℕ, ◌+◌, ◌<◌, ◌≤◌, false, List, [], ◌∷◌, ◌++◌, length}
use Rattle.std.proofs.Common.{Result, Ok, Err, refl, sym, ap, subst, ◌∙◌, append-nil, arith, eq-eqb}
use Rattle.std.proofs.Common.{ne_eqb, ltb-false, le-ltb, true≢false, flat_map, decimal}
use Rattle.std.specs.Prelude.{if◌then◌else◌, ◌==◌, nat_lt}
use Rattle.std.specs.List.{AllByRecursion}
use Rattle.std.proofs.lemmas.Fmt.{decimal_nonempty}
use Rattle.std.proofs.lemmas.List.{length-append}
use Rattle.byte_formats.specs.Offsets.{At, at, IsBytes}
use Rattle.byte_formats.specs.Readings.{◌>>=◌, discarded}
use Rattle.byte_formats.specs.Lists.{up_to_end}
use Rattle.byte_formats.proofs.Steps.{bind_ok, discarded_ok, guard_ok, ok_is}
use Rattle.byte_formats.proofs.FormLists.{up_to_end_drains}
use Rattle.tls_wire.specs.declared.fault.AnchorError.{AnchorError}
use Rattle.tls_wire.specs.declared.fault.AnchorError.TheVariants as text_faults
use Rattle.tls_wire.specs.declared.fault.AnchorBytesError.{AnchorBytesError}
use Rattle.tls_wire.specs.declared.fault.AnchorBytesError.TheVariants as byte_faults
use Rattle.tls_wire.specs.Arcs.{arc, IsArc, dot_decimal, dotted, IsAnchorId}
use Rattle.tls_wire.specs.Anchors.{arc_at, arcs_only, anchor_of, arcs_in, anchor_text}
use Rattle.tls_wire.specs.Anchors.{text_in, text_of}
use Rattle.tls_wire.proofs.ArcForm.{arc_form, arc_some, arcs_form}
use Rattle.tls_wire.proofs.DecimalForm.{AreNumbers, arcs_in_takes, arcs_in_again}

-- ---- bytes

-- Bytes that read as arcs up to their end are an anchor id.
pub arcs_only_takes : (bytes : List ℕ) (done : Unit {0}) → IsBytes bytes → 0 < length bytes
    → length bytes ≤ 255 → arcs_only bytes ≡ Ok done → IsAnchorId bytes
unfolding arcs_only
arcs_only_takes bytes done h some short e =
    let s = bind_ok (discarded (up_to_end arc_at (at bytes 0))) (λ (end : At). Ok tt) done e in
    let read = discarded_ok (up_to_end arc_at (at bytes 0)) s.0 s.1 in
    let found = arcs_form.takes (at bytes 0) read.0 s.0 h read.1 in
    let nothing = up_to_end_drains arc_form arc_some (at bytes 0) read.0 s.0 h read.1 in
    record {
      arcs = read.0;
      are_arcs = found.1;
      encoded = found.0.parts ∙ (ap (λ (t : List ℕ). flat_map arc read.0 ++ t) nothing
          ∙ append-nil (flat_map arc read.0));
      some = some;
      short = short;
    }

done_with : Result At AnchorBytesError → Result (Unit {0}) AnchorBytesError
done_with r = r >>= λ end. Ok tt

pub arcs_fail : (bytes : List ℕ) (e : AnchorBytesError) → discarded (up_to_end arc_at (at bytes 0))
    ≡ Err e → arcs_only bytes ≡ Err e
unfolding arcs_only done_with
arcs_fail bytes e total = ap done_with total

pub arcs_end : (bytes : List ℕ) (a : At) → discarded (up_to_end arc_at (at bytes 0)) ≡ Ok a
    → arcs_only bytes ≡ Ok tt
unfolding arcs_only done_with
arcs_end bytes a total = ap done_with total

-- An anchor id reads as its arcs.
pub arcs_read : (ns : List ℕ) → AllByRecursion IsArc ns → (end : At)
    × (up_to_end arc_at (at (flat_map arc ns) 0) ≡ Ok (ns, end))
arcs_read ns small =
    let again = arcs_form.again ns 0 [] small refl in
    let same : up_to_end arc_at (at (flat_map arc ns) 0) ≡ up_to_end arc_at (record {
      place =
          0;
      rest = flat_map arc ns ++ [];
    }) =
    ap (λ (t : List ℕ). up_to_end arc_at (record { place = 0; rest = t }))
    (sym (append-nil (flat_map arc ns))) in
    (record { place = 0 + length (flat_map arc ns); rest = [] }, same ∙ again)

pub anchor_takes : (bytes b : List ℕ) → IsBytes bytes → anchor_of bytes ≡ Ok b → (b ≡ bytes)
    × IsAnchorId bytes
unfolding anchor_of
anchor_takes bytes b h e =
    let inner : Result (List ℕ) AnchorBytesError =
    arcs_only bytes >>= λ (done : Unit {0}). Ok bytes in
    let long : Result (List ℕ) AnchorBytesError =
    if nat_lt 255 (length bytes) then Err byte_faults.TooLong else inner in
    let g = guard_ok (length bytes == 0) byte_faults.Empty long b e in
    let k = guard_ok (nat_lt 255 (length bytes)) byte_faults.TooLong inner b g.1 in
    let s = bind_ok (arcs_only bytes) (λ (done : Unit {0}). Ok bytes) b k.1 in
    let some : length bytes ≢ 0 = λ none. true≢false (sym (eq-eqb (length bytes) 0 none) ∙ g.0) in (
      sym (ok_is AnchorBytesError bytes b s.2),
      arcs_only_takes bytes s.0 h (omega arith) (ltb-false 255 (length bytes) k.0) s.1,
    )

pub anchor_again : (bytes : List ℕ) → IsAnchorId bytes → anchor_of bytes ≡ Ok bytes
unfolding anchor_of arcs_only
anchor_again bytes id =
    let read = arcs_read id.arcs id.are_arcs in
    let P : List ℕ → Type 0 = λ t. up_to_end arc_at (at t 0) ≡ Ok (id.arcs, read.0) in
    let whole = subst P (sym id.encoded) read.1 in
    let some : length bytes ≢ 0 = omega (arith, id.some) in
    rw (ne_eqb (length bytes) 0 some, le-ltb 255 (length bytes) id.short, whole) refl

-- ---- texts

-- The text of an anchor id is its arcs.
pub text_of_id : (bytes : List ℕ) (id : IsAnchorId bytes) → text_of bytes ≡ dotted id.arcs
unfolding text_of
text_of_id bytes id =
    let read = arcs_read id.arcs id.are_arcs in
    let P : List ℕ → Type 0 = λ t. up_to_end arc_at (at t 0) ≡ Ok (id.arcs, read.0) in
    ap text_in (subst P (sym id.encoded) read.1)

arcs_some : (ns : List ℕ) → AllByRecursion IsArc ns → 0 < length ns → 0 < length (flat_map arc ns)
arcs_some [] small some = absurd (omega arith)
arcs_some (n ∷ ns) small some = omega (
  arith,
  arc_some n small.0,
  length-append (arc n) (flat_map arc ns),
)

pub numbers_are_id : (text ns bytes : List ℕ) → AreNumbers text ns → bytes ≡ flat_map arc ns
    → length bytes ≤ 255 → IsAnchorId bytes
numbers_are_id text ns bytes numbers same short =
    record {
      arcs = ns;
      are_arcs = numbers.small;
      encoded = same;
      some =
          omega (arith, arcs_some ns numbers.small numbers.some, ap length same);
      short = short;
    }

pub text_takes : (text bytes : List ℕ) → IsBytes text → anchor_text text ≡ Ok bytes
    → IsAnchorId bytes × (text_of bytes ≡ text)
unfolding anchor_text numbers_are_id
text_takes text bytes h e =
    let rest : Result (List ℕ) AnchorError =
    arcs_in text >>= λ (b : List ℕ). if nat_lt 255 (length b) then Err text_faults.TooLong
    else Ok b in
    let g = guard_ok (length text == 0) text_faults.Empty rest bytes e in
    let s = bind_ok (arcs_in text) (λ (b : List ℕ). if nat_lt 255 (length b)
    then Err text_faults.TooLong else Ok b) bytes g.1 in
    let k = guard_ok (nat_lt 255 (length s.0)) text_faults.TooLong (Ok s.0) bytes s.2 in
    let found = arcs_in_takes text s.0 h s.1 in
    let id = numbers_are_id text found.0 s.0 found.1 found.2 (ltb-false 255 (length s.0) k.0) in
    let P : List ℕ → Type 0 = λ b. IsAnchorId b × (text_of b ≡ text) in
    subst P (ok_is AnchorError s.0 bytes k.1) (id, text_of_id s.0 id ∙ sym found.1.encoded)

dotted_some : (ns : List ℕ) → AllByRecursion IsArc ns → 0 < length ns → 0 < length (dotted ns)
dotted_some [] small some = absurd (omega arith)
dotted_some (n ∷ ns) small some = omega (
  arith,
  decimal_nonempty n small.0,
  length-append (decimal n) (flat_map dot_decimal ns),
)

id_some : (bytes : List ℕ) (id : IsAnchorId bytes) → 0 < length id.arcs
id_some bytes id = go id.arcs id.encoded
  where
    go : (ns : List ℕ) → bytes ≡ flat_map arc ns → 0 < length ns
    go [] same = absurd (omega (arith, id.some, ap length same))
    go (n ∷ ns) same = omega arith

pub text_again : (bytes : List ℕ) → IsAnchorId bytes → anchor_text (text_of bytes) ≡ Ok bytes
unfolding anchor_text
text_again bytes id =
    let some = id_some bytes id in
    let text = text_of_id bytes id in
    let long : length (dotted id.arcs) ≢ 0 = omega (arith, dotted_some id.arcs id.are_arcs some) in
    let short : nat_lt 255 (length (flat_map arc id.arcs)) ≡ false =
    le-ltb _ _ (omega (arith, id.short, ap length id.encoded)) in
    ap anchor_text text
    ∙ (rw (ne_eqb (length (dotted id.arcs)) 0 long, arcs_in_again id.arcs id.are_arcs some, short)
    refl
    ∙ ap (λ (b : List ℕ). Ok b) (sym id.encoded))

-- ---- what a call that made an anchor id knows

-- The arcs of a text that aren't too many are an anchor id.
pub arcs_in_is_id : (text bytes : List ℕ) → IsBytes text → arcs_in text ≡ Ok bytes
    → length bytes ≤ 255 → IsAnchorId bytes
arcs_in_is_id text bytes h e short = let found =
    arcs_in_takes text bytes h e in numbers_are_id text found.0 bytes found.1 found.2 short
