-- The rules for contents read exactly the encodings of their values.
use Rattle.std.proofs.Common.{◌≤◌, ◌++◌, flat_map, ◌≡◌, ◌≢◌, ℕ, Bool, true, false, ◌&&◌, List, []}
use Rattle.std.proofs.Common.{◌∷◌, length, Result, Ok, Err, refl, sym, ap, subst, ◌∙◌, arith, inl}
use Rattle.std.proofs.Common.{inr, eq-eqb, ne_eqb, eqb-true, le-leb, leb-true, lt-ltb, le-ltb}
use Rattle.std.proofs.Common.{true≢false}
use Rattle.std.specs.Prelude.{if◌then◌else◌, ◌==◌, nat_le, nat_lt}
use Rattle.std.specs.List.{AllByRecursion}
use Rattle.std.proofs.lemmas.Bool.{cases_lt}
use Rattle.std.proofs.lemmas.Bool.{and_parts}
use Rattle.byte_formats.specs.Types.{Text}
use Rattle.byte_formats.specs.Offsets.{IsBytes}
use Rattle.byte_formats.specs.Forms.{itself}
use Rattle.byte_formats.proofs.Steps.{guard_ok, pass_ok, chosen, ok_is}
use Rattle.der_core.specs.declared.fault.DerError.{DerError}
use Rattle.der_core.specs.declared.fault.DerError.TheVariants.{BadBool, BadOid, BadBits}
use Rattle.der_core.specs.Contents.{boolean_of, are_arcs, oid_of, are_unused, bits_of}
use Rattle.der_core.specs.Forms.{IsContents, boolean, FitsBoolean, EndsOnce, IsSubidentifier, IsOid}
use Rattle.der_core.specs.Forms.{bit_string, IsBitString}

boolean_takes : (place : ℕ) (contents : Text) (x : Bool) → IsBytes contents
    → boolean_of place contents ≡ Ok x → (contents ≡ boolean x) × FitsBoolean x
unfolding boolean_of
boolean_takes place [] x h e = absurd cc
boolean_takes place (b ∷ []) x h e =
    let P : Bool → Type 0 = λ v. (b ∷ [] ≡ boolean v) × FitsBoolean v in
    let other : Result Bool DerError = if b == 255 then Ok true else Err (BadBool place) in
    elim (chosen (b == 0) (Ok false) other (Ok x) e) [
      | inl c ↦ subst P (ok_is DerError false x c.1) (ap (λ (n : ℕ). n ∷ []) (eqb-true b 0 c.0), tt)
      | inr c ↦
          let g = pass_ok (b == 255) (Ok true) (BadBool place) x c.1 in
          subst P (ok_is DerError true x g.1) (ap (λ (n : ℕ). n ∷ []) (eqb-true b 255 g.0), tt)
    ]
boolean_takes place (b ∷ c ∷ contents) x h e = absurd cc

boolean_again : (place : ℕ) (x : Bool) → FitsBoolean x → boolean_of place (boolean x) ≡ Ok x
unfolding boolean_of
boolean_again place true f = refl
boolean_again place false f = refl

pub boolean_contents : IsContents boolean FitsBoolean boolean_of
boolean_contents = record { takes = boolean_takes; again = boolean_again }

-- ---- arcs

-- The bytes are arcs.
abbrev Split : Bool → Text → Type 0
Split true bytes = (arcs : List Text) × AllByRecursion IsSubidentifier arcs
    × (bytes ≡ flat_map itself arcs)
Split false bytes = (prefix : Text) × EndsOnce prefix × (arcs : List Text)
    × AllByRecursion IsSubidentifier arcs × (bytes ≡ prefix ++ flat_map itself arcs)

ends_more : (b : ℕ) (prefix : Text) → 128 ≤ b → EndsOnce prefix → EndsOnce (b ∷ prefix)
ends_more b [] le ends = absurd ends
ends_more b (c ∷ prefix) le ends = (le, ends)

split : (begins : Bool) (bytes : Text) → are_arcs begins bytes ≡ true → Split begins bytes
unfolding are_arcs
split true [] e = ([], tt, refl)
split false [] e = absurd cc
split true (b ∷ rest) e =
    let g = not_padded (b == 128) (are_arcs (nat_lt b 128) rest) e in
    let other : b ≢ 128 = λ same. true≢false (sym (eq-eqb b 128 same) ∙ g.0) in
    elim (cases_lt b 128) [
      | inl lt ↦
          let s = split true rest (rw (lt-ltb b 128 lt) at g.1) in (
            (b ∷ []) ∷ s.0,
            (record { ends = lt; fewest = other }, s.1),
            ap (λ (t : Text). b ∷ t) s.2,
          )
      | inr le ↦
          let s = split false rest (rw (le-ltb b 128 le) at g.1) in (
            (b ∷ s.0) ∷ s.2,
            (record { ends = ends_more b s.0 le s.1; fewest = other }, s.3),
            ap (λ (t : Text). b ∷ t) s.4,
          )
    ]
  where
    not_padded : (padded others : Bool) → (if true && padded then false else others) ≡ true
        → (padded ≡ false) × (others ≡ true)
    not_padded true others h = absurd cc
    not_padded false others h = (refl, h)
split false (b ∷ rest) e =
    elim (cases_lt b 128) [
      | inl lt ↦ let s = split true rest (rw (lt-ltb b 128 lt) at e) in (
        b ∷ [],
        lt,
        s.0,
        s.1,
        ap (λ (t : Text). b ∷ t) s.2,
      )
      | inr le ↦ let s = split false rest (rw (le-ltb b 128 le) at e) in (
        b ∷ s.0,
        ends_more b s.0 le s.1,
        s.2,
        s.3,
        ap (λ (t : Text). b ∷ t) s.4,
      )
    ]

arcs_take : (bytes : Text) → are_arcs true bytes ≡ true → Split true bytes
arcs_take bytes e = split true bytes e

inside_again : (prefix rest : Text) → EndsOnce prefix
    → are_arcs false (prefix ++ rest) ≡ are_arcs true rest
unfolding are_arcs
inside_again [] rest ends = absurd ends
inside_again (b ∷ []) rest ends = rw (lt-ltb b 128 ends) refl
inside_again (b ∷ c ∷ prefix) rest ends =
    rw (le-ltb b 128 ends.0) (inside_again (c ∷ prefix) rest ends.1)

arc_again : (arc rest : Text) → IsSubidentifier arc
    → are_arcs true (arc ++ rest) ≡ are_arcs true rest
unfolding are_arcs
arc_again [] rest is_arc = absurd is_arc.ends
arc_again (b ∷ []) rest is_arc = rw (ne_eqb b 128 is_arc.fewest, lt-ltb b 128 is_arc.ends) refl
arc_again (b ∷ c ∷ prefix) rest is_arc =
    rw (ne_eqb b 128 is_arc.fewest, le-ltb b 128 is_arc.ends.0)
    (inside_again (c ∷ prefix) rest is_arc.ends.1)

arcs_again : (arcs : List Text) → AllByRecursion IsSubidentifier arcs
    → are_arcs true (flat_map itself arcs) ≡ true
unfolding are_arcs
arcs_again [] all = refl
arcs_again (arc ∷ arcs) all = arc_again arc (flat_map itself arcs) all.0 ∙ arcs_again arcs all.1

oid_takes : (place : ℕ) (contents x : Text) → IsBytes contents → oid_of place contents ≡ Ok x
    → (contents ≡ x) × IsOid x
unfolding oid_of
oid_takes place contents x h e =
    let inner : Result Text DerError = if are_arcs true contents then Ok contents
    else Err (BadOid place) in
    let g = guard_ok (length contents == 0) (BadOid place) inner x e in
    let p = pass_ok (are_arcs true contents) (Ok contents) (BadOid place) x g.1 in
    let some : length contents ≢ 0 = λ none. true≢false (sym (eq-eqb (length contents) 0 none)
    ∙ g.0) in
    let P : Text → Type 0 = λ v. (contents ≡ v) × IsOid v in
    let found = arcs_take contents p.0 in
    subst P (ok_is DerError contents x p.1) (
      refl,
      record {
        arcs = found.0;
        are_arcs =
            found.1;
        encoded = found.2;
        some = omega arith;
      },
    )

oid_again : (place : ℕ) (x : Text) → IsOid x → oid_of place x ≡ Ok x
unfolding oid_of
oid_again place x f =
    let some : length x ≢ 0 = omega (arith, f.some) in
    let arcs : are_arcs true x ≡ true = ap (are_arcs true) f.encoded
    ∙ arcs_again f.arcs f.are_arcs in
    rw (ne_eqb (length x) 0 some, arcs) refl

pub oid_contents : IsContents itself IsOid oid_of
oid_contents = record { takes = oid_takes; again = oid_again }

bits_takes : (place : ℕ) (contents : Text) (x : ℕ × Text) → IsBytes contents
    → bits_of place contents ≡ Ok x → (contents ≡ bit_string x) × IsBitString x
unfolding bits_of
bits_takes place [] x h e = absurd cc
bits_takes place (unused ∷ bytes) x h e =
    let p = pass_ok (nat_le unused 7 && are_unused unused bytes) (Ok (unused, bytes))
    (BadBits place) x e in
    let t = and_parts (nat_le unused 7) (are_unused unused bytes) p.0 in
    let P : ℕ × Text → Type 0 = λ v. (unused ∷ bytes ≡ bit_string v) × IsBitString v in
    subst P (ok_is DerError (unused, bytes) x p.1) (
      refl,
      record {
        few =
            leb-true unused 7 t.0;
        zero = t.1;
      },
    )

bits_again : (place : ℕ) (x : ℕ × Text) → IsBitString x → bits_of place (bit_string x) ≡ Ok x
unfolding bits_of
bits_again place x f = rw (le-leb x.0 7 f.few, f.zero) refl

pub bits_contents : IsContents bit_string IsBitString bits_of
bits_contents = record { takes = bits_takes; again = bits_again }
