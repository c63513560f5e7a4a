-- Many extensions: each is read whatever its identifier, and the identifiers are compared
-- afterwards.
use Rattle.std.proofs.Common.{◌≡◌, ℕ, ◌+◌, ◌<◌, ◌≤◌, Bool, true, false, ◌||◌, List, [], ◌∷◌, ◌++◌}
use Rattle.std.proofs.Common.{length, Result, Ok, Err, refl, sym, ap, subst, ◌∙◌, append-nil, arith}
use Rattle.std.proofs.Common.{inl, inr, ◌⊎◌, true≢false, ne_eqb}
use Rattle.std.specs.Prelude.{if◌then◌else◌, ◌==◌}
use Rattle.std.specs.Str.{bytes_eq}
use Rattle.std.specs.List.{AllByRecursion}
use Rattle.std.proofs.lemmas.Bool.{or_parts}
use Rattle.std.proofs.lemmas.Slice.Eq.{bytes_eq-Decides}
use Rattle.byte_formats.specs.Types.{Text}
use Rattle.byte_formats.specs.Offsets.{At}
use Rattle.byte_formats.specs.Readings.{discarded}
use Rattle.byte_formats.proofs.Loops.{WalksEach, each_from, each_more, each_fails, each_end}
use Rattle.byte_formats.proofs.Steps.{guard_ok, pass_ok, ok_is}
use Rattle.der_core.specs.Items.{Item, inside}
use Rattle.der_core.specs.Reading.{wanted_at}
use Rattle.der_core.specs.Contents.{are_arcs, oid_of}
use Rattle.der_core.specs.declared.fault.DerError.{DerError}
use Rattle.der_core.specs.declared.fault.DerError.TheVariants.{BadOid}
use Rattle.der_core.specs.declared.fault.CertError.{CertError}
use Rattle.der_core.specs.declared.fault.CertError.TheVariants.{Der, RepeatedExtension}
use Rattle.byte_formats.specs.Left.{first_at}
use Rattle.cert_fields.specs.Extensions.{ExtensionFields, is_among, new_identifier_at}
use Rattle.cert_fields.specs.Extensions.{identifier_of, extension_at, extension_list_at, head_at}
use Rattle.cert_fields.specs.Extensions.{identifiers, are_repeated}
use Rattle.byte_formats.proofs.Left.{first_next, first_end}
use Rattle.cert_fields.proofs.Walks.{oid_same, head_of, Taken}
use Rattle.cert_fields.proofs.Walks.{taken_none, taken_more, all_taken}
use Rattle.cert_fields.proofs.Twice.{repeated_prefix, repeated_push}

-- ---- identifiers that read

-- The contents read as an object identifier, wherever they stand.
abbrev pub Reads : Text → Type 0
Reads identifier = (place : ℕ) → oid_of place identifier ≡ Ok identifier

oid_reads : (place : ℕ) (contents identifier : Text) → oid_of place contents ≡ Ok identifier
    → Reads identifier
unfolding oid_of
oid_reads place contents identifier e other =
    let g = guard_ok (length contents == 0) (BadOid place) (if are_arcs true contents
    then Ok contents else Err (BadOid place)) identifier e in
    let p = pass_ok (are_arcs true contents) (Ok contents) (BadOid place) identifier g.1 in
    let P : Text → Type 0 = λ t. oid_of other t ≡ Ok t in
    subst P (ok_is DerError contents identifier p.1) (rw (g.0, p.0) refl)

among_reads : (identifier : Text) (seen : List Text) → AllByRecursion Reads seen
    → is_among identifier seen ≡ true → Reads identifier
among_reads identifier [] all e = absurd (true≢false (sym e))
among_reads identifier (other ∷ seen) all e =
    go (bytes_eq other identifier) refl e (among_reads identifier seen all.1)
  where
    go : (b : Bool) → bytes_eq other identifier ≡ b → (b || is_among identifier seen) ≡ true
        → (is_among identifier seen ≡ true → Reads identifier) → Reads identifier
    go true same e more = subst Reads ((bytes_eq-Decides other identifier).0 same) all.0
    go false same e more = more e

reads_push : (seen : List Text) (identifier : Text) → AllByRecursion Reads seen → Reads identifier
    → AllByRecursion Reads (seen ++ identifier ∷ [])
reads_push [] identifier all one = (one, tt)
reads_push (other ∷ seen) identifier all one = (all.0, reads_push seen identifier all.1 one)

-- ---- up to the identifier of an extension

no_element : (a : At) (d : DerError) → wanted_at 0x30 a ≡ Err d → (seen : List Text)
    → extension_at seen a ≡ Err (Der d)
unfolding extension_at
no_element a d e seen = rw e refl

no_element_head : (a : At) (d : DerError) → wanted_at 0x30 a ≡ Err d → head_at a ≡ Err d
unfolding head_at
no_element_head a d e = rw e refl

no_identifier : (a : At) (x : Item × At) (d : DerError) → wanted_at 0x30 a ≡ Ok x
    → wanted_at 0x06 (inside x.0) ≡ Err d → (seen : List Text) → extension_at seen a ≡ Err (Der d)
unfolding extension_at new_identifier_at
no_identifier a x d e f seen = rw (e, f) refl

no_identifier_head : (a : At) (x : Item × At) (d : DerError) → wanted_at 0x30 a ≡ Ok x
    → wanted_at 0x06 (inside x.0) ≡ Err d → head_at a ≡ Err d
unfolding head_at
no_identifier_head a x d e f = rw (e, f) refl

bad_identifier : (a : At) (x y : Item × At) (d : DerError) → wanted_at 0x30 a ≡ Ok x
    → wanted_at 0x06 (inside x.0) ≡ Ok y → oid_of y.0.place y.0.contents ≡ Err d
    → (seen : List Text) → extension_at seen a ≡ Err (Der d)
unfolding extension_at new_identifier_at
bad_identifier a x y d e f g seen = rw (e, f, g) refl

identifier_head : (a : At) (x y : Item × At) → wanted_at 0x30 a ≡ Ok x
    → wanted_at 0x06 (inside x.0) ≡ Ok y → head_at a ≡ Ok (y.0.contents, x.1)
unfolding head_at
identifier_head a x y e f = rw (e, f) refl

seen_identifier : (a : At) (x y : Item × At) (identifier : Text) → wanted_at 0x30 a ≡ Ok x
    → wanted_at 0x06 (inside x.0) ≡ Ok y
    → oid_of y.0.place y.0.contents ≡ Ok identifier → (seen : List Text)
    → is_among identifier seen ≡ true → extension_at seen a ≡ Err RepeatedExtension
unfolding extension_at new_identifier_at
seen_identifier a x y identifier e f g seen there = rw (e, f, g, there) refl

new_identifier : (a : At) (x y : Item × At) (identifier : Text) → wanted_at 0x30 a ≡ Ok x
    → wanted_at 0x06 (inside x.0) ≡ Ok y
    → oid_of y.0.place y.0.contents ≡ Ok identifier → (seen : List Text)
    → is_among identifier seen ≡ false → extension_at seen a ≡ extension_at [] a
unfolding extension_at new_identifier_at
new_identifier a x y identifier e f g seen away = rw (e, f, g, away) refl

-- A fault before an identifier was read: it is the same after any extensions, and no extension with
-- one of their identifiers begins there.
record Stops (a : At) : Type 0 where
  fault : CertError
  same : (seen : List Text) → extension_at seen a ≡ Err fault
  apart : (identifier : Text) (b : At) → head_at a ≡ Ok (identifier, b) → (seen : List Text)
      → AllByRecursion Reads seen → is_among identifier seen ≡ false

-- An identifier that reads: only whether it was seen matters.
record Begins (a : At) : Type 0 where
  identifier : Text
  following : At
  head : head_at a ≡ Ok (identifier, following)
  reads : Reads identifier
  new : (seen : List Text) → is_among identifier seen ≡ false
      → extension_at seen a ≡ extension_at [] a
  old : (seen : List Text) → is_among identifier seen ≡ true
      → extension_at seen a ≡ Err RepeatedExtension

bad_apart : (a : At) (x y : Item × At) (d : DerError) → wanted_at 0x30 a ≡ Ok x
    → wanted_at 0x06 (inside x.0) ≡ Ok y → oid_of y.0.place y.0.contents ≡ Err d
    → (identifier : Text) (b : At) → head_at a ≡ Ok (identifier, b) → (seen : List Text)
    → AllByRecursion Reads seen → is_among identifier seen ≡ false
bad_apart a x y d e f g identifier b h seen all = go (is_among identifier seen) refl
  where
    same : y.0.contents ≡ identifier
    same = ap (λ (v : Text × At). v.0) (ok_is DerError (y.0.contents, x.1) (
      identifier,
      b,
    ) (sym (identifier_head a x y e f) ∙ h))

    go : (t : Bool) → is_among identifier seen ≡ t → t ≡ false
    go false q = refl
    go true q =
        let reads : oid_of y.0.place identifier ≡ Ok identifier =
        among_reads identifier seen all q y.0.place in
        let clash : Ok identifier ≡ Err d = sym reads ∙ (ap (oid_of y.0.place) (sym same) ∙ g) in
        absurd cc

first_part : (a : At) → Stops a ⊎ Begins a
first_part a = element (wanted_at 0x30 a) refl
  where
    object : (x : Item × At) (y : Item × At) (r : Result Text DerError) → wanted_at 0x30 a ≡ Ok x
        → wanted_at 0x06 (inside x.0) ≡ Ok y
        → oid_of y.0.place y.0.contents ≡ r → Stops a ⊎ Begins a
    object x y (Err d) e f g = inl (record {
      fault = Der d;
      same =
          bad_identifier a x y d e f g;
      apart = bad_apart a x y d e f g;
    })
    object x y (Ok identifier) e f g =
        let here : y.0.contents ≡ identifier = oid_same y.0.place y.0.contents identifier g in
        inr (record {
          identifier = identifier;
          following = x.1;
          head = identifier_head a x y e f ∙ ap (λ (t : Text). Ok (t, x.1)) here;
          reads = oid_reads y.0.place y.0.contents identifier g;
          new = new_identifier a x y identifier e f g;
          old = seen_identifier a x y identifier e f g;
        })

    tag : (x : Item × At) (r : Result (Item × At) DerError) → wanted_at 0x30 a ≡ Ok x
        → wanted_at 0x06 (inside x.0) ≡ r → Stops a ⊎ Begins a
    tag x (Err d) e f = inl (record {
      fault = Der d;
      same = no_identifier a x d e f;
      apart =
          λ identifier b h seen all. let clash = sym (no_identifier_head a x d e f)
          ∙ h in absurd cc;
    })
    tag x (Ok y) e f = object x y (oid_of y.0.place y.0.contents) e f refl

    element : (r : Result (Item × At) DerError) → wanted_at 0x30 a ≡ r → Stops a ⊎ Begins a
    element (Err d) e = inl (record {
      fault = Der d;
      same = no_element a d e;
      apart =
          λ identifier b h seen all. let clash = sym (no_element_head a d e) ∙ h in absurd cc;
    })
    element (Ok x) e = tag x (wanted_at 0x06 (inside x.0)) e refl

-- ---- the loop

-- So many extensions were read, whatever their identifiers: if none of these occurs twice, the
-- others decide as
-- the whole list does, and else the list has a repetition.
pub record Reaches (total : Result At CertError) (list : At) (count : ℕ) (a : At) : Type 0 where
  pub seen : List Text
  pub passed : Taken list count seen a
  pub reads : AllByRecursion Reads seen
  pub distinct : are_repeated seen ≡ false → WalksEach identifier_of extension_at total seen a
  pub repeated : are_repeated seen ≡ true → total ≡ Err RepeatedExtension
  pub room : count + length a.rest ≤ length list.rest

pub reaches_from : (a list : At) → list ≡ a → Reaches (discarded (extension_list_at a)) list 0 a
unfolding extension_list_at
reaches_from a list same = record {
  seen = [];
  passed = taken_none list a (sym same);
  reads = tt;
  distinct = λ none. each_from identifier_of extension_at [] a;
  repeated = λ twice. absurd (true≢false (sym twice));
  room = rw same (omega arith);
}

-- The list ends in a repetition at this extension.
repeats_here : (total : Result At CertError) (list : At) (count : ℕ) (a : At)
    (r : Reaches total list count a) (b : Begins a) → (length a.rest == 0) ≡ false
    → are_repeated (r.seen ++ b.identifier ∷ []) ≡ true → total ≡ Err RepeatedExtension
repeats_here total list count a r b some twice =
    go (are_repeated r.seen) refl (sym (repeated_push r.seen b.identifier) ∙ twice)
  where
    go : (t : Bool) → are_repeated r.seen ≡ t → (t || is_among b.identifier r.seen) ≡ true
        → total ≡ Err RepeatedExtension
    go true e all = r.repeated e
    go false e all = each_fails identifier_of extension_at total r.seen a RepeatedExtension
        (b.old r.seen all) some (r.distinct e)

pub reaches_more : (total : Result At CertError) (list : At) (count : ℕ) (a : At)
    (x : ExtensionFields) (b : At) → extension_at [] a ≡ Ok (x, b)
    → length b.rest < length a.rest → Reaches total list count a → Reaches total list (count + 1) b
reaches_more total list count a x b step less r = go (first_part a)
  where
    some : (length a.rest == 0) ≡ false
    some = ne_eqb (length a.rest) 0 (omega (arith, less))

    go : Stops a ⊎ Begins a → Reaches total list (count + 1) b
    go (inl s) = let clash = sym step ∙ s.same [] in absurd cc
    go (inr g) =
        let head = head_of [] a x b step in
        let same : g.identifier ≡ x.identifier =
        ap (λ (v : Text × At). v.0) (ok_is DerError (g.identifier, g.following) (
          x.identifier,
          b,
        ) (sym g.head ∙ head)) in
        let push : are_repeated (r.seen ++ x.identifier ∷ [])
        ≡ (are_repeated r.seen || is_among x.identifier r.seen) =
        repeated_push r.seen x.identifier in
        let P : Text → Type 0 = λ t. are_repeated (r.seen ++ t ∷ []) ≡ true in
        record {
          seen = r.seen ++ x.identifier ∷ [];
          passed = taken_more list count r.seen a x.identifier b head r.passed;
          reads = reads_push r.seen x.identifier r.reads (subst Reads same g.reads);
          distinct = λ none.
              let (before, new) = or_parts (are_repeated r.seen) (is_among x.identifier r.seen)
              (sym push ∙ none) in
              let away : is_among g.identifier r.seen ≡ false =
              ap (λ (t : Text). is_among t r.seen) same ∙ new in
              each_more identifier_of extension_at total r.seen a x b (g.new r.seen away
              ∙ step) less (r.distinct before);
          repeated = λ twice. repeats_here total list count a r g some (subst P (sym same) twice);
          room = omega (arith, r.room, less);
        }

-- The fault of an extension is the list's, unless an identifier up to it stands twice.
abbrev pub or_repeated : Bool → CertError → CertError
or_repeated twice fault = if twice then RepeatedExtension else fault

pub reaches_fails : (total : Result At CertError) (list : At) (count : ℕ) (a : At)
    (fault : CertError) → extension_at [] a ≡ Err fault
    → (length a.rest == 0) ≡ false → Reaches total list count a
    → total ≡ Err (or_repeated (are_repeated (identifiers (count + 1) list)) fault)
unfolding first_at
reaches_fails total list count a fault step some r = go (first_part a)
  where
    all : are_repeated (identifiers (count + 1) list) ≡ are_repeated (r.seen ++ identifiers 1 a)
    all = ap are_repeated (r.passed 1)

    reported : (t : Bool) → are_repeated (identifiers (count + 1) list) ≡ t
        → total ≡ Err (or_repeated t fault)
        → total ≡ Err (or_repeated (are_repeated (identifiers (count + 1) list)) fault)
    reported t e same = same ∙ ap (λ (b : Bool). Err (or_repeated b fault)) (sym e)

    fails : are_repeated r.seen ≡ false → extension_at r.seen a ≡ Err fault → total ≡ Err fault
    fails none here = each_fails identifier_of extension_at total r.seen a fault here some
        (r.distinct none)

    stopped : (s : Stops a) (h : Result (Text × At) DerError) → head_at a ≡ h
        → are_repeated r.seen ≡ false → are_repeated (r.seen ++ identifiers 1 a) ≡ false
    stopped s (Err d) e none = ap (λ (ids : List Text). are_repeated (r.seen ++ ids))
        (first_end head_at 1 a d e) ∙ (ap are_repeated (append-nil r.seen) ∙ none)
    stopped s (Ok h) e none =
        ap (λ (ids : List Text). are_repeated (r.seen ++ ids)) (first_next head_at 0 a h.0 h.1 e)
        ∙ (repeated_push r.seen h.0 ∙ (ap (λ (b : Bool). b || is_among h.0 r.seen) none
        ∙ s.apart h.0 h.1 e r.seen r.reads))

    before : (t : Bool) → are_repeated r.seen ≡ t
        → (are_repeated r.seen ≡ false → total
        ≡ Err (or_repeated (are_repeated (identifiers (count + 1) list)) fault))
        → total ≡ Err (or_repeated (are_repeated (identifiers (count + 1) list)) fault)
    before true e otherwise = reported true (all
        ∙ repeated_prefix r.seen (identifiers 1 a) e) (r.repeated e)
    before false e otherwise = otherwise e

    begun : (g : Begins a) (t : Bool) → are_repeated (r.seen ++ g.identifier ∷ []) ≡ t
        → total ≡ Err (or_repeated (are_repeated (identifiers (count + 1) list)) fault)
    begun g true e =
        reported true (all ∙ (ap (λ (ids : List Text). are_repeated (r.seen ++ ids))
        (first_next head_at 0 a g.identifier g.following g.head)
        ∙ e)) (repeats_here total list count a r g some e)
    begun g false e =
        let (none, away) = or_parts (are_repeated r.seen) (is_among g.identifier r.seen)
        (sym (repeated_push r.seen g.identifier) ∙ e) in
        reported false (all ∙ (ap (λ (ids : List Text). are_repeated (r.seen ++ ids))
        (first_next head_at 0 a g.identifier g.following g.head) ∙ e))
        (fails none (g.new r.seen away ∙ step))

    go : Stops a ⊎ Begins a → total ≡ Err
        (or_repeated (are_repeated (identifiers (count + 1) list)) fault)
    go (inl s) =
        before (are_repeated r.seen) refl
        (λ none. reported false (all ∙ stopped s (head_at a) refl none) (fails none (s.same r.seen
        ∙ (sym (s.same []) ∙ step))))
    go (inr g) = begun g (are_repeated (r.seen ++ g.identifier ∷ [])) refl

-- The end of the list.
pub reaches_end : (total : Result At CertError) (list : At) (count : ℕ) (a : At)
    → (length a.rest == 0) ≡ true → Reaches total list count a
    → are_repeated (identifiers count list) ≡ false → total ≡ Ok a
reaches_end total list count a none r once =
    each_end identifier_of extension_at total r.seen a none
    (r.distinct (sym (ap are_repeated (all_taken list count r.seen a r.passed)) ∙ once))

pub reaches_repeated : (total : Result At CertError) (list : At) (count : ℕ) (a : At)
    → Reaches total list count a
    → are_repeated (identifiers count list) ≡ true → total ≡ Err RepeatedExtension
reaches_repeated total list count a r twice =
    r.repeated (sym (ap are_repeated (all_taken list count r.seen a r.passed)) ∙ twice)
