-- Loops over names and extensions: what is left decides as the whole does.
use Rattle.std.proofs.Common.{◌≡◌, ◌≢◌, ℕ, zero, suc, ◌+◌, ◌-◌, ◌<◌, ◌≤◌, Bool, true, false, ◌||◌}
use Rattle.std.proofs.Common.{List, [], ◌∷◌, ◌++◌, length, take, Ok, Err, refl, sym, ap}
use Rattle.std.proofs.Common.{◌∙◌, append_assoc, ne_eqb, arith}
use Rattle.std.proofs.lemmas.List.{append-nil}
use Rattle.std.specs.Prelude.{if◌then◌else◌, ◌==◌, not}
use Rattle.std.specs.List.{list_any}
use denote.Ref.{Bor}
use Rattle.byte_formats.specs.Types.{Text}
use Rattle.cert_fields.specs.Views.{texts}
use Rattle.byte_formats.specs.Offsets.{At}
use Rattle.byte_formats.specs.Readings.{both_at, mapped_at, tested_at, Reading}
use Rattle.byte_formats.proofs.Steps.{guard_ok, pass_ok, ok_is}
use Rattle.der_core.specs.Items.{Item, inside}
use Rattle.der_core.specs.Reading.{element_at}
use Rattle.der_core.specs.Contents.{are_arcs, oid_of}
use Rattle.der_core.specs.Fields.{decoded_at, contents_at}
use Rattle.der_core.specs.declared.fault.DerError.{DerError}
use Rattle.der_core.specs.declared.fault.DerError.TheVariants.{BadOid}
use Rattle.der_core.specs.declared.fault.CertError.{CertError}
use Rattle.der_core.specs.declared.fault.CertError.TheVariants.{BadExtension, RepeatedExtension}
use Rattle.cert_fields.specs.AltNames.{dns_name, dns_among, names_left}
use Rattle.cert_fields.specs.Extensions.{ExtensionFields, is_among, new_identifier_at, critical_at}
use Rattle.cert_fields.specs.Extensions.{to_extension, has_its_form, identifier_of, extension_at}
use Rattle.cert_fields.specs.Extensions.{head_at, identifiers}
use Rattle.cert_fields.specs.Extensions.{extensions_left}
use Rattle.byte_formats.proofs.Left.{Takes, first_next, first_end, first_none, left_next, left_end}
use Rattle.der_core.proofs.Takes.{takes_element, takes_inside}
use Rattle.cert_fields.proofs.Steps.{inside_ok, first_ok, mapped_ok, tested_ok, decoded_ok}

-- ---- dNSNames

pub names_step : (a : At) (e : Item) (b : At) → element_at a ≡ Ok (e, b)
    → names_left a ≡ (if e.tag == dns_name then e.contents ∷ names_left b else names_left b)
names_step a e b step = ap dns_among (left_next takes_element a e b step)

-- An element with another tag.
pub names_more : (total : List Text) (a : At) (e : Item) (b : At) → element_at a ≡ Ok (e, b)
    → e.tag ≢ dns_name → total ≡ names_left a → total ≡ names_left b
names_more total a e b step other so_far = so_far ∙ names_step a e b step
    ∙ rw (ne_eqb e.tag 130 other) refl

-- A dNSName.
pub names_found : (total : List Text) (a : At) (e : Item) (b : At) → element_at a ≡ Ok (e, b)
    → e.tag ≡ dns_name → total ≡ names_left a → total ≡ e.contents ∷ names_left b
names_found total a e b step same so_far = so_far ∙ names_step a e b step ∙ rw same refl

-- No element is left that reads.
pub names_end : (a : At) (fault : DerError) → element_at a ≡ Err fault → names_left a ≡ []
names_end a fault step = ap dns_among (left_end element_at a fault step)

-- ---- the identifiers of extensions

-- One of the first n extensions here passes the test where one of the whole list does.
abbrev pub StillAny : Bool → (Text → Bool) → ℕ → At → Type 0
StillAny total test n a = list_any test (identifiers n a) ≡ total

-- An extension that doesn't pass.
pub any_more : (total : Bool) (test : Text → Bool) (n : ℕ) (a : At) (other : Text) (b : At) → 0 < n
    → head_at a ≡ Ok (other, b)
    → false ≡ test other → StillAny total test n a → StillAny total test (n - 1) b
any_more total test zero a other b pos step differs so_far = absurd (omega arith)
any_more total test (suc n) a other b pos step differs so_far =
    let one : suc n - 1 ≡ n = omega arith in
    rw one (sym (ap (list_any test) (first_next head_at n a other b step)
    ∙ ap (λ (t : Bool). t || list_any test (identifiers n b)) (sym differs)) ∙ so_far)

-- An extension that passes.
pub any_found : (total : Bool) (test : Text → Bool) (n : ℕ) (a : At) (other : Text) (b : At) → 0 < n
    → head_at a ≡ Ok (other, b)
    → true ≡ test other → StillAny total test n a → true ≡ total
any_found total test zero a other b pos step same so_far = absurd (omega arith)
any_found total test (suc n) a other b pos step same so_far =
    sym (ap (list_any test) (first_next head_at n a other b step)
    ∙ ap (λ (t : Bool). t || list_any test (identifiers n b)) (sym same)) ∙ so_far

pub any_fails : (total : Bool) (test : Text → Bool) (n : ℕ) (a : At) (fault : DerError)
    → head_at a ≡ Err fault → StillAny total test n a → false ≡ total
any_fails total test n a fault step so_far =
    sym (ap (list_any test) (first_end head_at n a fault step)) ∙ so_far

pub any_end : (total : Bool) (test : Text → Bool) (n : ℕ) (a : At) → n ≤ 0 → StillAny total test n a
    → false ≡ total
any_end total test n a le so_far = sym (ap (list_any test) (first_none head_at n a le)) ∙ so_far

-- ---- a block of identifiers

-- So many of the identifiers from the old position on are these, and the others follow at the new
-- one.
abbrev pub Taken : At → ℕ → List Text → At → Type 0
Taken old count seen a = (n : ℕ) → identifiers (count + n) old ≡ seen ++ identifiers n a

pub taken_none : (old a : At) → a ≡ old → Taken old 0 [] a
taken_none old a same n =
    let e : 0 + n ≡ n = omega arith in
    ap (λ (m : ℕ). identifiers m old) e ∙ ap (λ (c : At). identifiers n c) (sym same)

pub taken_more : (old : At) (count : ℕ) (seen : List Text) (a : At) (identifier : Text) (b : At)
    → head_at a ≡ Ok (identifier, b)
    → Taken old count seen a → Taken old (count + 1) (seen ++ identifier ∷ []) b
taken_more old count seen a identifier b step so_far n =
    let e : count + 1 + n ≡ count + suc n = omega arith in
    ap (λ (m : ℕ). identifiers m old) e
    ∙ (so_far (suc n) ∙ (ap (λ (ids : List Text). seen
    ++ ids) (first_next head_at n a identifier b step)
    ∙ sym (append_assoc seen (identifier ∷ []) (identifiers n b))))

-- All that were taken.
pub all_taken : (old : At) (count : ℕ) (seen : List Text) (a : At) → Taken old count seen a
    → identifiers count old ≡ seen
all_taken old count seen a so_far =
    let e : count ≡ count + 0 = omega arith in
    ap (λ (n : ℕ). identifiers n old) e ∙ so_far 0
    ∙ (ap (λ (ids : List Text). seen ++ ids) (first_none head_at 0 a (omega arith))
    ∙ append-nil seen)

pub taken_of : (old : At) (count : ℕ) (seen : List Text) (a : At) (n : ℕ) → count ≤ n
    → Taken old count seen a → identifiers n old ≡ seen ++ identifiers (n - count) a
taken_of old count seen a n le so_far =
    let e : n ≡ count + (n - count) = omega arith in
    ap (λ (m : ℕ). identifiers m old) e ∙ so_far (n - count)

-- There are no identifiers if nothing was taken, and no extension reads.
pub taken_ends : (old : At) (count : ℕ) (slices : List (Bor Text)) (a : At) (fault : DerError)
    → Taken old count (texts (take count slices)) a
    → head_at a ≡ Err fault → count ≡ 0 → (n : ℕ) → identifiers n old ≡ []
taken_ends old zero slices a fault so_far step same n =
    let e : n ≡ 0 + n = omega arith in
    ap (λ (m : ℕ). identifiers m old) e ∙ (so_far n ∙ first_end head_at n a fault step)
taken_ends old (suc k) slices a fault so_far step same n = absurd (omega (arith, same))

-- ---- the list of extensions

pub oid_same : (place : ℕ) (contents x : Text) → oid_of place contents ≡ Ok x → contents ≡ x
unfolding oid_of
oid_same place contents x e =
    let g = guard_ok (length contents == 0) (BadOid place) (if are_arcs true contents
    then Ok contents else Err (BadOid place)) x e in
    let p = pass_ok (are_arcs true contents) (Ok contents) (BadOid place) x g.1 in
    ok_is DerError contents x p.1

-- An extension that reads begins with its identifier.
pub head_of : (seen : List Text) (a : At) (x : ExtensionFields) (b : At)
    → extension_at seen a ≡ Ok (x, b) → head_at a ≡ Ok (x.identifier, b)
unfolding extension_at new_identifier_at head_at
head_of seen a x b h =
    let fields : Reading (Text × (Bool × Text)) CertError =
    both_at (new_identifier_at seen) (both_at critical_at (contents_at 0x04)) in
    let s = inside_ok 48 (tested_at has_its_form BadExtension (mapped_at to_extension fields)) a x b
    h in
    let t = tested_ok has_its_form BadExtension (mapped_at to_extension fields)
    (inside s.0) x s.2.0 s.2.1 in
    let m = mapped_ok to_extension fields (inside s.0) x s.2.0 t.0 in
    let f = first_ok (new_identifier_at seen) (both_at critical_at (contents_at 0x04))
    (inside s.0) m.0 s.2.0 m.1 in
    let i = tested_ok (λ (identifier : Text). not (is_among identifier seen)) RepeatedExtension
    (decoded_at 0x06 oid_of) (inside s.0) m.0.0 f.0 f.1 in
    let d = decoded_ok 6 oid_of (inside s.0) m.0.0 f.0 i.0 in
    let same : d.0.contents ≡ x.identifier = oid_same d.0.place d.0.contents m.0.0 d.2
    ∙ ap identifier_of m.2 in
    rw (s.1, d.1) (ap (λ (t : Text). Ok (t, b)) same)

-- ---- looking for an extension

pub extension_takes : Takes 1 (extension_at [])
unfolding extension_at
extension_takes =
    takes_inside 0x30 (tested_at has_its_form BadExtension (mapped_at to_extension
    (both_at (new_identifier_at []) (both_at critical_at (contents_at 0x04)))))

-- What is left gives f as the whole does.
abbrev pub Seeks : {A : Type 0} → (List ExtensionFields → A) → A → At → Type 0
Seeks f total a = f (extensions_left a) ≡ total

-- An extension that doesn't decide.
pub seeks_more : {A : Type 0} (f : List ExtensionFields → A) (total : A) (a : At)
    (x : ExtensionFields) (b : At) → extension_at [] a ≡ Ok (x, b)
    → ((xs : List ExtensionFields) → f (x ∷ xs) ≡ f xs) → Seeks f total a → Seeks f total b
seeks_more f total a x b step passes so_far =
    sym (ap f (left_next extension_takes a x b step) ∙ passes (extensions_left b)) ∙ so_far

-- An extension that decides.
pub seeks_found : {A : Type 0} (f : List ExtensionFields → A) (total : A) (a : At)
    (x : ExtensionFields) (b : At) (y : A) → extension_at [] a ≡ Ok (x, b)
    → ((xs : List ExtensionFields) → f (x ∷ xs) ≡ y) → Seeks f total a → y ≡ total
seeks_found f total a x b y step found so_far =
    sym (ap f (left_next extension_takes a x b step) ∙ found (extensions_left b)) ∙ so_far

-- No extension is left that reads.
pub seeks_end : {A : Type 0} (f : List ExtensionFields → A) (total : A) (a : At) (fault : CertError)
    → extension_at [] a ≡ Err fault → Seeks f total a → f [] ≡ total
seeks_end f total a fault step so_far =
    sym (ap f (left_end (extension_at []) a fault step)) ∙ so_far
