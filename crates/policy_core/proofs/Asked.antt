-- What is asked of the fields of a certificate.
use Rattle.std.proofs.Common.{◌≡◌, ℕ, Bool, true, false, List, [], ◌∷◌, Result, Ok, Err, refl, sym}
use Rattle.std.proofs.Common.{ap, subst}
use Rattle.std.specs.Prelude.{if◌then◌else◌, not, ◌||◌, int_lt, ℤ, ◌≤ℤ◌}
use Rattle.std.specs.Prelude.{T}
use Rattle.std.specs.Int.Signed.{lt_z_no, lt_z_yes, clash_ℤ}
use Rattle.std.specs.List.{list_any, AllByRecursion}
use Rattle.std.specs.Str.{bytes_eq}
use Rattle.std.proofs.lemmas.Slice.Eq.{bytes_eq-Decides}
use Rattle.byte_formats.proofs.Steps.{guard_ok}
use Rattle.cert_fields.specs.Certificate.{Parts}
use Rattle.cert_fields.specs.Extensions.{has_unknown_critical}
use Rattle.cert_fields.specs.Given.{mtc_proof}
use Rattle.tree_core.specs.declared.spans.Span.{Span}
use Rattle.policy_core.specs.declared.store.Store.{Store}
use Rattle.policy_core.specs.declared.refusal.Refusal.{Refusal}
use Rattle.policy_core.specs.declared.refusal.Refusal.TheVariants.{Algorithm, UnknownLog, NotYet}
use Rattle.policy_core.specs.declared.refusal.Refusal.TheVariants.{Expired, UnknownCritical}
use Rattle.policy_core.specs.declared.refusal.Refusal.TheVariants.{Revoked}
use Rattle.policy_core.specs.Judgement.{is_in, admitted}

pub record IsAdmitted (store : Store) (now : ℤ) (c : Parts) : Type 0 where
  pub algorithm : c.algorithm ≡ mtc_proof
  pub issuer : c.issuer ≡ store.name
  pub begun : c.validity.not_before ≤ℤ now
  pub lasting : now ≤ℤ c.validity.not_after
  pub extensions : has_unknown_critical c.extensions ≡ false
  pub not_revoked : AllByRecursion (λ range. is_in c.serial range ≡ false) store.revoked

same_bytes : (x y : List ℕ) → not (bytes_eq x y) ≡ false → x ≡ y
same_bytes x y e = go (bytes_eq x y) refl e
  where
    go : (b : Bool) → bytes_eq x y ≡ b → not b ≡ false → x ≡ y
    go true same e = (bytes_eq-Decides x y).0 same
    go false same e = absurd cc

no_other : (x y : List ℕ) → x ≡ y → not (bytes_eq x y) ≡ false
no_other x y e = ap not ((bytes_eq-Decides x y).1 e)

not_before : (x y : ℤ) → int_lt x y ≡ false → y ≤ℤ x
not_before x y e = let P : Bool → Type 0 = λ b. T (not b) in lt_z_no {a = x} {b =
    y} (subst P (sym e) tt)

not_less : (x y : ℤ) → y ≤ℤ x → int_lt x y ≡ false
not_less x y le = go (int_lt x y) refl
  where
    go : (b : Bool) → int_lt x y ≡ b → b ≡ false
    go true e = clash_ℤ (lt_z_yes {a = x} {b = y} (subst T (sym e) tt)) le
    go false e = refl

none_in : (serial : ℕ) (ranges : List Span) → list_any (λ range. is_in serial range) ranges ≡ false
    → AllByRecursion (λ range. is_in serial range ≡ false) ranges
none_in serial [] e = tt
none_in serial (x ∷ xs) e = go (is_in serial x) refl e (λ h. none_in serial xs h)
  where
    go : (b : Bool) → is_in serial x ≡ b → (b || list_any (λ range. is_in serial range) xs) ≡ false
        → (list_any (λ range. is_in serial range) xs ≡ false
        → AllByRecursion (λ range. is_in serial range ≡ false) xs)
        → AllByRecursion (λ range. is_in serial range ≡ false) (x ∷ xs)
    go true here e later = absurd cc
    go false here e later = (here, later e)

all_out : (serial : ℕ) (ranges : List Span)
    → AllByRecursion (λ range. is_in serial range ≡ false) ranges
    → list_any (λ range. is_in serial range) ranges ≡ false
all_out serial [] all = refl
all_out serial (x ∷ xs) all = rw all.0 (all_out serial xs all.1)

pub admitted_only : (store : Store) (now : ℤ) (c : Parts) (done : Unit {0})
    → admitted store now c ≡ Ok done → IsAdmitted store now c
unfolding admitted
admitted_only store now c done e =
    let r5 : Result (Unit {0}) Refusal = if list_any (λ range. is_in c.serial range) store.revoked
    then Err Revoked else Ok tt in
    let r4 : Result (Unit {0}) Refusal =
    if has_unknown_critical c.extensions then Err UnknownCritical else r5 in
    let r3 : Result (Unit {0}) Refusal =
    if int_lt c.validity.not_after now then Err Expired else r4 in
    let r2 : Result (Unit {0}) Refusal =
    if int_lt now c.validity.not_before then Err NotYet else r3 in
    let r1 : Result (Unit {0}) Refusal =
    if not (bytes_eq c.issuer store.name) then Err UnknownLog else r2 in
    let g0 = guard_ok (not (bytes_eq c.algorithm mtc_proof)) Algorithm r1 done e in
    let g1 = guard_ok (not (bytes_eq c.issuer store.name)) UnknownLog r2 done g0.1 in
    let g2 = guard_ok (int_lt now c.validity.not_before) NotYet r3 done g1.1 in
    let g3 = guard_ok (int_lt c.validity.not_after now) Expired r4 done g2.1 in
    let g4 = guard_ok (has_unknown_critical c.extensions) UnknownCritical r5 done g3.1 in
    let g5 = guard_ok (list_any (λ range. is_in c.serial range) store.revoked) Revoked
    (Ok tt) done g4.1 in
    record {
      algorithm = same_bytes c.algorithm mtc_proof g0.0;
      issuer = same_bytes c.issuer store.name g1.0;
      begun = not_before now c.validity.not_before g2.0;
      lasting = not_before c.validity.not_after now g3.0;
      extensions = g4.0;
      not_revoked = none_in c.serial store.revoked g5.0;
    }

pub admitted_again : (store : Store) (now : ℤ) (c : Parts) → IsAdmitted store now c
    → admitted store now c ≡ Ok tt
unfolding admitted
admitted_again store now c f =
    rw (
      no_other c.algorithm mtc_proof f.algorithm,
      no_other c.issuer store.name f.issuer,
      not_less now c.validity.not_before f.begun,
      not_less c.validity.not_after now f.lasting,
      f.extensions,
      all_out c.serial store.revoked f.not_revoked,
    ) refl
