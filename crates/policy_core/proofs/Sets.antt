-- The bits of a set.
use Rattle.std.proofs.Common.{◌≡◌, ℕ, zero, suc, ◌+◌, ◌*◌, ◌/◌, ◌%◌, ◌^◌, ◌<◌, ◌==◌, Bool, true}
use Rattle.std.proofs.Common.{false, ◌≤◌, List, [], ◌∷◌, length, get_or, nat_lt, ◌⊎◌, inl, inr}
use Rattle.std.proofs.Common.{slice_get, Some, refl, sym, ap, ◌∙◌, arith}
use Rattle.std.proofs.lemmas.Bool.Decides.{nat_tests}
use Rattle.std.proofs.lemmas.Grind.{pow_more}
use Rattle.std.proofs.lemmas.List.Folds.{list_any_at}
use Rattle.std.proofs.lemmas.Nat.Bits.{bit_at_lowest, bit_at-suc, bit_at-zero}
use Rattle.std.proofs.lemmas.Option.{get_or_from_slice_get, slice_get_within}
use Rattle.std.proofs.lemmas.Slice.Eq.{bytes_eq-Decides}
use Rattle.std.specs.Int.{bit_at}
use Rattle.std.specs.List.{AllByRecursion, Contains, flat_map, list_any}
use Rattle.std.specs.Prelude.{if◌then◌else◌}
use Rattle.byte_formats.specs.Types.{Hash, Text}
use Rattle.hss_core.specs.Hss.{Verifies}
use Rattle.mtc_proof.specs.Inputs.{signed_text}
use Rattle.mtc_proof.specs.Proofs.{ProofParts, SigParts, signature_text, IsMtcSignature}
use Rattle.mtc_proof.proofs.Sequence.{signatures_found}
use Rattle.policy_core.specs.declared.cosigners.Known.{Known}
use Rattle.policy_core.specs.declared.store.Store.{Store}
use Rattle.policy_core.specs.Counting.{counts, set_from, counted, is_in_set, is_named}
use Rattle.policy_core.specs.Counting.{has_signed, is_signature_of}

abbrev one_if : Bool → ℕ
one_if b = if b then 1 else 0

-- the set, counted from its first index
abbrev digits : {A : Type 0} → (ℕ → A → Bool) → ℕ → List A → ℕ
digits passes n [] = 0
digits passes n (x ∷ xs) = one_if (passes n x) + 2 * digits passes (n + 1) xs

set_step : (b : Bool) (digit power : ℕ)
    → (if b then power else 0) + digit * (power * 2) ≡ (one_if b + 2 * digit) * power
set_step true digit power = omega arith
set_step false digit power = omega arith

set_is : {A : Type 0} (passes : ℕ → A → Bool) (n : ℕ) (xs : List A)
    → set_from passes n xs ≡ digits passes n xs * 2 ^ n
set_is passes n [] = omega arith
set_is passes n (x ∷ xs) =
    ap (λ (rest : ℕ). (if passes n x then 2 ^ n else 0) + rest) (set_is passes (n + 1) xs)
    ∙ (ap (λ (power : ℕ). (if passes n x then 2 ^ n else 0) + digits passes (n + 1) xs * power)
    (pow_more 2 n)
    ∙ set_step (passes n x) (digits passes (n + 1) xs) (2 ^ n))

lowest : (b : Bool) (more : ℕ) → (one_if b + 2 * more) % 2 ≡ one_if b
lowest true more = omega arith
lowest false more = omega arith

higher : (b : Bool) (more : ℕ) → (one_if b + 2 * more) / 2 ≡ more
higher true more = omega arith
higher false more = omega arith

bit_of : {A : Type 0} (passes : ℕ → A → Bool) (n : ℕ) (xs : List A) (place : ℕ) (d : A)
    → place < length xs
    → bit_at (digits passes n xs) place ≡ one_if (passes (n + place) (get_or xs place d))
bit_of passes n [] place d lt = absurd (omega arith)
bit_of passes n (x ∷ xs) zero d lt =
    let same : n + 0 ≡ n = omega arith in
    rw (bit_at_lowest (digits passes n (x ∷ xs)), same)
    (lowest (passes n x) (digits passes (n + 1) xs))
bit_of passes n (x ∷ xs) (suc place) d lt =
    let less : place < length xs = omega arith in
    let same : n + suc place ≡ n + 1 + place = omega arith in
    bit_at-suc (digits passes n (x ∷ xs)) place
    ∙ (ap (λ (m : ℕ). bit_at m place) (higher (passes n x) (digits passes (n + 1) xs))
    ∙ (bit_of passes (n + 1) xs place d less
    ∙ ap (λ (m : ℕ). one_if (passes m (get_or xs place d))) (sym same)))

bit_beyond : {A : Type 0} (passes : ℕ → A → Bool) (n : ℕ) (xs : List A) (place : ℕ)
    → length xs ≤ place → bit_at (digits passes n xs) place ≡ 0
bit_beyond passes n [] place le = bit_at-zero place
bit_beyond passes n (x ∷ xs) zero le = absurd (omega arith)
bit_beyond passes n (x ∷ xs) (suc place) le =
    let less : length xs ≤ place = omega arith in
    bit_at-suc (digits passes n (x ∷ xs)) place
    ∙ (ap (λ (m : ℕ). bit_at m place) (higher (passes n x) (digits passes (n + 1) xs))
    ∙ bit_beyond passes (n + 1) xs place less)

is_one : (b : Bool) → (one_if b == 1) ≡ b
is_one true = refl
is_one false = refl

pub set_has : (store : Store) (p : ProofParts) (hash : Hash) (place : ℕ) (k : Known)
    → place < length store.cosigners
    → is_in_set (counted store p hash) place
    ≡ counts store p hash place (get_or store.cosigners place k)
unfolding counted
set_has store p hash place k lt =
    let passes : ℕ → Known → Bool = counts store p hash in
    let whole : set_from passes 0 store.cosigners ≡ digits passes 0 store.cosigners =
    set_is passes 0 store.cosigners ∙ omega arith in
    let first : 0 + place ≡ place = omega arith in
    ap (λ (m : ℕ). bit_at m place == 1) whole
    ∙ (ap (λ (bit : ℕ). bit == 1) (bit_of passes 0 store.cosigners place k lt)
    ∙ (ap (λ (n : ℕ). one_if (passes n (get_or store.cosigners place k)) == 1) first
    ∙ is_one (passes place (get_or store.cosigners place k))))

set_beyond : (store : Store) (p : ProofParts) (hash : Hash) (place : ℕ)
    → length store.cosigners ≤ place → is_in_set (counted store p hash) place ≡ false
unfolding counted
set_beyond store p hash place le =
    let passes : ℕ → Known → Bool = counts store p hash in
    let whole : set_from passes 0 store.cosigners ≡ digits passes 0 store.cosigners =
    set_is passes 0 store.cosigners ∙ omega arith in
    ap (λ (m : ℕ). bit_at m place == 1) whole
    ∙ ap (λ (bit : ℕ). bit == 1) (bit_beyond passes 0 store.cosigners place le)

-- Each in the set is one of the cosigners, whom some rule names.
pub none_unnamed : (store : Store) (p : ProofParts) (hash : Hash) (place : ℕ)
    → (length store.cosigners ≤ place) ⊎ (is_named store.rules place ≡ false)
    → is_in_set (counted store p hash) place ≡ false
none_unnamed store p hash place (inl le) = set_beyond store p hash place le
none_unnamed store p hash place (inr e) =
    go store.cosigners refl (nat_lt place (length store.cosigners)) refl
  where
    go : (ks : List Known) → store.cosigners ≡ ks
        → (b : Bool) → nat_lt place (length store.cosigners) ≡ b
        → is_in_set (counted store p hash) place ≡ false
    go ks is false below = set_beyond store p hash place (grind (arith, nat_tests, below))
    go [] is true below =
        let lt : place < length store.cosigners = grind (arith, nat_tests, below) in
        let none : length store.cosigners ≡ 0 = ap length is in absurd (omega arith)
    go (k ∷ ks) is true below =
        let lt : place < length store.cosigners = grind (arith, nat_tests, below) in
        set_has store p hash place k lt ∙ rw e refl

pub signed_as_encoded : (log : Text) (p : ProofParts) (hash : Hash) (k : Known)
    (xs : List SigParts) → AllByRecursion IsMtcSignature xs
    → p.signatures ≡ flat_map signature_text xs
    → has_signed log p hash k
    ≡ list_any (is_signature_of k (signed_text k.id log p.start p.end hash)) xs
signed_as_encoded log p hash k xs each encoded = rw (encoded, signatures_found xs each) refl

one_signed : (k : Known) (text signature : Text) → Verifies k.key text signature
    → is_signature_of k text (record { cosigner = k.id; signature = signature }) ≡ true
one_signed k text signature verifies = rw ((bytes_eq-Decides k.id k.id).1 refl, verifies) refl

-- A signature under its id that verifies counts.
pub signed_counts : (store : Store) (p : ProofParts) (hash : Hash) (place : ℕ) (k : Known)
    (xs : List SigParts) (signature : Text)
    → slice_get store.cosigners place ≡ Some k → is_named store.rules place ≡ true
    → AllByRecursion IsMtcSignature xs → p.signatures ≡ flat_map signature_text xs
    → Contains xs (record { cosigner = k.id; signature = signature })
    → Verifies k.key (signed_text k.id store.log p.start p.end hash) signature
    → is_in_set (counted store p hash) place ≡ true
signed_counts store p hash place k xs signature there named each encoded among verifies =
    let one : SigParts = record { cosigner = k.id; signature = signature } in
    let text : Text = signed_text k.id store.log p.start p.end hash in
    let test : SigParts → Bool = is_signature_of k text in
    let passes : test one ≡ true = one_signed k text signature verifies in
    let here : test (get_or xs among.0 one) ≡ true =
    ap (λ (s : SigParts). test s) among.2 ∙ passes in
    let some : list_any test xs ≡ true = list_any_at test xs among.0 one among.1 here in
    let signed : has_signed store.log p hash k ≡ true =
    signed_as_encoded store.log p hash k xs each encoded ∙ some in
    let below : place < length store.cosigners = slice_get_within store.cosigners place k there in
    let same : get_or store.cosigners place k ≡ k =
    get_or_from_slice_get store.cosigners place k k there in
    set_has store p hash place k below
    ∙ (ap (λ (x : Known). counts store p hash place x) same ∙ rw (named, signed) refl)
