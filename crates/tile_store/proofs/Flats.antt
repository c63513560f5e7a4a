-- Hashes one after the other.
use Rattle.std.proofs.Common.{◌≡◌, ℕ, zero, suc, ◌+◌, ◌*◌, ◌<◌, List, [], ◌∷◌, ◌++◌}
use Rattle.std.proofs.Common.{length, get_or}
use Rattle.std.proofs.Common.{take, drop, sym, ◌∙◌, ap, refl, arith}
use Rattle.std.specs.List.{flat_map}
use Rattle.std.proofs.Math.Seq.{drop-append_seam, take-append_seam}
use Rattle.std.proofs.lemmas.List.{length-append}
use Rattle.std.proofs.lemmas.List.Concat.{flat_map-cons}
use Rattle.disk_core.specs.Disk.{part}
use Rattle.tile_store.proofs.Bytes.{part-drop}
use Rattle.tile_store.specs.Contents.{hash_in}

-- all these hashes, one after the other
abbrev pub flat : List (List ℕ) → List ℕ
flat hashes = flat_map (λ hash. hash) hashes

-- each has 32 bytes
abbrev pub AreWide : List (List ℕ) → Type 0
AreWide hashes = (i : ℕ) → i < length hashes → length (get_or hashes i []) ≡ 32

pub flat-length : (hashes : List (List ℕ)) → AreWide hashes
    → length (flat hashes) ≡ 32 * length hashes
flat-length [] wide = refl
flat-length (x ∷ xs) wide =
    let first : length x ≡ 32 = wide 0 (omega arith) in
    let rest = flat-length xs (λ i inside. wide (suc i) (omega arith)) in
    let both = length-append x (flat xs) in
    ap length (flat_map-cons (λ hash. hash) x xs) ∙ omega arith

pub flat-hash : (hashes : List (List ℕ)) → AreWide hashes → (i : ℕ) → i < length hashes
    → hash_in i (flat hashes) ≡ get_or hashes i []
flat-hash [] wide i inside = let no : ⊥ = omega arith in absurd no
flat-hash (x ∷ xs) wide zero inside =
    let first : length x ≡ 32 = wide 0 (omega arith) in
    ap (hash_in 0) (flat_map-cons (λ hash. hash) x xs)
    ∙ ap (λ n. take n (x ++ flat xs)) (sym first) ∙ take-append_seam x (flat xs)
flat-hash (x ∷ xs) wide (suc i) inside =
    let first : length x ≡ 32 = wide 0 (omega arith) in
    let place : 32 * suc i ≡ 32 + 32 * i = omega arith in
    ap (hash_in (suc i)) (flat_map-cons (λ hash. hash) x xs)
    ∙ ap (λ p. part p 32 (x ++ flat xs)) place
    ∙ sym (part-drop (32 * i) 32 32 (x ++ flat xs))
    ∙ ap (hash_in i) (ap (λ n. drop n (x ++ flat xs)) (sym first)
    ∙ drop-append_seam x (flat xs))
    ∙ flat-hash xs (λ j within. wide (suc j) (omega arith)) i (omega arith)
