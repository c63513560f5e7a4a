-- The steps of the loops over contents.
use Rattle.std.proofs.Common.{◌≡◌, ◌≢◌, ℕ, ◌+◌, ◌*◌, ◌^◌, ◌<◌, ◌≤◌, Bool, true, false, ◌&&◌, ◌∷◌}
use Rattle.std.proofs.Common.{length, get_or, drop, Some, None, refl, sym, ap, ◌∙◌, arith, ne_eqb}
use Rattle.std.proofs.Common.{le-ltb, lt-ltb, pow-suc, mul-le-mul_left, inl, inr, ◌⊎◌}
use Rattle.std.specs.Prelude.{if◌then◌else◌, ◌==◌, nat_lt}
use Rattle.std.proofs.lemmas.List.{drop_more, drop_all}
use Rattle.std.proofs.Math.Nat.{one-le-pow}
use Rattle.byte_formats.specs.Types.{Text}
use Rattle.byte_formats.specs.Numbers.{value}
use Rattle.der_core.specs.Contents.{are_arcs, if_small}

-- ---- arcs

arcs_more : (begins : Bool) (bytes : Text) (i : ℕ) → i < length bytes
    → are_arcs begins (drop i bytes) ≡ (if begins && get_or bytes i 0 == 128 then false
    else are_arcs (nat_lt (get_or bytes i 0) 128) (drop (i + 1) bytes))
unfolding are_arcs
arcs_more begins bytes i lt = rw (drop_more bytes i 0 lt) refl

-- An arc that begins with 128.
pub arcs_padded : (total begins : Bool) (bytes : Text) (i : ℕ) → i < length bytes → begins ≡ true
    → get_or bytes i 0 ≡ 128
    → are_arcs begins (drop i bytes) ≡ total → false ≡ total
arcs_padded total begins bytes i lt b e so_far =
    let one : are_arcs begins (drop i bytes) ≡ false = arcs_more begins bytes i lt
    ∙ rw (b, e) refl in
    sym one ∙ so_far

-- Another byte.
pub arcs_on : (total begins : Bool) (bytes : Text) (i : ℕ) → i < length bytes
    → (begins ≡ false) ⊎ (get_or bytes i 0 ≢ 128)
    → are_arcs begins (drop i bytes) ≡ total
    → are_arcs (nat_lt (get_or bytes i 0) 128) (drop (i + 1) bytes) ≡ total
arcs_on total begins bytes i lt (inl b) so_far =
    let one : are_arcs begins (drop i bytes) ≡ are_arcs (nat_lt (get_or bytes i 0) 128)
    (drop (i + 1) bytes) = arcs_more begins bytes i lt ∙ rw b refl in
    sym one ∙ so_far
arcs_on total begins bytes i lt (inr ne) so_far = sym (arcs_more begins bytes i lt ∙ other begins)
    ∙ so_far
  where
    other : (b : Bool) → (if b && get_or bytes i 0 == 128 then false
        else are_arcs (nat_lt (get_or bytes i 0) 128) (drop (i + 1) bytes))
        ≡ are_arcs (nat_lt (get_or bytes i 0) 128) (drop (i + 1) bytes)
    other true = rw (ne_eqb (get_or bytes i 0) 128 ne) refl
    other false = refl

-- No byte is left.
pub arcs_end : (total begins : Bool) (bytes : Text) (i : ℕ) → length bytes ≤ i
    → are_arcs begins (drop i bytes) ≡ total → begins ≡ total
unfolding are_arcs
arcs_end total begins bytes i le so_far =
    let one : are_arcs begins (drop i bytes) ≡ begins = rw (drop_all i bytes le) refl in
    sym one ∙ so_far

-- ---- numbers

-- The number n, and these bytes after it.
abbrev pub carried : ℕ → Text → ℕ
carried n bytes = n * 256 ^ length bytes + value 256 bytes

carried_step : (n b : ℕ) (bytes : Text) → carried n (b ∷ bytes) ≡ carried (n * 256 + b) bytes
carried_step n b bytes = rw (pow-suc 256 (length bytes)) (omega arith)

-- One byte more.
pub carried_more : (n : ℕ) (bytes : Text) (i : ℕ) → i < length bytes
    → carried n (drop i bytes) ≡ carried (n * 256 + get_or bytes i 0) (drop (i + 1) bytes)
carried_more n bytes i lt = ap (carried n) (drop_more bytes i 0 lt)
    ∙ carried_step n (get_or bytes i 0) (drop (i + 1) bytes)

carried_ge : (n : ℕ) (bytes : Text) → n ≤ carried n bytes
carried_ge n bytes =
    let one : 1 ≤ 256 ^ length bytes = one-le-pow (length bytes) 256 (omega arith) in
    let times : n * 1 ≤ n * 256 ^ length bytes = mul-le-mul_left n one in
    omega arith

-- So large a number with a byte to come doesn't fit.
pub carried_large : (total n : ℕ) (bytes : Text) (i : ℕ) → i < length bytes → 2 ^ 56 ≤ n
    → carried n (drop i bytes) ≡ total → None ≡ if_small total
carried_large total n bytes i lt large so_far =
    let more = carried_more n bytes i lt in
    let ge = carried_ge (n * 256 + get_or bytes i 0) (drop (i + 1) bytes) in
    let test : nat_lt total (2 ^ 64) ≡ false = le-ltb _ _ (omega (arith, more, ge, so_far)) in
    rw test refl

-- No byte is left.
pub carried_end : (total n : ℕ) (bytes : Text) (i : ℕ) → length bytes ≤ i → n < 2 ^ 64
    → carried n (drop i bytes) ≡ total → Some n ≡ if_small total
carried_end total n bytes i le small so_far =
    let end : carried n (drop i bytes) ≡ n = rw (drop_all i bytes le) (omega arith) in
    let same : n ≡ total = sym end ∙ so_far in
    let test : nat_lt n (2 ^ 64) ≡ true = lt-ltb _ _ small in
    rw (← same) (rw test refl)
