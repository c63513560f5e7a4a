-- Numbers in a base and their digits.
use Rattle.std.proofs.Common.{◌≡◌, ℕ, zero, suc, ◌%◌, ◌^◌, ◌<◌, List, [], ◌∷◌, length, refl, ap}
use Rattle.std.proofs.Common.{arith, pow-suc, mul_comm, mod-lt, div-add-mod'}
use Rattle.std.proofs.lemmas.Nat.{div-mul-add, mod-mul-add, mul-add-lt}
use Rattle.std.proofs.Math.Nat.{div-lt_iff_lt-mul, pow-zero, one-le-pow}
use Rattle.byte_formats.specs.Numbers.{value, digits, AreDigits}

-- A power of a base is not 0.
pub power_pos : (base k : ℕ) → 0 < base → 0 < base ^ k
power_pos base k pos = omega (arith, one-le-pow k base pos)

AreDigits-rest : (base d : ℕ) (ds : List ℕ) → AreDigits base (d ∷ ds) → AreDigits base ds
AreDigits-rest base d ds h i = h (suc i)

pub length-digits : (base k n : ℕ) → length (digits base k n) ≡ k
length-digits base zero n = refl
length-digits base (suc k) n = ap (λ (m : ℕ). suc m) (length-digits base k (n % base ^ k))

pub value-lt : (base : ℕ) (ds : List ℕ) → AreDigits base ds → value base ds < base ^ length ds
value-lt base [] h = rw pow-zero (omega arith)
value-lt base (d ∷ ds) h =
    let others = value-lt base ds (AreDigits-rest base d ds h) in
    let less = mul-add-lt d (base ^ length ds) (value base ds) base (h 0) others in
    omega (arith, less, pow-suc base (length ds))

pub value-digits : (base k n : ℕ) → 0 < base → n < base ^ k → value base (digits base k n) ≡ n
value-digits base zero n pos lt = omega (arith, pow-zero base)
value-digits base (suc k) n pos lt =
    let small : n % base ^ k < base ^ k = mod-lt n (power_pos base k pos) in
    let others = value-digits base k (n % base ^ k) pos small in
    rw (length-digits base k (n % base ^ k), others) (div-add-mod' n (base ^ k))

pub digits-value : (base : ℕ) (ds : List ℕ) → AreDigits base ds
    → digits base (length ds) (value base ds) ≡ ds
digits-value base [] h = refl
digits-value base (d ∷ ds) h =
    let less = value-lt base ds (AreDigits-rest base d ds h) in
    let others = digits-value base ds (AreDigits-rest base d ds h) in
    rw (
      div-mul-add d (base ^ length ds) (value base ds) less,
      mod-mul-add d (base ^ length ds) (value base ds) less,
      others,
    ) refl

-- Each of the digits of a number that fits is a digit.
pub AreDigits-digits : (base k n : ℕ) → 0 < base → n < base ^ k → AreDigits base (digits base k n)
AreDigits-digits base zero n pos lt i = pos
AreDigits-digits base (suc k) n pos lt zero =
    (div-lt_iff_lt-mul (power_pos base k pos)).1 (omega (
      arith,
      pow-suc base k,
      mul_comm base (base ^ k),
    ))
AreDigits-digits base (suc k) n pos lt (suc i) =
    AreDigits-digits base k (n % base ^ k) pos (mod-lt n (power_pos base k pos)) i
