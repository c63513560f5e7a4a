-- The numbers of tiles, in the order in which they become full.
use Rattle.std.proofs.Common.{◌≡◌, ℕ, zero, suc, ◌+◌, ◌-◌, ◌*◌, ◌%◌, ◌/◌, ◌^◌, ◌<◌, ◌≤◌, sym, ◌∙◌}
use Rattle.std.proofs.Common.{ap, arith}
use Rattle.std.proofs.Math.Nat.{div-mul-le_self, lt_of_not-le, mul-le-mul_left, mul-le-mul_right}
use Rattle.std.proofs.Math.Nat.{pow-le-pow_right, pow-succ'}
use Rattle.byte_formats.proofs.Digits.{power_pos}
use Rattle.tree_cache.proofs.Forgets.{bytes-of}
use Rattle.tree_cache.specs.Tiled.{gone_of}
use Rattle.tile_store.specs.Layout.{IsFull, tile_at, tile_number, tiles_end, tiles_in}

-- the full tiles are those of the first numbers
pub full-number : (size level place : ℕ) → level ≤ 2 → IsFull size level place
    → tile_number level place < tiles_in size
unfolding tile_number
full-number size zero place low full = omega arith
full-number size (suc zero) place low full = omega arith
full-number size (suc (suc zero)) place low full = omega arith
full-number size (suc (suc (suc level))) place low full =
    let no : ⊥ = omega arith in absurd no

pub number-full : (size level place : ℕ) → level ≤ 2 → tile_number level place < tiles_in size
    → IsFull size level place
unfolding tile_number
number-full size zero place low below = omega arith
number-full size (suc zero) place low below = omega arith
number-full size (suc (suc zero)) place low below = omega arith
number-full size (suc (suc (suc level))) place low below =
    let no : ⊥ = omega arith in absurd no

-- fewer than 2^32 leaves fill none above level 2
pub full-low : (size level place : ℕ) → size < 2 ^ 32 → IsFull size level place → level < 3
full-low size zero place few full = omega arith
full-low size (suc zero) place few full = omega arith
full-low size (suc (suc zero)) place few full = omega arith
full-low size (suc (suc (suc level))) place few full =
    let high : 4 ≤ suc (suc (suc level)) + 1 = omega arith in
    let up : 256 ^ 4 ≤ 256 ^ (suc (suc (suc level)) + 1) =
    pow-le-pow_right {n = 256} (omega arith) high in
    let one = mul-le-mul_right {m = 1} {n = place + 1} (256 ^ (suc (suc (suc level)) + 1))
    (omega arith) in
    let no : ⊥ = omega arith in absurd no

-- the numbers within a cycle of 65,793 tiles, 257 to a round
pub number-low : (cycle round last : ℕ) → round < 256 → last < 256
    → tile_number 0 (65536 * cycle + 256 * round + last) ≡ 65793 * cycle + 257 * round + last
unfolding tile_number
number-low cycle round last few less = omega arith

pub number-middle : (cycle round : ℕ) → round < 256
    → tile_number 1 (256 * cycle + round) ≡ 65793 * cycle + 257 * round + 256
unfolding tile_number
number-middle cycle round few = omega arith

pub number-high : (cycle : ℕ) → tile_number 2 cycle ≡ 65793 * cycle + 65792
unfolding tile_number
number-high cycle = omega arith

-- no two tiles have one number
pub same-number : (l p m q : ℕ) → l ≤ 2 → m ≤ 2 → tile_number l p ≡ tile_number m q
    → (l ≡ m) × (p ≡ q)
unfolding tile_number
same-number zero p zero q low less same = (omega arith, omega arith)
same-number zero p (suc zero) q low less same = let no : ⊥ = omega arith in absurd no
same-number zero p (suc (suc zero)) q low less same = let no : ⊥ = omega arith in absurd no
same-number (suc zero) p zero q low less same = let no : ⊥ = omega arith in absurd no
same-number (suc zero) p (suc zero) q low less same = (omega arith, omega arith)
same-number (suc zero) p (suc (suc zero)) q low less same =
    let no : ⊥ = omega arith in absurd no
same-number (suc (suc zero)) p zero q low less same = let no : ⊥ = omega arith in absurd no
same-number (suc (suc zero)) p (suc zero) q low less same =
    let no : ⊥ = omega arith in absurd no
same-number (suc (suc zero)) p (suc (suc zero)) q low less same = (omega arith, omega arith)
same-number (suc (suc (suc l))) p m q low less same = let no : ⊥ = omega arith in absurd no
same-number zero p (suc (suc (suc m))) q low less same = let no : ⊥ = omega arith in absurd no
same-number (suc zero) p (suc (suc (suc m))) q low less same =
    let no : ⊥ = omega arith in absurd no
same-number (suc (suc zero)) p (suc (suc (suc m))) q low less same =
    let no : ⊥ = omega arith in absurd no

-- the numbers of the tiles of a level
pub number-zero : (level place : ℕ) → level ≡ 0
    → place + place / 256 + place / 65536 ≡ tile_number level place
unfolding tile_number
number-zero level place is = sym (ap (λ l. tile_number l place) is)

pub number-one : (level place : ℕ) → level ≡ 1
    → 256 * (place + 1) + place + place / 256 ≡ tile_number level place
unfolding tile_number
number-one level place is = sym (ap (λ l. tile_number l place) is)

pub number-two : (level place : ℕ) → level ≡ 2
    → 65792 * (place + 1) + place ≡ tile_number level place
unfolding tile_number
number-two level place is = sym (ap (λ l. tile_number l place) is)

-- a tile that few leaves fill has a small index, and ends where the tiles end
pub full-small : (size level place : ℕ) → size < 2 ^ 32 → IsFull size level place
    → place < 2 ^ 24
full-small size level place few full =
    let one : 1 ≤ level + 1 = omega arith in
    let least : 256 ^ 1 ≤ 256 ^ (level + 1) = pow-le-pow_right {n = 256} (omega arith) one in
    let up = mul-le-mul_left {m = 256 ^ 1} {n = 256 ^ (level + 1)} (place + 1) least in
    omega arith

pub full-more : (size more level place : ℕ) → size ≤ more → IsFull size level place
    → IsFull more level place
full-more size more level place within full = omega arith

pub full-there : (adopted stored known level place : ℕ) → stored < 2 ^ 32 → adopted ≤ stored
    → tiles_end stored ≤ known → IsFull adopted level place
    → tile_at level place + 8192 ≤ known
full-there adopted stored known level place few within reach full =
    let low = full-low stored level place few (full-more adopted stored level place within full) in
    let number = full-number stored level place (omega arith)
    (full-more adopted stored level place within full) in
    omega arith

-- the leaves of a tile by powers of two
pub full-within : (size level place : ℕ) → IsFull size level place
    → (256 * place + 256) * 2 ^ (8 * level) ≤ size
full-within size level place full =
    let power : 256 ^ (level + 1) ≡ 256 * 2 ^ (8 * level) =
    ap (λ n. 256 ^ n) (omega arith) ∙ pow-succ' 256 level
    ∙ ap (λ p. 256 * p) (sym (bytes-of level)) in
    let whole = ap (λ p. (place + 1) * p) power in
    omega arith

-- the hashes of a tile that is not full in the first so many leaves are not gone for these
pub gone-kept : (adopted level place : ℕ) → (IsFull adopted level place → ⊥)
    → gone_of adopted (8 * level) ≤ 256 * place
gone-kept adopted level place other =
    let positive = power_pos 256 (level + 1) (omega arith) in
    let above : adopted < (place + 1) * 256 ^ (level + 1) = lt_of_not-le other in
    let few : adopted / 256 ^ (level + 1) < place + 1 =
    lt_of_not-le (λ many.
    let up = mul-le-mul_right {m = place + 1} {n = adopted / 256 ^ (level + 1)}
    (256 ^ (level + 1)) many in
    let most = div-mul-le_self adopted (256 ^ (level + 1)) in
    omega arith) in
    let tile : 8 * level / 8 + 1 ≡ level + 1 = omega arith in
    let first : 8 - 8 * level % 8 ≡ 8 = omega arith in
    let count : gone_of adopted (8 * level) ≡ adopted / 256 ^ (level + 1) * 2 ^ 8 =
    ap (λ k. adopted / 256 ^ k * 2 ^ (8 - 8 * level % 8)) tile
    ∙ ap (λ k. adopted / 256 ^ (level + 1) * 2 ^ k) first in
    omega arith

-- neither is a node of such a tile
pub gone-below : (adopted level place : ℕ)
    → (IsFull adopted (level / 8) (place / 2 ^ (8 - level % 8)) → ⊥)
    → gone_of adopted level ≤ place
gone-below adopted level place other =
    let tile = place / 2 ^ (8 - level % 8) in
    let positive = power_pos 256 (level / 8 + 1) (omega arith) in
    let above : adopted < (place / 2 ^ (8 - level % 8) + 1) * 256 ^ (level / 8 + 1) =
    lt_of_not-le other in
    let few : adopted / 256 ^ (level / 8 + 1) < place / 2 ^ (8 - level % 8) + 1 =
    lt_of_not-le (λ many.
    let up = mul-le-mul_right {m = tile + 1} {n = adopted / 256 ^ (level / 8 + 1)}
    (256 ^ (level / 8 + 1)) many in
    let most = div-mul-le_self adopted (256 ^ (level / 8 + 1)) in
    omega arith) in
    let less : adopted / 256 ^ (level / 8 + 1) ≤ tile = omega arith in
    let up = mul-le-mul_right (2 ^ (8 - level % 8)) less in
    let most = div-mul-le_self place (2 ^ (8 - level % 8)) in
    omega arith
