-- A leaf more: what is carried gives the peaks of the list with that leaf.
use Rattle.std.proofs.Common.{◌≡◌, ℕ, zero, suc, ◌+◌, ◌*◌, ◌-◌, ◌/◌, ◌%◌, ◌^◌, ◌<◌, ◌≤◌, ⊎_elim}
use Rattle.std.proofs.Common.{List, [], ◌∷◌, ◌++◌, length, take, drop, sym, ◌∙◌, ap, refl, arith}
use Rattle.std.proofs.Common.{append-nil, append_assoc}
use Rattle.std.specs.Prelude.{reverse}
use Rattle.std.proofs.Math.Nat.{add-mul, le_of_mul-le-mul_right, lt_of_mul-lt-mul_right, mul_assoc}
use Rattle.std.proofs.Math.Nat.{mul-le-mul_right, mul_comm, pow-succ'}
use Rattle.std.proofs.lemmas.Bool.{cases_lt, cond-false, cond-true, eq-eqb, ne_eqb}
use Rattle.std.proofs.lemmas.List.{drop-append-le, drop_all, drop_at, length-append, length-drop}
use Rattle.std.proofs.lemmas.List.{length-take, length_push, reverse-append, reverse-reverse}
use Rattle.std.proofs.lemmas.List.{take-append-drop, take-append-le, take_all, take_at}
use Rattle.std.proofs.lemmas.Nat.{pow-add, pow_pos}
use Rattle.byte_formats.specs.Types.{Hash, HashFunction}
use Rattle.tree_core.proofs.Powers.{exponent_below, split_unique}
use Rattle.tree_core.proofs.Roots.{root_of-one, root_of-split}
use Rattle.tree_core.specs.Split.{split_of}
use Rattle.tree_core.specs.Tree.{pair_hash, root_of}
use Rattle.tree_peaks.proofs.Tops.{peaks-at, peaks-none, top}
use Rattle.tree_peaks.specs.Peaks.{ArePeaksOf, PeaksState, carried, peaks_of, with_leaf}
use Rattle.tree_peaks.specs.Peaks.{with_leaves}

-- ---- multiples

-- what is left of c times p after k times p is a multiple of p too, and ends p below that
record IsApart (c k p r : ℕ) : Type 0 where
  rest : (c - k) * p ≡ r
  apart : r + p ≤ k * p

multiples : (c k p r : ℕ) → 0 < p → c * p ≡ k * p + r → r < k * p → IsApart c k p r
multiples c k p r positive whole low =
    let some : k * p ≤ c * p = omega arith in
    let least : k ≤ c = le_of_mul-le-mul_right some positive in
    let both : k + (c - k) ≡ c = omega arith in
    let parts : k * p + (c - k) * p ≡ c * p = sym (add-mul k (c - k) p)
    ∙ ap (λ n. n * p) both in
    let rest : (c - k) * p ≡ r = omega arith in
    let less : (c - k) * p < k * p = omega arith in
    let fewer : c - k < k = lt_of_mul-lt-mul_right p less in
    let above : c - k + 1 ≤ k = omega arith in
    let next : (c - k + 1) * p ≤ k * p = mul-le-mul_right p above in
    let more : (c - k + 1) * p ≡ (c - k) * p + 1 * p = add-mul (c - k) 1 p in
    record { rest = rest; apart = omega arith }

-- a power of two as a multiple of a lower one
power_multiple : (e f : ℕ) → e ≤ f → 2 ^ f ≡ 2 ^ (f - e) * 2 ^ e
power_multiple e f within =
    let sum : f ≡ f - e + e = omega arith in
    ap (λ n. 2 ^ n) sum ∙ pow-add 2 (f - e) e

-- an odd number of blocks
odd_blocks : (m q : ℕ) → (2 * m + 1) * q ≡ m * (2 * q) + q
odd_blocks m q =
    let parts : (2 * m + 1) * q ≡ 2 * m * q + 1 * q = add-mul (2 * m) 1 q in
    let turned : 2 * m * q ≡ m * (2 * q) = ap (λ n. n * q) (mul_comm 2 m) ∙ mul_assoc m 2 q in
    omega arith

-- an even number of them
even_blocks : (m q : ℕ) → 2 * m * q ≡ m * (2 * q)
even_blocks m q = ap (λ n. n * q) (mul_comm 2 m) ∙ mul_assoc m 2 q

-- ---- a full tree after full trees that are larger

pub peaks-following : (h : HashFunction) (d e c : ℕ) (prefix last : List Hash) → length prefix ≤ d
    → length prefix ≡ c * 2 ^ suc e → length last ≡ 2 ^ e
    → peaks_of h (prefix ++ last) ≡ peaks_of h prefix ++ root_of h last ∷ []
peaks-following h d e c [] last small is one =
    let positive = pow_pos e in
    peaks-at h last e (omega arith) (omega arith)
    ∙ ap (λ xs. root_of h xs ∷ peaks_of h (drop (2 ^ e) last)) (take_all (2 ^ e) last (omega arith))
    ∙ ap (λ xs. root_of h last ∷ peaks_of h xs) (drop_all (2 ^ e) last (omega arith))
    ∙ ap (λ ps. root_of h last ∷ ps) (peaks-none h)
    ∙ ap (λ ps. ps ++ root_of h last ∷ []) (sym (peaks-none h))
peaks-following h zero e c (x ∷ rest) last small is one = let none : ⊥ = omega arith in absurd none
peaks-following h (suc d) e c (x ∷ rest) last small is one =
    let prefix : List Hash = x ∷ rest in
    let highest = top (length prefix) (omega arith) in
    let f = highest.exponent in
    let r = highest.low in
    let whole = highest.whole in
    let below = highest.below in
    let positive = pow_pos (suc e) in
    let lower = pow_pos e in
    let upper = pow_pos f in
    let double = pow-succ' 2 e in
    let twice = pow-succ' 2 f in
    let none : 1 ≤ c = some_blocks c (2 ^ suc e) (omega arith) in
    let least : 1 * 2 ^ suc e ≤ c * 2 ^ suc e = mul-le-mul_right (2 ^ suc e) none in
    let less : suc e < suc f = exponent_below (suc e) (suc f) (omega arith) in
    let multiple = power_multiple (suc e) f (omega arith) in
    let apart = multiples c (2 ^ (f - suc e)) (2 ^ suc e) r positive (omega arith) (omega arith) in
    let rest_is = apart.rest in
    let gap = apart.apart in
    let both = length-append prefix last in
    let back = length-drop (2 ^ f) prefix in
    peaks-at h (prefix ++ last) f (omega arith) (omega arith)
    ∙ ap (λ xs. root_of h xs ∷ peaks_of h (drop (2 ^ f) (prefix ++ last)))
    (take-append-le (2 ^ f) prefix last (omega arith))
    ∙ ap (λ xs. root_of h (take (2 ^ f) prefix) ∷ peaks_of h xs)
    (drop-append-le (2 ^ f) prefix last (omega arith))
    ∙ ap (λ ps. root_of h (take (2 ^ f) prefix) ∷ ps)
    (peaks-following h d e (c - 2 ^ (f - suc e)) (drop (2 ^ f) prefix) last (omega arith)
    (omega arith)
    one)
    ∙ ap (λ ps. ps ++ root_of h last ∷ [])
    (sym (peaks-at h prefix f (omega arith) (omega arith)))
  where
    some_blocks : (c p : ℕ) → 0 < c * p → 1 ≤ c
    some_blocks zero p some = let none : ⊥ = omega arith in absurd none
    some_blocks (suc c) p some = omega arith

-- two full trees of one size, side by side
root-joined : (h : HashFunction) (e : ℕ) (left right : List Hash) → length left ≡ 2 ^ e
    → length right ≡ 2 ^ e
    → root_of h (left ++ right) ≡ pair_hash h (root_of h left) (root_of h right)
root-joined h e left right one other =
    let positive = pow_pos e in
    let both = length-append left right in
    let split : split_of (length (left ++ right)) ≡ 2 ^ e =
    split_unique (length (left ++ right)) e (omega arith) (omega arith) in
    root_of-split h (left ++ right) (omega arith)
    ∙ ap (λ k. pair_hash h (root_of h (take k (left ++ right)))
    (root_of h (drop k (left ++ right)))) split
    ∙ ap (λ xs. pair_hash h (root_of h xs) (root_of h (drop (2 ^ e) (left ++ right))))
    (take_at left right (2 ^ e) one)
    ∙ ap (λ xs. pair_hash h (root_of h left) (root_of h xs)) (drop_at left right (2 ^ e) one)

-- ---- what is carried

-- the last full tree of an odd number of them, and the peaks, the smallest first
record HasLast (h : HashFunction) (e m : ℕ) (leaves : List Hash) : Type 0 where
  prefix : List Hash
  last : List Hash
  parts : prefix ++ last ≡ leaves
  before : length prefix ≡ m * 2 ^ suc e
  one : length last ≡ 2 ^ e
  reversed : reverse (peaks_of h leaves) ≡ root_of h last ∷ reverse (peaks_of h prefix)

last-of : (h : HashFunction) (e m : ℕ) (leaves : List Hash)
    → length leaves ≡ (2 * m + 1) * 2 ^ e → HasLast h e m leaves
last-of h e m leaves is =
    let double = pow-succ' 2 e in
    let turned : m * (2 * 2 ^ e) ≡ m * 2 ^ suc e = ap (λ q. m * q) (sym double) in
    let blocks = odd_blocks m (2 ^ e) in
    let cut : ℕ = m * 2 ^ suc e in
    let prefix : List Hash = take cut leaves in
    let last : List Hash = drop cut leaves in
    let before : length prefix ≡ cut = length-take cut leaves ∙ omega arith in
    let one : length last ≡ 2 ^ e = length-drop cut leaves ∙ omega arith in
    let parts : prefix ++ last ≡ leaves = take-append-drop cut leaves in
    record {
      prefix = prefix;
      last = last;
      parts = parts;
      before = before;
      one = one;
      reversed = ap (λ xs. reverse (peaks_of h xs)) (sym parts)
          ∙ ap reverse (peaks-following h (length prefix) e m prefix last (omega arith) before one)
          ∙ reverse-append (peaks_of h prefix) (root_of h last ∷ []);
    }

-- it stays where their number is even
pub carried-even : (h : HashFunction) (n : ℕ) (node : Hash) (ps : List Hash) → n % 2 ≡ 0
    → carried h n node ps ≡ node ∷ ps
unfolding carried
carried-even h n node [] even = refl
carried-even h n node (p ∷ ps) even =
    cond-true _ (node ∷ p ∷ ps) (carried h (n / 2) (pair_hash h p node) ps) (eq-eqb (n % 2) 0 even)

-- it is paired where their number is odd
pub carried-odd : (h : HashFunction) (n : ℕ) (node p : Hash) (ps : List Hash) → n % 2 ≡ 1
    → carried h n node (p ∷ ps) ≡ carried h (n / 2) (pair_hash h p node) ps
unfolding carried
carried-odd h n node p ps odd =
    cond-false _ (node ∷ p ∷ ps) (carried h (n / 2) (pair_hash h p node) ps)
    (ne_eqb (n % 2) 0 (λ none. absurd (omega arith)))

carry-even : (h : HashFunction) (e n : ℕ) (leaves block : List Hash) → n % 2 ≡ 0
    → length leaves ≡ n * 2 ^ e → length block ≡ 2 ^ e
    → reverse (carried h n (root_of h block) (reverse (peaks_of h leaves)))
    ≡ peaks_of h (leaves ++ block)
carry-even h e n leaves block even is one =
    let double = pow-succ' 2 e in
    let turned : n / 2 * (2 * 2 ^ e) ≡ n / 2 * 2 ^ suc e = ap (λ q. n / 2 * q) (sym double) in
    let blocks = even_blocks (n / 2) (2 ^ e) in
    let halves : n ≡ 2 * (n / 2) = omega arith in
    let long : n * 2 ^ e ≡ 2 * (n / 2) * 2 ^ e = ap (λ k. k * 2 ^ e) halves in
    let reversed : reverse (root_of h block ∷ reverse (peaks_of h leaves))
    ≡ reverse (reverse (peaks_of h leaves)) ++ root_of h block ∷ [] =
    reverse-append (root_of h block ∷ []) (reverse (peaks_of h leaves)) in
    ap reverse (carried-even h n (root_of h block) (reverse (peaks_of h leaves)) even)
    ∙ reversed
    ∙ ap (λ ps. ps ++ root_of h block ∷ []) (reverse-reverse (peaks_of h leaves))
    ∙ sym (peaks-following h (length leaves) e (n / 2) leaves block (omega arith) (omega arith) one)

carry-peaks : (h : HashFunction) (d e n : ℕ) (leaves block : List Hash) → n ≤ d
    → length leaves ≡ n * 2 ^ e → length block ≡ 2 ^ e
    → reverse (carried h n (root_of h block) (reverse (peaks_of h leaves)))
    ≡ peaks_of h (leaves ++ block)
carry-peaks h zero e n leaves block within is one =
    carry-even h e n leaves block (omega arith) is one
carry-peaks h (suc d) e n leaves block within is one =
    ⊎_elim
    (λ (even : n % 2 < 1). carry-even h e n leaves block (omega arith) is one)
    (λ (odd : 1 ≤ n % 2).
    let m : ℕ = n / 2 in
    let halves : n ≡ 2 * m + 1 = omega arith in
    let found = last-of h e m leaves (is ∙ ap (λ k. k * 2 ^ e) halves) in
    let prefix : List Hash = found.prefix in
    let last : List Hash = found.last in
    let double = pow-succ' 2 e in
    let last_one = found.one in
    let both = length-append last block in
    ap (λ ps. reverse (carried h n (root_of h block) ps)) found.reversed
    ∙ ap reverse (carried-odd h n (root_of h block) (root_of h last) (reverse (peaks_of h prefix))
    (omega arith))
    ∙ ap (λ node. reverse (carried h m node (reverse (peaks_of h prefix))))
    (sym (root-joined h e last block found.one one))
    ∙ carry-peaks h d (suc e) m prefix (last ++ block) (omega arith) found.before (omega arith)
    ∙ ap (peaks_of h) (sym (append_assoc prefix last block)
    ∙ ap (λ xs. xs ++ block) found.parts))
    (cases_lt (n % 2) 1)

-- ---- states

pub no_leaves : (h : HashFunction) → ArePeaksOf h [] (record { size = 0; peaks = [] })
no_leaves h = record { size = refl; peaks = sym (peaks-none h) }

pub takes-leaf : (h : HashFunction) (leaves : List Hash) (state : PeaksState) (leaf : Hash)
    → ArePeaksOf h leaves state → ArePeaksOf h (leaves ++ leaf ∷ []) (with_leaf h state leaf)
takes-leaf h leaves state leaf are =
    let size = are.size in
    let one : root_of h (leaf ∷ []) ≡ leaf = root_of-one h leaf in
    let pushed = length_push leaves leaf in
    record {
      size = omega arith;
      peaks = ap (λ ps. reverse (carried h state.size leaf (reverse ps))) are.peaks
          ∙ ap (λ n. reverse (carried h n leaf (reverse (peaks_of h leaves)))) size
          ∙ ap (λ node. reverse (carried h (length leaves) node (reverse (peaks_of h leaves))))
          (sym one)
          ∙ carry-peaks h (length leaves) 0 (length leaves) leaves (leaf ∷ []) (omega arith)
          (omega arith) (omega arith);
    }

pub takes-leaves : (h : HashFunction) (leaves : List Hash) (state : PeaksState)
    (others : List Hash) → ArePeaksOf h leaves state
    → ArePeaksOf h (leaves ++ others) (with_leaves h state others)
takes-leaves h leaves state [] are =
    record {
      size = are.size ∙ ap length (sym (append-nil leaves));
      peaks = are.peaks
          ∙ ap (peaks_of h) (sym (append-nil leaves));
    }
takes-leaves h leaves state (leaf ∷ others) are =
    let more = takes-leaves h (leaves ++ leaf ∷ []) (with_leaf h state leaf) others
    (takes-leaf h leaves state leaf are) in
    let same = append_assoc leaves (leaf ∷ []) others in
    record { size = more.size ∙ ap length same; peaks = more.peaks ∙ ap (peaks_of h) same }
