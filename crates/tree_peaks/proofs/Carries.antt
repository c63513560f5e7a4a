-- Carrying a leaf over the peaks in an array.
use Rattle.std.proofs.Common.{◌≡◌, ◌≢◌, ℕ, ◌+◌, ◌-◌, ◌/◌, ◌%◌, ◌^◌, ◌<◌, ◌≤◌, List, [], ◌∷◌, ◌++◌}
use Rattle.std.proofs.Common.{length, take, set, get_or, sym, ◌∙◌, ap, refl, arith}
use Rattle.std.specs.Prelude.{count_ones, reverse}
use Rattle.std.specs.Int.Count.{ones_step}
use Rattle.std.proofs.lemmas.List.{reverse-append, reverse-reverse, take_more, take_more_set}
use Rattle.std.proofs.lemmas.Nat.{ones-le}
use Rattle.byte_formats.specs.Types.{Hash, HashFunction}
use Rattle.tree_core.specs.Tree.{pair_hash}
use Rattle.tree_peaks.proofs.Pushing.{carried-even, carried-odd}
use Rattle.tree_peaks.specs.Peaks.{carried}

-- Of a size n at some level so many peaks are left: they carry the node there as all peaks carry
-- the leaf, and the node makes as many ones of them as the leaf of all.
pub record Carries (h : HashFunction) (hashes : List Hash) (peaks size : ℕ) (leaf : Hash)
    (count n : ℕ) (node : Hash) : Type 0 where
  pub left : count ≡ count_ones n
  pub below : n ≤ size
  pub ones : count_ones (n + 1) ≡ count_ones (size + 1)
  pub same : carried h n node (reverse (take count hashes))
      ≡ carried h size leaf (reverse (take peaks hashes))

module _ (h : HashFunction) (hashes : List Hash) (peaks size : ℕ) (leaf : Hash) where
  pub carries-all : peaks ≡ count_ones size → Carries h hashes peaks size leaf peaks size leaf
  carries-all count = record { left = count; below = omega arith; ones = refl; same = refl }

-- an odd number has a digit
pub some_ones : (n : ℕ) → n % 2 ≡ 1 → 0 < count_ones n
some_ones n odd = let step = ones_step n in omega arith

-- fewer than 64 digits are set in an even number of 64
pub few_ones : (n : ℕ) → n % 2 ≢ 1 → n < 2 ^ 64 → count_ones n < 64
few_ones n even fits =
    let step = ones_step n in
    let half : n / 2 < 2 ^ 63 = omega arith in
    let within = ones-le 63 (n / 2) half in
    let low : n % 2 ≡ 0 = omega arith in
    omega arith

-- what is carried on after an odd number
next_ones : (n : ℕ) → n % 2 ≡ 1 → count_ones (n / 2 + 1) ≡ count_ones (n + 1)
next_ones n odd =
    let step = ones_step (n + 1) in
    let halves : (n + 1) / 2 ≡ n / 2 + 1 = omega arith in
    let low : (n + 1) % 2 ≡ 0 = omega arith in
    let same : count_ones ((n + 1) / 2) ≡ count_ones (n / 2 + 1) = ap count_ones halves in
    omega arith

-- and after an even one it is one digit more
pub one_more : (n : ℕ) → n % 2 ≢ 1 → count_ones (n + 1) ≡ count_ones n + 1
one_more n even =
    let first = ones_step n in
    let step = ones_step (n + 1) in
    let halves : (n + 1) / 2 ≡ n / 2 = omega arith in
    let low : n % 2 ≡ 0 = omega arith in
    let high : (n + 1) % 2 ≡ 1 = omega arith in
    let same : count_ones ((n + 1) / 2) ≡ count_ones (n / 2) = ap count_ones halves in
    omega arith

-- the first so many, the last of them first
last_first : (hashes : List Hash) (count : ℕ) (d : Hash) → 0 < count → count ≤ length hashes
    → reverse (take count hashes)
    ≡ get_or hashes (count - 1) d ∷ reverse (take (count - 1) hashes)
last_first hashes count d some within =
    let before : count - 1 + 1 ≡ count = omega arith in
    ap (λ k. reverse (take k hashes)) (sym before)
    ∙ ap reverse (take_more hashes (count - 1) d (omega arith))
    ∙ reverse-append (take (count - 1) hashes) (get_or hashes (count - 1) d ∷ [])

module _ (h : HashFunction) (hashes : List Hash) (peaks size : ℕ) (leaf : Hash) (count n : ℕ)
    (node : Hash) (so_far : Carries h hashes peaks size leaf count n node) where
  pub carries-more : n % 2 ≡ 1 → count ≤ length hashes → (d next : Hash)
      → next ≡ pair_hash h (get_or hashes (count - 1) d) node
      → Carries h hashes peaks size leaf (count - 1) (n / 2) next
  carries-more odd within d next is =
      let left = so_far.left in
      let below = so_far.below in
      let step = ones_step n in
      let some = some_ones n odd in
      record {
        left = omega arith;
        below = omega arith;
        ones = next_ones n odd ∙ so_far.ones;
        same = ap (λ node. carried h (n / 2) node (reverse (take (count - 1) hashes))) is
            ∙ sym (ap (carried h n node) (last_first hashes count d (omega arith) within)
            ∙ carried-odd h n node (get_or hashes (count - 1) d) (reverse (take (count - 1) hashes))
            odd)
            ∙ so_far.same;
      }

  pub carries-end : n % 2 ≢ 1 → count < length hashes
      → take (count + 1) (set hashes count node)
      ≡ reverse (carried h size leaf (reverse (take peaks hashes)))
  carries-end even within =
      let low : n % 2 ≡ 0 = omega arith in
      take_more_set hashes count node within
      ∙ ap (λ xs. xs ++ node ∷ []) (sym (reverse-reverse (take count hashes)))
      ∙ sym (reverse-append (node ∷ []) (reverse (take count hashes)))
      ∙ ap reverse (sym (carried-even h n node (reverse (take count hashes)) low) ∙ so_far.same)
