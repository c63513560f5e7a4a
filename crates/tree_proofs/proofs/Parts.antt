-- Parts of a list of leaves, and their roots, paths and proofs by the split of the part.
use Rattle.std.proofs.Common.{◌≡◌, ℕ, ◌+◌, ◌-◌, ◌<◌, ◌≤◌, List, [], ◌∷◌, ◌++◌, length, take, drop}
use Rattle.std.proofs.Common.{◌∙◌, ap, arith}
use Rattle.std.proofs.lemmas.List.{drop-drop, drop-take, length-drop, length-take, take-take}
use Rattle.std.proofs.lemmas.List.{take_all}
use Rattle.tree_core.proofs.Paths.{path_of-left, path_of-one, path_of-right}
use Rattle.tree_core.proofs.Powers.{split_bounds}
use Rattle.tree_core.proofs.Roots.{root_of-split}
use Rattle.tree_core.specs.Path.{part_of, path_of}
use Rattle.tree_core.specs.Split.{split_of}
use Rattle.tree_core.specs.Tree.{pair_hash, root_of}

pub part-length : (xs : List (List ℕ)) (low high : ℕ) → high ≤ length xs
    → length (part_of xs low high) ≡ high - low
part-length xs low high within =
    let dropped = length-drop low xs in
    let taken = length-take (high - low) (drop low xs) in
    omega arith

pub part-whole : (xs : List (List ℕ)) → part_of xs 0 (length xs) ≡ xs
part-whole xs = take_all (length xs - 0) xs (omega arith)

-- an interval within the left part of a list, within the right part, and from the first entry on
pub part_of-take : (xs : List (List ℕ)) (s e k : ℕ) → s ≤ e → e ≤ k
    → part_of (take k xs) s e ≡ part_of xs s e
part_of-take xs s e k from to =
    let size : k ≡ s + (k - s) = omega arith in
    ap (λ n. take (e - s) (drop s (take n xs))) size
    ∙ ap (take (e - s)) (drop-take s (k - s) xs)
    ∙ take-take (e - s) (k - s) (drop s xs) (omega arith)

pub part_of-drop : (xs : List (List ℕ)) (s e k : ℕ) → k ≤ s
    → part_of (drop k xs) (s - k) (e - k) ≡ part_of xs s e
part_of-drop xs s e k following =
    let size : (e - k) - (s - k) ≡ e - s = omega arith in
    let place : k + (s - k) ≡ s = omega arith in
    ap (λ n. take n (drop (s - k) (drop k xs))) size
    ∙ ap (take (e - s)) (drop-drop (s - k) k xs ∙ ap (λ n. drop n xs) place)

pub part_of-zero : (xs : List (List ℕ)) (k : ℕ) → part_of xs 0 k ≡ take k xs
part_of-zero xs k = let size : k - 0 ≡ k = omega arith in ap (λ n. take n xs) size

-- the parts of a part
pub part-take : (xs : List (List ℕ)) (low middle high : ℕ) → low ≤ middle → middle ≤ high
    → take (middle - low) (part_of xs low high) ≡ part_of xs low middle
part-take xs low middle high from to =
    take-take (middle - low) (high - low) (drop low xs) (omega arith)

pub part-drop : (xs : List (List ℕ)) (low middle high : ℕ) → low ≤ middle → middle ≤ high
    → drop (middle - low) (part_of xs low high) ≡ part_of xs middle high
part-drop xs low middle high from to =
    let size : high - low ≡ (middle - low) + (high - middle) = omega arith in
    let place : low + (middle - low) ≡ middle = omega arith in
    ap (λ n. drop (middle - low) (take n (drop low xs))) size
    ∙ drop-take (middle - low) (high - middle) (drop low xs)
    ∙ ap (take (high - middle)) (drop-drop (middle - low) low xs ∙ ap (λ n. drop n xs) place)

-- a part is split where its interval is
pub part-root : (h : List ℕ → List ℕ) (xs : List (List ℕ)) (low middle high : ℕ)
    → high ≤ length xs → low + 1 < high → middle ≡ low + split_of (high - low)
    → root_of h (part_of xs low high)
    ≡ pair_hash h (root_of h (part_of xs low middle)) (root_of h (part_of xs middle high))
part-root h xs low middle high within more is =
    let bounds = split_bounds (high - low) in
    let size = part-length xs low high within in
    let split : split_of (length (part_of xs low high)) ≡ middle - low = ap split_of size
    ∙ omega arith in
    root_of-split h (part_of xs low high) (omega arith)
    ∙ ap (λ k. pair_hash h (root_of h (take k (part_of xs low high)))
    (root_of h (drop k (part_of xs low high))))
    split
    ∙ ap (λ l. pair_hash h (root_of h l) (root_of h (drop (middle - low) (part_of xs low high))))
    (part-take xs low middle high (omega arith) (omega arith))
    ∙ ap (λ r. pair_hash h (root_of h (part_of xs low middle)) (root_of h r))
    (part-drop xs low middle high (omega arith) (omega arith))

-- The path in a part of a list, by the halves of its interval.

pub path-one : (h : List ℕ → List ℕ) (xs : List (List ℕ)) (m low high : ℕ) → high ≤ length xs
    → high ≤ low + 1 → path_of h m (part_of xs low high) ≡ []
path-one h xs m low high within one =
    let size = part-length xs low high within in
    path_of-one h m (part_of xs low high) (omega arith)

pub path-left : (h : List ℕ → List ℕ) (xs : List (List ℕ)) (index low middle high : ℕ)
    → high ≤ length xs → low + 1 < high → middle ≡ low + split_of (high - low)
    → low ≤ index → index < middle
    → path_of h (index - low) (part_of xs low high)
    ≡ path_of h (index - low) (part_of xs low middle) ++ root_of h (part_of xs middle high) ∷ []
path-left h xs index low middle high within more is from left =
    let bounds = split_bounds (high - low) in
    let size = part-length xs low high within in
    path_of-left h (index - low) (middle - low) (part_of xs low high) (omega arith)
    (ap split_of size ∙ omega arith) (omega arith)
    ∙ ap (λ l. path_of h (index - low) l
    ++ root_of h (drop (middle - low) (part_of xs low high)) ∷ [])
    (part-take xs low middle high (omega arith) (omega arith))
    ∙ ap (λ r. path_of h (index - low) (part_of xs low middle) ++ root_of h r ∷ [])
    (part-drop xs low middle high (omega arith) (omega arith))

pub path-right : (h : List ℕ → List ℕ) (xs : List (List ℕ)) (index low middle high : ℕ)
    → high ≤ length xs → low + 1 < high → middle ≡ low + split_of (high - low)
    → middle ≤ index
    → path_of h (index - low) (part_of xs low high)
    ≡ path_of h (index - middle) (part_of xs middle high) ++ root_of h (part_of xs low middle) ∷ []
path-right h xs index low middle high within more is right =
    let bounds = split_bounds (high - low) in
    let size = part-length xs low high within in
    let place : (index - low) - (middle - low) ≡ index - middle = omega arith in
    path_of-right h (index - low) (middle - low) (part_of xs low high) (omega arith)
    (ap split_of size ∙ omega arith) (omega arith)
    ∙ ap (λ m. path_of h m (drop (middle - low) (part_of xs low high))
    ++ root_of h (take (middle - low) (part_of xs low high)) ∷ []) place
    ∙ ap (λ l. path_of h (index - middle) (drop (middle - low) (part_of xs low high))
    ++ root_of h l ∷ [])
    (part-take xs low middle high (omega arith) (omega arith))
    ∙ ap (λ r. path_of h (index - middle) r ++ root_of h (part_of xs low middle) ∷ [])
    (part-drop xs low middle high (omega arith) (omega arith))
