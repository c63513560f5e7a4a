-- The parts of a list, and its tree hash by theirs.
use Rattle.std.proofs.Common.{◌≡◌, ℕ, ◌+◌, ◌-◌, ◌<◌, ◌≤◌, List, [], ◌++◌, length, take, drop}
use Rattle.std.proofs.Common.{get_or, sym, ◌∙◌, ap, refl, arith}
use Rattle.std.proofs.lemmas.List.{get_or-drop, get_or-take, length-drop, length-take}
use Rattle.std.proofs.lemmas.List.{take-append-drop}
use Rattle.byte_formats.specs.Types.{HashFunction, Text}
use Rattle.tree_core.proofs.Powers.{split_bounds}
use Rattle.tree_core.proofs.Roots.{tree_hash-split}
use Rattle.tree_core.specs.Split.{split_of}
use Rattle.tree_core.specs.Tree.{pair_hash, tree_hash}
use Rattle.tree_proofs.specs.Halves.{AreHalves}

-- every list of more than one item has both
pub halves_of : {T : Type 0} (items : List T) → 1 < length items
    → AreHalves items (take (split_of (length items)) items) (drop (split_of (length items)) items)
halves_of items more =
    let bounds = split_bounds (length items) in
    let positive = bounds.positive in
    let below = bounds.below in
    let prefix = length-take (split_of (length items)) items in
    let back = length-drop (split_of (length items)) items in
    record {
      left = refl;
      right = refl;
      count = omega arith;
      some = omega arith;
      rest = omega arith;
      all = omega arith;
    }

-- what is cut there is both
pub halves_at : {T : Type 0} (items left right : List T) (k : ℕ) → 1 < length items
    → k ≡ split_of (length items) → left ≡ take k items → right ≡ drop k items
    → AreHalves items left right
halves_at items left right k more is left_is right_is =
    let halves = halves_of items more in
    let prefix : left ≡ take (split_of (length items)) items = left_is
    ∙ ap (λ n. take n items) is in
    let back : right ≡ drop (split_of (length items)) items = right_is
    ∙ ap (λ n. drop n items) is in
    let prefix_size = ap length prefix in
    let back_size = ap length back in
    let count = halves.count in
    let some = halves.some in
    let rest = halves.rest in
    let all = halves.all in
    record {
      left = prefix;
      right = back;
      count = omega arith;
      some = omega arith;
      rest = omega arith;
      all = omega arith;
    }

-- lists of one length whose parts are the same are the same
pub halves_same : {T : Type 0} (xs xl xr ys yl yr : List T) → AreHalves xs xl xr
    → AreHalves ys yl yr → length xs ≡ length ys → xl ≡ yl → xr ≡ yr → xs ≡ ys
halves_same xs xl xr ys yl yr first second size left right =
    let split : split_of (length xs) ≡ split_of (length ys) = ap split_of size in
    sym (take-append-drop (split_of (length xs)) xs)
    ∙ ap (λ l. l ++ drop (split_of (length xs)) xs) (sym first.left ∙ left ∙ second.left)
    ∙ ap (λ r. take (split_of (length ys)) ys ++ r) (sym first.right ∙ right ∙ second.right)
    ∙ take-append-drop (split_of (length ys)) ys

pub halves_hash : (h : HashFunction) (xs l r : List Text) → AreHalves xs l r
    → tree_hash h xs ≡ pair_hash h (tree_hash h l) (tree_hash h r)
halves_hash h xs l r halves =
    let some = halves.some in
    let rest = halves.rest in
    let all = halves.all in
    tree_hash-split h xs (omega arith)
    ∙ ap (λ a. pair_hash h (tree_hash h a) (tree_hash h (drop (split_of (length xs)) xs)))
    (sym halves.left)
    ∙ ap (λ b. pair_hash h (tree_hash h l) (tree_hash h b)) (sym halves.right)

-- The items of an interval.

pub part_length : {T : Type 0} (items part : List T) (start end : ℕ) → end ≤ length items
    → part ≡ take (end - start) (drop start items) → length part ≡ end - start
part_length items part start end within is =
    let dropped = length-drop start items in
    let taken = length-take (end - start) (drop start items) in
    ap length is ∙ omega arith

pub part_item : (texts part : List Text) (start end index : ℕ) → start ≤ index → index < end
    → part ≡ take (end - start) (drop start texts)
    → get_or part (index - start) [] ≡ get_or texts index []
part_item texts part start end index from below is =
    let place : start + (index - start) ≡ index = omega arith in
    ap (λ p. get_or p (index - start) []) is
    ∙ get_or-take (end - start) (drop start texts) (index - start) [] (omega arith)
    ∙ get_or-drop start texts (index - start) [] ∙ ap (λ i. get_or texts i []) place
