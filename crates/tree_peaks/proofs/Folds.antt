-- The root by peaks, from the last to the first.
use Rattle.std.proofs.Common.{◌≡◌, ℕ, ◌+◌, ◌-◌, ◌<◌, List, ◌∷◌, length, drop, get_or, sym, ◌∙◌, ap}
use Rattle.std.proofs.Common.{arith}
use Rattle.std.proofs.lemmas.List.{drop_all, drop_more, length-drop}
use Rattle.byte_formats.specs.Types.{Hash, HashFunction}
use Rattle.tree_core.specs.Tree.{pair_hash}
use Rattle.tree_peaks.proofs.Tops.{root_of_peaks-more, root_of_peaks-one}
use Rattle.tree_peaks.specs.Peaks.{root_of_peaks}

-- The root is that of the peaks from this index on.
pub record Folds (h : HashFunction) (peaks : List Hash) (index : ℕ) (root : Hash) : Type 0 where
  pub inside : index < length peaks
  pub rest : root ≡ root_of_peaks h (drop index peaks)

pub folds-last : (h : HashFunction) (peaks : List Hash) (d : Hash) → 0 < length peaks
    → Folds h peaks (length peaks - 1) (get_or peaks (length peaks - 1) d)
folds-last h peaks d some =
    let before : length peaks - 1 + 1 ≡ length peaks = omega arith in
    record {
      inside = omega arith;
      rest = sym (ap (root_of_peaks h) (drop_more peaks (length peaks - 1) d (omega arith)
          ∙ ap (λ xs. get_or peaks (length peaks - 1) d ∷ xs)
          (drop_all (length peaks - 1 + 1) peaks (omega arith)))
          ∙ root_of_peaks-one h (get_or peaks (length peaks - 1) d));
    }

pub folds-more : (h : HashFunction) (peaks : List Hash) (index : ℕ) (root d next : Hash)
    → Folds h peaks index root → 0 < index
    → next ≡ pair_hash h (get_or peaks (index - 1) d) root → Folds h peaks (index - 1) next
folds-more h peaks index root d next so_far some is =
    let inside = so_far.inside in
    let before : index - 1 + 1 ≡ index = omega arith in
    let back = length-drop index peaks in
    record {
      inside = omega arith;
      rest = is
          ∙ ap (pair_hash h (get_or peaks (index - 1) d)) so_far.rest
          ∙ sym (ap (root_of_peaks h) (drop_more peaks (index - 1) d (omega arith)
          ∙ ap (λ k. get_or peaks (index - 1) d ∷ drop k peaks) before)
          ∙ root_of_peaks-more h (get_or peaks (index - 1) d) (drop index peaks) (omega arith));
    }
