-- The peaks of a part of a list: from a multiple of a power of two on, with fewer leaves than that.
use Rattle.std.proofs.Common.{◌≡◌, ℕ, zero, suc, ◌+◌, ◌*◌, ◌-◌, ◌%◌, ◌/◌, ◌^◌, ◌<◌, ◌≤◌, List, []}
use Rattle.std.proofs.Common.{◌∷◌, ◌++◌, length, take, drop, sym, ◌∙◌, ap, arith}
use Rattle.std.proofs.Common.{append-nil, append_assoc}
use Rattle.std.specs.Prelude.{count_ones}
use Rattle.std.proofs.Math.Nat.{add-mul, mul_assoc}
use Rattle.std.proofs.Math.Seq.{drop-append_seam}
use Rattle.std.proofs.lemmas.List.{length-append, length-drop, length-take, take-append-drop}
use Rattle.std.proofs.lemmas.Nat.{div-add-mod', ones-le, ones_cat, pow-add, pow_pos}
use Rattle.byte_formats.specs.Types.{Hash, HashFunction}
use Rattle.tree_core.proofs.Powers.{exponent_below}
use Rattle.tree_core.specs.Laws.{IsSubtree}
use Rattle.tree_core.specs.Tree.{root_of}
use Rattle.tree_peaks.proofs.Pushing.{peaks-following}
use Rattle.tree_peaks.proofs.Tops.{count-peaks, peaks-at, peaks-none, top}
use Rattle.tree_peaks.specs.Peaks.{ArePeaksOf, PeaksState, peaks_of}

-- the larger of two powers of two is a multiple of the other one
power_multiple : (e f : ℕ) → e ≤ f → 2 ^ f ≡ 2 ^ (f - e) * 2 ^ e
power_multiple e f within =
    let sum : f ≡ f - e + e = omega arith in
    ap (λ n. 2 ^ n) sum ∙ pow-add 2 (f - e) e

multiple_of : (c e f : ℕ) → e ≤ f → c * 2 ^ f ≡ c * 2 ^ (f - e) * 2 ^ e
multiple_of c e f within =
    ap (λ p. c * p) (power_multiple e f within) ∙ sym (mul_assoc c (2 ^ (f - e)) (2 ^ e))

-- the peaks of the first leaves, and then those of the rest
pub peaks-joined : (h : HashFunction) (d e c : ℕ) (prefix last : List Hash) → length last ≤ d
    → length prefix ≡ c * 2 ^ e → length last < 2 ^ e
    → peaks_of h (prefix ++ last) ≡ peaks_of h prefix ++ peaks_of h last
peaks-joined h d e c prefix [] small is below =
    ap (peaks_of h) (append-nil prefix)
    ∙ sym (append-nil (peaks_of h prefix))
    ∙ ap (λ ps. peaks_of h prefix ++ ps) (sym (peaks-none h))
peaks-joined h zero e c prefix (x ∷ rest) small is below =
    let none : ⊥ = omega arith in absurd none
peaks-joined h (suc d) e c prefix (x ∷ rest) small is below =
    let last : List Hash = x ∷ rest in
    let highest = top (length last) (omega arith) in
    let f = highest.exponent in
    let r = highest.low in
    let whole = highest.whole in
    let low = highest.below in
    let positive = pow_pos f in
    let less : f < e = exponent_below f e (omega arith) in
    let block : List Hash = take (2 ^ f) last in
    let left : List Hash = drop (2 ^ f) last in
    let one : length block ≡ 2 ^ f = length-take (2 ^ f) last ∙ omega arith in
    let others : length left ≡ r = length-drop (2 ^ f) last ∙ omega arith in
    let parts : block ++ left ≡ last = take-append-drop (2 ^ f) last in
    let even = multiple_of c (suc f) e (omega arith) in
    let blocks = multiple_of c f e (omega arith) in
    let more = add-mul (c * 2 ^ (e - f)) 1 (2 ^ f) in
    let both = length-append prefix block in
    ap (λ xs. peaks_of h (prefix ++ xs)) (sym parts)
    ∙ ap (peaks_of h) (sym (append_assoc prefix block left))
    ∙ peaks-joined h d f (c * 2 ^ (e - f) + 1) (prefix ++ block) left (omega arith) (omega arith)
    (omega arith)
    ∙ ap (λ ps. ps ++ peaks_of h left) (peaks-following h (length prefix) f (c * 2 ^ (e - suc f))
    prefix block (omega arith) (omega arith) one)
    ∙ append_assoc (peaks_of h prefix) (root_of h block ∷ []) (peaks_of h left)
    ∙ ap (λ ps. peaks_of h prefix ++ ps)
    (sym (peaks-at h last f (omega arith) (omega arith)))

-- a subtree begins at a multiple of a power of two, and has no more leaves than that
pub record BeginsAt (start size : ℕ) : Type 0 where
  pub exponent : ℕ
  pub count : ℕ
  pub multiple : start ≡ count * 2 ^ exponent
  pub below : size - start < 2 ^ exponent
  pub within : start ≤ size

pub begins_at : (start size : ℕ) → IsSubtree start (size + 1) → BeginsAt start size
begins_at start size is =
    let some = is.inhabited in
    let power : ℕ = is.aligned.0 in
    let e : ℕ = is.aligned.1.0.power.0 in
    let of : power ≡ 2 ^ e = is.aligned.1.0.power.1 in
    let from = is.aligned.1.0.from in
    let positive = pow_pos e in
    let none : start % 2 ^ e ≡ 0 = ap (λ p. start % p) (sym of) ∙ is.aligned.1.1 in
    let whole = div-add-mod' start (2 ^ e) in
    record {
      exponent = e;
      count = start / 2 ^ e;
      multiple = omega (arith, whole, none);
      below = omega arith;
      within = omega arith;
    }

-- so many peaks stand before those of the rest
pub ones_before : (start size : ℕ) → BeginsAt start size
    → count_ones size ≡ count_ones start + count_ones (size - start)
ones_before start size b =
    let e = b.exponent in
    let multiple = b.multiple in
    let within = b.within in
    let positive = pow_pos e in
    let digits = ones_cat e b.count (size - start) b.below in
    let even = ones_cat e b.count 0 positive in
    let none = ones-le 0 0 (omega arith) in
    let sum : count_ones (b.count * 2 ^ e + (size - start)) ≡ count_ones size =
    ap count_ones (omega arith) in
    let alone : count_ones (b.count * 2 ^ e + 0) ≡ count_ones start = ap count_ones (omega arith) in
    omega arith

-- the peaks from there on are those of the rest
pub part-peaks : (h : HashFunction) (start : ℕ) (state : PeaksState) (leaves : List Hash)
    → BeginsAt start state.size → ArePeaksOf h leaves state
    → ArePeaksOf h (drop start leaves) (record {
      size = state.size - start;
      peaks = drop (count_ones start) state.peaks;
    })
part-peaks h start state leaves b are =
    let size = are.size in
    let within = b.within in
    let multiple = b.multiple in
    let below = b.below in
    let first : List Hash = take start leaves in
    let last : List Hash = drop start leaves in
    let one : length first ≡ start = length-take start leaves ∙ omega arith in
    let rest = length-drop start leaves in
    record {
      size = omega arith;
      peaks = ap (drop (count_ones start)) (are.peaks
          ∙ ap (peaks_of h) (sym (take-append-drop start leaves))
          ∙ peaks-joined h (length last) b.exponent b.count first last (omega arith) (omega arith)
          (omega arith))
          ∙ ap (λ n. drop n (peaks_of h first ++ peaks_of h last))
          (ap count_ones (sym one) ∙ sym (count-peaks h first))
          ∙ drop-append_seam (peaks_of h first) (peaks_of h last);
    }
