-- Reading peaks one after another.
use Rattle.std.proofs.Common.{◌≡◌, ℕ, zero, suc, ◌-◌, ◌<◌, ◌≤◌, true, false, List, [], ◌∷◌, ◌++◌}
use Rattle.std.proofs.Common.{take, drop, get_or, length, Option, Some, None, Err, refl, sym, ap}
use Rattle.std.proofs.Common.{◌∙◌, append-nil, append_assoc, arith}
use Rattle.std.specs.Prelude.{◌==◌, option_map}
use Rattle.std.specs.Option.{option_and_then}
use Rattle.std.proofs.lemmas.Bool.{eq-eqb, le-leb}
use Rattle.std.proofs.lemmas.List.{take_rest}
use Rattle.std.proofs.lemmas.Option.{same_Some}
use Rattle.byte_formats.proofs.Values.{map_some, then_some, when_some}
use Rattle.byte_formats.specs.Readings.{some_or}
use Rattle.byte_formats.specs.Types.{Hash, Text}
use Rattle.monitor_core.specs.Reading.{lower_hash_in, peak_in, peaks_in}
use Rattle.monitor_core.specs.declared.error.TextError.{TextError}
use Rattle.monitor_core.specs.declared.error.TextError.TheVariants.{BadLine}

-- a peak that is read
pub peak_found : (text : Text) (hash : Hash) → 65 ≤ length text → get_or text 0 0 ≡ 0x20
    → lower_hash_in (take 64 (drop 1 text)) ≡ Some hash
    → Some (hash, take (length text - 65) (drop 65 text)) ≡ peak_in text
unfolding peak_in
peak_found text hash enough first is =
    ap (λ (rest : Text). Some (hash, rest)) (take_rest text 65)
    ∙ sym (rw (le-leb 65 (length text) enough, eq-eqb (get_or text 0 0) 0x20 first, is) refl)

-- as many as are asked for
pub peaks_count : (count : ℕ) (text : Text) (peaks : List Hash) → peaks_in count text ≡ Some peaks
    → length peaks ≡ count
unfolding peaks_in
peaks_count zero text peaks e =
    let parts = when_some (length text == 0) (Some []) peaks e in
    sym (ap length (same_Some [] peaks parts.1))
peaks_count (suc count) text peaks e =
    let first = then_some (λ (peak : Hash × Text). option_map (λ (more : List Hash). peak.0 ∷ more)
    (peaks_in count peak.1)) (peak_in text) peaks e in
    let others = map_some (λ (more : List Hash). first.0.0 ∷ more) (peaks_in count first.0.1) peaks
    first.2 in
    sym (ap length others.2) ∙ ap suc (peaks_count count first.0.1 others.0 others.1)

-- the peaks so far and those that are read from here on
abbrev pub with_later : List Hash → Option (List Hash) → Option (List Hash)
with_later done more = option_map (λ peaks. done ++ peaks) more

pub later_from : (done : List Hash) (all : Option (List Hash)) → done ≡ []
    → with_later done all ≡ all
later_from done (Some all) none = ap (λ xs. Some (xs ++ all)) none
later_from done None none = refl

with_one : (done : List Hash) (hash : Hash) (more : Option (List Hash))
    → with_later done (option_map (λ peaks. hash ∷ peaks) more)
    ≡ with_later (done ++ hash ∷ []) more
with_one done hash (Some peaks) = ap Some (sym (append_assoc done (hash ∷ []) peaks))
with_one done hash None = refl

-- one more
pub later_more : (left : ℕ) (text rest : Text) (hash : Hash) (done now : List Hash) → 0 < left
    → peak_in text ≡ Some (hash, rest) → now ≡ done ++ hash ∷ []
    → with_later done (peaks_in left text) ≡ with_later now (peaks_in (left - 1) rest)
unfolding peaks_in
later_more zero text rest hash done now some is grown = absurd (omega arith)
later_more (suc left) text rest hash done now some is grown =
    let before : suc left - 1 ≡ left = omega arith in
    ap (λ (o : Option (Hash × Text)). with_later done (option_and_then (λ peak. option_map
    (λ peaks. peak.0 ∷ peaks) (peaks_in left peak.1)) o)) is
    ∙ with_one done hash (peaks_in left rest)
    ∙ ap (λ xs. with_later xs (peaks_in left rest)) (sym grown)
    ∙ ap (λ k. with_later now (peaks_in k rest)) (sym before)

-- a fault
pub later_fails : (left : ℕ) (text : Text) (done : List Hash) → 0 < left → peak_in text ≡ None
    → with_later done (peaks_in left text) ≡ None
unfolding peaks_in
later_fails zero text done some is = absurd (omega arith)
later_fails (suc left) text done some is =
    ap (λ (o : Option (Hash × Text)). with_later done (option_and_then (λ peak. option_map
    (λ peaks. peak.0 ∷ peaks) (peaks_in left peak.1)) o)) is

-- the end
pub later_end : (left : ℕ) (text : Text) (done : List Hash) → left ≤ 0 → (length text == 0) ≡ true
    → with_later done (peaks_in left text) ≡ Some done
unfolding peaks_in
later_end zero text done all none = rw none (ap Some (append-nil done))
later_end (suc left) text done all none = absurd (omega arith)

-- something after the last one
pub later_over : (left : ℕ) (text : Text) (done : List Hash) → left ≤ 0 → (length text == 0) ≡ false
    → with_later done (peaks_in left text) ≡ None
unfolding peaks_in
later_over zero text done all some = rw some refl
later_over (suc left) text done all some = absurd (omega arith)

-- a fault, as the line has it
pub later_fault : (n left : ℕ) (text : Text) (done : List Hash) (e : TextError)
    (all : Option (List Hash)) → with_later done (peaks_in left text) ≡ all → 0 < left
    → some_or (BadLine n) (peak_in text) ≡ Err e → some_or (BadLine n) all ≡ Err e
later_fault n left text done e all same some fault = go (peak_in text) refl fault
  where
    go : (o : Option (Hash × Text)) → peak_in text ≡ o → some_or (BadLine n) o ≡ Err e
        → some_or (BadLine n) all ≡ Err e
    go None is reported =
        let why : BadLine n ≡ e = cc in
        ap (λ (o : Option (List Hash)). some_or (BadLine n) o)
        (sym same ∙ later_fails left text done some is)
        ∙ ap (λ (d : TextError). Err d) why
    go (Some peak) is reported = absurd cc
