-- Lists of landmarks: what is read is written so, and what is written so is read.
use Rattle.std.proofs.Common.{◌≡◌, ◌≢◌, ℕ, zero, suc, ◌+◌, ◌-◌, ◌^◌, ◌<◌, ◌≤◌, false, List, []}
use Rattle.std.proofs.Common.{◌∷◌, ◌++◌, length, get_or, Some, Ok, Err, Result, refl, ap, sym}
use Rattle.std.proofs.Common.{subst}
use Rattle.std.proofs.Common.{◌∙◌, append-nil, append_assoc, arith, decimal, ⊎_elim}
use Rattle.std.specs.Prelude.{◌==◌, ◌&&◌, ◌||◌, not, nat_lt, if◌then◌else◌, flat_map}
use Rattle.std.proofs.lemmas.Bool.{cases_lt, eq-eqb, le-ltb, lt-ltb, ltb-false, ltb-true, ne_eqb}
use Rattle.std.proofs.lemmas.Bool.{or_parts}
use Rattle.std.proofs.lemmas.Bool.Decides.{nat_tests}
use Rattle.std.proofs.lemmas.List.{nil_from_length}
use Rattle.byte_formats.specs.Types.{Text}
use Rattle.byte_formats.specs.Readings.{◌>>=◌, some_or}
use Rattle.byte_formats.proofs.Steps.{bind_ok, guard_ok, ok_is, pass_ok, some_or_ok}
use Rattle.landmarks.specs.Landmarks.{IsAllowed, IsLandmarks, LandmarkList, active_count}
use Rattle.landmarks.specs.Texts.{ListHead, head_line, head_of, line, line_at, list_of}
use Rattle.landmarks.specs.Texts.{list_text, number_line, size_line, size_lines, sizes_of}
use Rattle.landmarks.specs.declared.error.ListError.{ListError}
use Rattle.landmarks.specs.declared.error.ListError.TheVariants.{BadLine, BeyondLog, NotFalling}
use Rattle.landmarks.specs.declared.error.ListError.TheVariants.{TooManyActive}
use Rattle.landmarks.proofs.Lines.{head_lacks, number_again, number_read}
use Rattle.tls_wire.specs.Decimal.{number_of}
use Rattle.tls_wire.specs.Lines.{cut_at}
use Rattle.tls_wire.proofs.Decimals.{decimal_is_number, number_is_decimal}
use Rattle.tls_wire.proofs.Cuts.{cut_again, cut_parts, decimal_lacks}

-- sizes of landmarks from this number down, all below this size
pub record AreSizes (number before : ℕ) (sizes : List ℕ) : Type 0 where
  pub numbered : length sizes ≤ number + 1
  pub first : 0 < length sizes → get_or sizes 0 0 < before
  pub small : (i : ℕ) → get_or sizes i 0 < 2 ^ 63
  pub falls : (i : ℕ) → i + 1 < length sizes → get_or sizes (i + 1) 0 < get_or sizes i 0
  pub zero : length sizes ≡ number + 1 → get_or sizes number 0 ≡ 0

no_sizes : (number before : ℕ) → AreSizes number before []
no_sizes number before = record {
  numbered = omega arith;
  first = λ some. absurd (omega arith);
  small = λ i. omega arith;
  falls = λ i more. absurd (omega arith);
  zero = λ whole. refl;
}

one_more : (number before size : ℕ) (sizes : List ℕ) → size < before → size < 2 ^ 63
    → (number ≡ 0 → size ≡ 0) → length sizes ≤ number → AreSizes (number - 1) size sizes
    → AreSizes number before (size ∷ sizes)
one_more number before size sizes below small at_zero few others = record {
  numbered = omega arith;
  first = λ some. below;
  small = each_small;
  falls = each_falls;
  zero = last_zero number few at_zero others;
}
  where
    each_small : (i : ℕ) → get_or (size ∷ sizes) i 0 < 2 ^ 63
    each_small zero = small
    each_small (suc i) = others.small i

    each_falls : (i : ℕ) → i + 1 < length (size ∷ sizes)
        → get_or (size ∷ sizes) (i + 1) 0 < get_or (size ∷ sizes) i 0
    each_falls zero more = others.first (omega arith)
    each_falls (suc i) more =
        let following : suc i + 1 ≡ suc (i + 1) = omega arith in
        let next : get_or (size ∷ sizes) (suc i + 1) 0 ≡ get_or sizes (i + 1) 0 =
        ap (λ k. get_or (size ∷ sizes) k 0) following in
        let step = others.falls i (omega arith) in
        omega arith

    last_zero : (k : ℕ) → length sizes ≤ k → (k ≡ 0 → size ≡ 0) → AreSizes (k - 1) size sizes
        → length (size ∷ sizes) ≡ k + 1 → get_or (size ∷ sizes) k 0 ≡ 0
    last_zero zero within none more whole = none refl
    last_zero (suc k) within none more whole =
        let before : suc k - 1 ≡ k = omega arith in
        ap (λ i. get_or sizes i 0) (sym before) ∙ more.zero (omega arith)

-- ---- what is read is written so

not_zero : (number size : ℕ) → (number == 0) && not (size == 0) ≡ false → number ≡ 0 → size ≡ 0
not_zero number size test is_zero = grind (arith, nat_tests)

record IsSize (number before : ℕ) (text : Text) (size : ℕ) (rest : Text) : Type 0 where
  encoded : text ≡ line size ++ rest
  below : size < before
  small : size < 2 ^ 63
  zero : number ≡ 0 → size ≡ 0

size_read : (n number before : ℕ) (text : Text) (size : ℕ) (rest : Text)
    → size_line n number before text ≡ Ok (size, rest) → IsSize number before text size rest
unfolding size_line
size_read n number before text size rest e =
    let next : ℕ × Text → Result (ℕ × Text) ListError = λ s.
    if nat_lt s.0 before then Ok s else Err (NotFalling n) in
    let s = bind_ok (number_line n text) (λ (s : ℕ
    × Text). if (number == 0) && not (s.0 == 0) then Err (BadLine n) else next s) (size, rest) e in
    let g = guard_ok ((number == 0) && not (s.0.0 == 0)) (BadLine n) (next s.0) (size, rest) s.2 in
    let p = pass_ok (nat_lt s.0.0 before) (Ok s.0) (NotFalling n) (size, rest) g.1 in
    let known = number_read n text s.0.0 s.0.1 s.1 in
    let P : ℕ × Text → Type 0 = λ x. IsSize number before text x.0 x.1 in
    subst P (ok_is ListError s.0 (size, rest) p.1) (record {
      encoded = known.0;
      below = ltb-true _ _ p.0;
      small = known.1;
      zero = not_zero number s.0.0 g.0;
    })

-- what was read of so many sizes
pub record AreRead (count number before : ℕ) (text : Text) (sizes : List ℕ) (rest : Text)
    : Type 0 where
  pub long : length sizes ≡ count
  pub encoded : text ≡ flat_map line sizes ++ rest
  pub fits : AreSizes number before sizes

pub sizes_read : (count n number before : ℕ) (text : Text) (sizes : List ℕ) (rest : Text)
    → count ≤ number + 1 → size_lines count n number before text ≡ Ok (sizes, rest)
    → AreRead count number before text sizes rest
unfolding size_lines
sizes_read zero n number before text sizes rest few e =
    let P : List ℕ × Text → Type 0 = λ x. AreRead 0 number before text x.0 x.1 in
    subst P (ok_is ListError ([], text) (sizes, rest) e) (record {
      long = refl;
      encoded = refl;
      fits = no_sizes number before;
    })
sizes_read (suc count) n number before text sizes rest few e =
    let one = bind_ok (size_line n number before text) (λ (s : ℕ
    × Text). size_lines count (n + 1) (number - 1) s.0 s.1 >>= λ xs. Ok (s.0 ∷ xs.0, xs.1)) (
      sizes,
      rest,
    ) e in
    let size : ℕ = one.0.0 in
    let more = bind_ok (size_lines count (n + 1) (number - 1) size one.0.1) (λ (xs : List ℕ
    × Text). Ok (size ∷ xs.0, xs.1)) (sizes, rest) one.2 in
    let known = size_read n number before text size one.0.1 one.1 in
    let others = sizes_read count (n + 1) (number - 1) size one.0.1 more.0.0 more.0.1 (omega arith)
    more.1 in
    let long = others.long in
    let P : List ℕ × Text → Type 0 = λ x. AreRead (suc count) number before text x.0 x.1 in
    subst P (ok_is ListError (size ∷ more.0.0, more.0.1) (sizes, rest) more.2) (record {
      long = ap suc others.long;
      encoded = known.encoded
          ∙ (ap (λ t. line size ++ t) others.encoded
          ∙ sym (append_assoc (line size) (flat_map line more.0.0) more.0.1));
      fits = one_more number before size more.0.0 known.below known.small known.zero
          (omega arith) others.fits;
    })

-- ---- what is written so is read

passes : (number size : ℕ) → (number ≡ 0 → size ≡ 0)
    → ((number == 0) && not (size == 0)) ≡ false
passes number size at_zero =
    ⊎_elim
    (λ (some : 0 < number). let other : number ≢ 0 = omega arith in
    rw (ne_eqb number 0 other) refl)
    (λ (none : number ≤ 0).
    rw (eq-eqb size 0 (at_zero (omega arith)), eq-eqb number 0 (omega arith)) refl)
    (cases_lt 0 number)

size_again : (n number before size : ℕ) (rest : Text) → size < before → size < 2 ^ 63
    → (number ≡ 0 → size ≡ 0) → size_line n number before (line size ++ rest) ≡ Ok (size, rest)
unfolding size_line
size_again n number before size rest below small at_zero =
    rw (number_again n size rest small, passes number size at_zero, lt-ltb size before below) refl

without_first : (number before size : ℕ) (sizes : List ℕ) → AreSizes number before (size ∷ sizes)
    → AreSizes (number - 1) size sizes
without_first number before size sizes fits =
    let within = fits.numbered in
    record {
      numbered = omega arith;
      first = λ some. fits.falls 0 (omega arith);
      small = λ i. fits.small (suc i);
      falls = λ i more.
          let step = fits.falls (i + 1) (omega arith) in
          let place : i + 1 ≡ suc i = omega arith in
          let following : i + 1 + 1 ≡ suc (i + 1) = omega arith in
          let upper : get_or (size ∷ sizes) (i + 1) 0 ≡ get_or sizes i 0 =
          ap (λ k. get_or (size ∷ sizes) k 0) place in
          let lower : get_or (size ∷ sizes) (i + 1 + 1) 0 ≡ get_or sizes (i + 1) 0 =
          ap (λ k. get_or (size ∷ sizes) k 0) following in
          omega arith;
      zero = last_zero number fits;
    }
  where
    last_zero : (k : ℕ) → AreSizes k before (size ∷ sizes) → length sizes ≡ k - 1 + 1
        → get_or sizes (k - 1) 0 ≡ 0
    last_zero zero known whole = let none = known.numbered in absurd (omega arith)
    last_zero (suc k) known whole =
        let before : suc k - 1 ≡ k = omega arith in
        ap (λ i. get_or sizes i 0) before ∙ known.zero (omega arith)

pub sizes_again : (sizes : List ℕ) (n number before : ℕ) (rest : Text)
    → AreSizes number before sizes
    → size_lines (length sizes) n number before (flat_map line sizes ++ rest) ≡ Ok (sizes, rest)
unfolding size_lines
sizes_again [] n number before rest fits = refl
sizes_again (size ∷ sizes) n number before rest fits =
    let rest_lines : Text = flat_map line sizes ++ rest in
    let grouped : flat_map line (size ∷ sizes) ++ rest ≡ line size ++ rest_lines =
    append_assoc (line size) (flat_map line sizes) rest in
    let numbered = fits.numbered in
    let at_zero : number ≡ 0 → size ≡ 0 = λ none.
    sym (ap (λ k. get_or (size ∷ sizes) k 0) none) ∙ fits.zero (omega arith) in
    let one = size_again n number before size rest_lines (fits.first (omega arith)) (fits.small 0)
    at_zero in
    let others = sizes_again sizes (n + 1) (number - 1) size rest
    (without_first number before size sizes fits) in
    ap (λ t. size_lines (suc (length sizes)) n number before t) grouped ∙ rw (one, others) refl

-- ---- lists

-- what line 0 says, as it is written
pub record IsHead (text : Text) (head : ListHead) : Type 0 where
  pub encoded : text ≡ decimal head.last ++ (0x20 ∷ line head.active ++ head.rest)
  pub last : head.last < 2 ^ 63

grouped : (last active rest : Text)
    → (last ++ (0x20 ∷ active)) ++ (0x0A ∷ rest) ≡ last ++ (0x20 ∷ (active ++ 0x0A ∷ []) ++ rest)
grouped last active rest =
    append_assoc last (0x20 ∷ active) (0x0A ∷ rest)
    ∙ ap (λ t. last ++ (0x20 ∷ t)) (sym (append_assoc active (0x0A ∷ []) rest))

head_read : (text : Text) (head : ListHead) → head_line text ≡ Ok head → IsHead text head
unfolding head_line
head_read text head e =
    let line = bind_ok (line_at 0 text) (λ (cut : Text × Text). some_or (BadLine 0)
    (cut_at 0x20 cut.0) >>= λ words. some_or (BadLine 0) (number_of words.0) >>= λ m. some_or
    (BadLine 0) (number_of words.1) >>= λ k. Ok (record { last = m; active = k; rest = cut.1 }))
    head e in
    let cut : Text × Text = line.0 in
    let spaced = bind_ok (some_or (BadLine 0) (cut_at 0x20 cut.0)) (λ (words : Text
    × Text). some_or (BadLine 0) (number_of words.0) >>= λ m. some_or (BadLine 0)
    (number_of words.1) >>= λ k. Ok (record { last = m; active = k; rest = cut.1 })) head line.2 in
    let words : Text × Text = spaced.0 in
    let first = bind_ok (some_or (BadLine 0) (number_of words.0)) (λ m. some_or (BadLine 0)
    (number_of words.1) >>= λ k. Ok (record { last = m; active = k; rest = cut.1 })) head
    spaced.2 in
    let second = bind_ok (some_or (BadLine 0) (number_of words.1)) (λ k. Ok (record {
      last = first.0;
      active = k;
      rest = cut.1;
    })) head first.2 in
    let last = number_is_decimal words.0 first.0 (some_or_ok (BadLine 0) (number_of words.0)
    first.0 first.1) in
    let active = number_is_decimal words.1 second.0 (some_or_ok (BadLine 0) (number_of words.1)
    second.0 second.1) in
    let whole = cut_parts 0x0A text cut (some_or_ok (BadLine 0) (cut_at 0x0A text) cut line.1) in
    let parts = cut_parts 0x20 cut.0 words (some_or_ok (BadLine 0) (cut_at 0x20 cut.0) words
    spaced.1) in
    let P : ListHead → Type 0 = IsHead text in
    subst P (ok_is ListError _ head second.2) (record {
      encoded = whole
          ∙ (ap (λ t. t ++ (0x0A ∷ cut.1)) (parts
          ∙ (ap (λ t. t ++ (0x20 ∷ words.1)) (sym last.0)
          ∙ ap (λ t. decimal first.0 ++ (0x20 ∷ t)) (sym active.0)))
          ∙ grouped (decimal first.0) (decimal second.0) cut.1);
      last = last.1;
    })

-- the same, where as many may be active
pub record IsAllowedHead (most : ℕ) (text : Text) (head : ListHead) : Type 0 where
  pub known : IsHead text head
  pub few : head.active ≤ most
  pub numbered : head.active ≤ head.last

pub allowed_read : (most : ℕ) (text : Text) (head : ListHead) → head_of most text ≡ Ok head
    → IsAllowedHead most text head
allowed_read most text head e =
    let one = bind_ok (head_line text) (λ (h : ListHead). if nat_lt most h.active || nat_lt h.last
    h.active then Err TooManyActive else Ok h) head e in
    let test = guard_ok (nat_lt most one.0.active || nat_lt one.0.last one.0.active) TooManyActive
    (Ok one.0) head one.2 in
    let parts = or_parts (nat_lt most one.0.active) (nat_lt one.0.last one.0.active) test.0 in
    let P : ListHead → Type 0 = IsAllowedHead most text in
    subst P (ok_is ListError one.0 head test.1) (record {
      known = head_read text one.0 one.1;
      few = ltb-false _ _ parts.0;
      numbered = ltb-false _ _ parts.1;
    })

-- what was read is landmarks
pub landmarks_read : (most : ℕ) (text : Text) (head : ListHead) (sizes : List ℕ) (rest : Text)
    → head_of most text ≡ Ok head → sizes_of head ≡ Ok (sizes, rest)
    → IsLandmarks (record { last = head.last; sizes = sizes })
landmarks_read most text head sizes rest prefix more =
    let first = allowed_read most text head prefix in
    let numbered = first.numbered in
    let read = sizes_read (head.active + 1) 1 head.last (2 ^ 63) head.rest sizes rest (omega arith)
    more in
    let long = read.long in
    record {
      some = omega arith;
      numbered = omega arith;
      last = first.known.last;
      small = read.fits.small;
      falls = read.fits.falls;
      zero = λ whole. read.fits.zero (omega arith);
    }

pub list_read : (text : Text) (most log_size : ℕ) (l : LandmarkList)
    → list_of text most log_size ≡ Ok l
    → (text ≡ list_text l) × (IsLandmarks l × IsAllowed most log_size l)
unfolding list_of list_text
list_read text most log_size l e =
    let finish : ListHead → List ℕ × Text → Result LandmarkList ListError = λ head sizes.
    if nat_lt log_size (get_or sizes.0 0 0) then Err BeyondLog
    else Ok (record { last = head.last; sizes = sizes.0 }) in
    let one = bind_ok (head_of most text) (λ (head : ListHead). sizes_of head >>= λ sizes.
    if not (length sizes.1 == 0) then Err (BadLine (head.active + 2)) else finish head sizes) l e in
    let head : ListHead = one.0 in
    let two = bind_ok (sizes_of head) (λ (sizes : List ℕ
    × Text). if not (length sizes.1 == 0) then Err (BadLine (head.active + 2))
    else finish head sizes) l one.2 in
    let sizes : List ℕ = two.0.0 in
    let end = guard_ok (not (length two.0.1 == 0)) (BadLine (head.active + 2)) (finish head two.0)
    l two.2 in
    let within = guard_ok (nat_lt log_size (get_or sizes 0 0)) BeyondLog (Ok (record {
      last = head.last;
      sizes = sizes;
    })) l end.1 in
    let first = allowed_read most text head one.1 in
    let numbered = first.numbered in
    let few = first.few in
    let read = sizes_read (head.active + 1) 1 head.last (2 ^ 63) head.rest sizes two.0.1
    (omega arith) two.1 in
    let long = read.long in
    let none : two.0.1 ≡ [] = nil_from_length two.0.1 (grind (arith, nat_tests, end.0)) in
    let count : head.active ≡ length sizes - 1 = omega arith in
    let P : LandmarkList → Type 0 = λ x.
    (text ≡ list_text x) × (IsLandmarks x × IsAllowed most log_size x) in
    subst P (ok_is ListError (record { last = head.last; sizes = sizes }) l within.1) (
      first.known.encoded
          ∙ (ap (λ t. decimal head.last ++ (0x20 ∷ line head.active ++ t)) (read.encoded
          ∙ (ap (λ t. flat_map line sizes ++ t) none ∙ append-nil (flat_map line sizes)))
          ∙ ap (λ k. decimal head.last ++ (0x20 ∷ line k ++ flat_map line sizes)) count),
      (
        landmarks_read most text head sizes two.0.1 one.1 two.1,
        record { few = omega arith; within = ltb-false _ _ within.0 },
      ),
    )

head_again : (last active : ℕ) (rest : Text) → last < 2 ^ 63 → active < 2 ^ 63
    → head_line (decimal last ++ (0x20 ∷ line active ++ rest))
    ≡ Ok (record { last = last; active = active; rest = rest })
unfolding head_line
head_again last active rest small few =
    let prefix : Text = decimal last ++ (0x20 ∷ decimal active) in
    let cut : cut_at 0x0A (decimal last ++ (0x20 ∷ line active ++ rest)) ≡ Some (prefix, rest) =
    ap (cut_at 0x0A) (sym (grouped (decimal last) (decimal active) rest))
    ∙ cut_again 0x0A prefix rest (head_lacks last active small few) in
    let words : cut_at 0x20 prefix ≡ Some (decimal last, decimal active) =
    cut_again 0x20 (decimal last) (decimal active)
    (decimal_lacks 0x20 last (omega arith) small) in
    rw (cut, words, decimal_is_number last small, decimal_is_number active few) refl

pub list_again : (most log_size : ℕ) (l : LandmarkList) → IsLandmarks l
    → IsAllowed most log_size l → list_of (list_text l) most log_size ≡ Ok l
unfolding list_of list_text
list_again most log_size l known allowed =
    let numbered = known.numbered in
    let small = known.last in
    let some = known.some in
    let few = allowed.few in
    let lines : Text = flat_map line l.sizes in
    let head = head_again l.last (active_count l) lines small (omega arith) in
    let fits : AreSizes l.last (2 ^ 63) l.sizes = record {
      numbered = omega arith;
      first = λ any. known.small 0;
      small = known.small;
      falls = known.falls;
      zero = λ whole. known.zero (omega arith);
    } in
    let count : active_count l + 1 ≡ length l.sizes = omega arith in
    let sizes : size_lines (active_count l + 1) 1 l.last (2 ^ 63) lines ≡ Ok (l.sizes, []) =
    ap (λ k. size_lines k 1 l.last (2 ^ 63) lines) count
    ∙ (ap (size_lines (length l.sizes) 1 l.last (2 ^ 63)) (sym (append-nil lines))
    ∙ sizes_again l.sizes 1 l.last (2 ^ 63) [] fits) in
    rw (
      head,
      le-ltb most (active_count l) few,
      le-ltb l.last (active_count l) numbered,
      sizes,
      le-ltb log_size (get_or l.sizes 0 0) allowed.within,
    ) refl
