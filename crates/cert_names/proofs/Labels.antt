-- The labels of a text, one after another.
use Rattle.std.proofs.Common.{◌≡◌, ℕ, zero, suc, ◌+◌, ◌<◌, ◌≤◌, nat_lt, nat_le, Bool, true, false}
use Rattle.std.proofs.Common.{◌||◌, ◌&&◌, cond, List, [], ◌∷◌, length, get_or, take, drop, Option}
use Rattle.std.proofs.Common.{Some, None, is_some, codes, refl, ap, sym, ◌∙◌, subst, arith}
use Rattle.std.proofs.lemmas.Bool.{and_from, and_parts, false≢true}
use Rattle.std.proofs.lemmas.Bool.Decides.{nat_tests}
use Rattle.std.proofs.lemmas.Slice.Eq.{bytes_eq-Decides}
use Rattle.std.proofs.lemmas.List.Splits.{join_with_byte-slice_split, length-slice_split}
use Rattle.std.proofs.lemmas.List.Splits.{slice_split_at, slice_split_first, slice_split_none}
use Rattle.std.proofs.lemmas.List.Sums.{AllPass-from_list_all, fails_before_first}
use Rattle.std.specs.List.{All, join_with_byte, list_all, position, position_or_len, slice_split}
use Rattle.std.specs.Option.{unwrap_or}
use Rattle.std.specs.Str.{bytes_eq}
use Rattle.byte_formats.specs.Types.{Text}
use Rattle.cert_names.specs.Hosts.{is_dot, is_label, is_label_at, is_label_byte, are_labels}
use Rattle.cert_names.specs.Hosts.{labels_of, is_host_name, AreJoined}

-- ---- The first dot

first_at : (xs : Text) (i : ℕ) (b : Bool) → nat_lt (position_or_len is_dot xs) (length xs) ≡ b
    → cond b (Some (position_or_len is_dot xs)) None ≡ Some i → (position_or_len is_dot xs ≡ i)
    × (position_or_len is_dot xs < length xs)
first_at xs i true e h = (ap (λ (o : Option ℕ). unwrap_or o 0) h, grind (arith, nat_tests, e))
first_at xs i false e h = absurd (false≢true (ap is_some h))

nowhere : (xs : Text) (b : Bool) → nat_lt (position_or_len is_dot xs) (length xs) ≡ b
    → cond b (Some (position_or_len is_dot xs)) None ≡ None → length xs ≤ position_or_len is_dot xs
nowhere xs true e h = absurd (false≢true (sym (ap is_some h)))
nowhere xs false e h = grind (arith, nat_tests, e)

-- A label ends at the first dot, and the others follow it.
pub labels_of-dot : (xs : Text) (i : ℕ) → position is_dot xs ≡ Some i
    → labels_of xs ≡ take i xs ∷ labels_of (drop (i + 1) xs)
unfolding labels_of
labels_of-dot xs i h =
    let (same, lt) = first_at xs i (nat_lt (position_or_len is_dot xs) (length xs)) refl h in
    let P : ℕ → Type 0 = λ n. slice_split is_dot xs
    ≡ take n xs ∷ slice_split is_dot (drop (n + 1) xs) in
    subst P same (slice_split_first is_dot xs 0 lt)

-- Without a dot the text is the last label.
pub labels_of-last : (xs : Text) → position is_dot xs ≡ None → labels_of xs ≡ xs ∷ []
unfolding labels_of
labels_of-last xs h =
    let far : length xs ≤ position_or_len is_dot xs =
    nowhere xs (nat_lt (position_or_len is_dot xs) (length xs)) refl h in
    slice_split_none is_dot xs (λ k d lt. fails_before_first is_dot xs k d (omega (arith, far, lt)))

-- ---- labels with dots between them

label_byte_no_dot : (b : ℕ) → is_label_byte b ≡ true → is_dot b ≡ false
label_byte_no_dot b h = grind (arith, nat_tests, h)

label_no_dot : (l : Text) → is_label l ≡ true → All (λ b. is_dot b ≡ false) l
unfolding is_label
label_no_dot l h =
    let bytes : list_all is_label_byte l ≡ true = (and_parts _ (list_all is_label_byte l) h).1 in
    λ k d lt. label_byte_no_dot (get_or l k d) (AllPass-from_list_all is_label_byte l bytes k d lt)

star_no_dot : All (λ b. is_dot b ≡ false) (codes "*")
star_no_dot zero d lt = refl
star_no_dot (suc k) d lt = absurd (omega arith)

label_or_star_no_dot : (b : Bool) (l : Text) → is_label l ≡ b → (b || bytes_eq l (codes "*")) ≡ true
    → All (λ c. is_dot c ≡ false) l
label_or_star_no_dot true l e h = label_no_dot l e
label_or_star_no_dot false l e h =
    let P : Text → Type 0 = λ text. All (λ c. is_dot c ≡ false) text in
    subst P (sym ((bytes_eq-Decides l (codes "*")).0 h)) star_no_dot

label_at_no_dot : (first : Bool) (l : Text) → is_label_at first l ≡ true
    → All (λ b. is_dot b ≡ false) l
label_at_no_dot true l h = label_or_star_no_dot (is_label l) l refl h
label_at_no_dot false l h = label_no_dot l h

-- Labels that were joined are found again.
split_joined : (first : Bool) (l : Text) (ls : List Text) → are_labels first (l ∷ ls) ≡ true
    → slice_split is_dot (join_with_byte 46 (l ∷ ls)) ≡ l ∷ ls
split_joined first l [] h =
    slice_split_none is_dot l (label_at_no_dot first l (and_parts (is_label_at first l) true h).0)
split_joined first l (m ∷ ls) h =
    let (here, more) = and_parts (is_label_at first l) (are_labels false (m ∷ ls)) h in
    slice_split_at is_dot l 46 (join_with_byte 46 (m ∷ ls)) (label_at_no_dot first l here) refl
    ∙ ap (λ (parts : List Text). l ∷ parts) (split_joined false m ls more)

split_again : (ls : List Text) → 1 ≤ length ls → are_labels true ls ≡ true
    → slice_split is_dot (join_with_byte 46 ls) ≡ ls
split_again [] one h = absurd (omega arith)
split_again (l ∷ ls) one h = split_joined true l ls h

pub cut : (text : Text) → is_host_name text ≡ true → AreJoined text
unfolding is_host_name labels_of
cut text h =
    let (sizes, labels) = and_parts (nat_le 1 (length text) && nat_le (length text) 253)
    (are_labels true (slice_split is_dot text)) h in
    let (some, short) = and_parts (nat_le 1 (length text)) (nat_le (length text) 253) sizes in
    record {
      labels = slice_split is_dot text;
      one = omega (arith, length-slice_split is_dot text);
      each = labels;
      joined = sym (join_with_byte-slice_split 46 text);
      some = grind (arith, nat_tests, some);
      short = grind (arith, nat_tests, short);
    }

pub joined : (text : Text) → AreJoined text → is_host_name text ≡ true
unfolding is_host_name labels_of
joined text j =
    let some : nat_le 1 (length text) ≡ true = grind (arith, nat_tests, j.some) in
    let short : nat_le (length text) 253 ≡ true = grind (arith, nat_tests, j.short) in
    let parts : slice_split is_dot text ≡ j.labels = ap (slice_split is_dot) j.joined
    ∙ split_again j.labels j.one j.each in
    and_from (nat_le 1 (length text) && nat_le (length text) 253)
    (are_labels true (slice_split is_dot text))
    (and_from (nat_le 1 (length text)) (nat_le (length text) 253) some short)
    (ap (are_labels true) parts ∙ j.each)
