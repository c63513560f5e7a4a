-- Files of entries: what is read is the encoding of its items, and that encoding is read as them.
use Rattle.std.proofs.Common.{◌≡◌, ℕ, zero, suc, ◌+◌, ◌<◌, ◌≤◌, true, List, [], ◌∷◌, ◌++◌, length}
use Rattle.std.proofs.Common.{drop, get_or, map, take, Result, Ok, refl, sym, ap, subst, ◌∙◌}
use Rattle.std.proofs.Common.{arith}
use Rattle.std.specs.Int.{w16, to_be_bytes}
use Rattle.std.specs.List.{concat, range_with_len, flat_map}
use Rattle.std.proofs.lemmas.List.{drop-map, get_or-drop, get_or-map, get_or-take, length-append}
use Rattle.std.proofs.lemmas.List.{length-drop, length-map, length-take-le, take-map}
use Rattle.std.proofs.Math.Seq.{take-length}
use Rattle.byte_formats.specs.Types.{HashFunction, Text}
use Rattle.byte_formats.specs.Offsets.{At, IsBytes, at}
use Rattle.byte_formats.specs.Readings.{◌>>=◌}
use Rattle.byte_formats.specs.Forms.{Anything, FitsBoth, FitsEach, IsForm, Nothing, both}
use Rattle.byte_formats.specs.Lists.{each_at}
use Rattle.byte_formats.proofs.FormLaws.{lifted_form, tested_form, then_form, to_end_again}
use Rattle.byte_formats.proofs.FormLaws.{to_end_takes}
use Rattle.byte_formats.proofs.FormLists.{each_drains, each_form}
use Rattle.byte_formats.proofs.Steps.{bind_ok, ok_is}
use Rattle.tls_wire.specs.Encoding.{vector}
use Rattle.tls_wire.proofs.Numbers.{wide16}
use Rattle.tls_wire.proofs.Vectors.{vector_form}
use Rattle.entry_list.specs.Items.{AreItems, FitsFile, ItemLists, file_part, file_text, first_items}
use Rattle.entry_list.specs.Items.{is_key_of, later_items, listed_text, lists_of}
use Rattle.entry_list.specs.Reading.{listed_at, item_after, all_listed_at, items_in, short_item}
use Rattle.entry_list.specs.Reading.{vector_item}
use Rattle.entry_list.specs.declared.error.ItemsError.{ItemsError}
use Rattle.entry_list.specs.declared.error.ItemsError.TheVariants.{BadItem}

-- ---- one item

abbrev pub Pair : Type 0
Pair = Text × Text

abbrev pub IsShort : Text → Type 0
IsShort bytes = length bytes < 65536

abbrev pub pair_text : Pair → Text
pair_text = both (vector w16) (vector w16)

abbrev pub Fits : HashFunction → Pair → Type 0
Fits h x = FitsBoth IsShort IsShort x × (is_key_of h x.0 x.1 ≡ true)

vector_item_form : IsForm (vector w16) IsShort Anything vector_item
vector_item_form = lifted_form (vector_form w16 65536 wide16) short_item

pub item_form : (h : HashFunction) (n : ℕ) → IsForm pair_text (Fits h) Anything (listed_at h n)
unfolding listed_at
item_form h n =
    tested_form (then_form vector_item_form vector_item_form) (λ x. is_key_of h x.0 x.1) (BadItem n)

some_bytes : (x : Pair) → 0 < length (pair_text x)
some_bytes x =
    let head : length (to_be_bytes w16 (length x.0)) ≡ 2 = refl in
    omega (
      arith,
      head,
      length-append (vector w16 x.0) (vector w16 x.1),
      length-append (to_be_bytes w16 (length x.0)) x.0,
    )

-- ---- all of them

abbrev itself : Pair → Pair
itself x = x

abbrev EachFits : HashFunction → List Pair → List Pair → Type 0
EachFits h = FitsEach itself (λ seen. Fits h)

items_form : (h : HashFunction) → IsForm (flat_map pair_text) (EachFits h []) Nothing
    (λ a. each_at itself (item_after h) (length a.rest) [] a)
items_form h = each_form itself (λ seen. item_form h (length seen)) (λ seen x f. some_bytes x) []

drains : (h : HashFunction) (a : At) (xs : List Pair) (b : At) → IsBytes a.rest
    → each_at itself (item_after h) (length a.rest) [] a ≡ Ok (xs, b) → b.rest ≡ []
drains h = each_drains itself (λ seen. item_form h (length seen)) (λ seen x f. some_bytes x) []

-- ---- two lists as one of pairs

abbrev none : Pair
none = ([], [])

pub pairs_of : List Text → List Text → List Pair
pairs_of [] keys = []
pairs_of (entry ∷ entries) [] = []
pairs_of (entry ∷ entries) (key ∷ keys) = (entry, key) ∷ pairs_of entries keys

lists_again : (entries keys : List Text) → length keys ≡ length entries
    → lists_of (pairs_of entries keys) ≡ record { entries = entries; keys = keys }
unfolding pairs_of
lists_again [] [] even = refl
lists_again [] (key ∷ keys) even = absurd (omega arith)
lists_again (entry ∷ entries) [] even = absurd (omega arith)
lists_again (entry ∷ entries) (key ∷ keys) even =
    ap (λ (l : ItemLists). record { entries = entry ∷ l.entries; keys = key ∷ l.keys })
    (lists_again entries keys (omega arith))

-- ---- the encoding

listed_text_is : (pairs : List Pair) (i : ℕ) → i < length pairs
    → listed_text (lists_of pairs) i ≡ pair_text (get_or pairs i none)
listed_text_is pairs i below =
    rw (
      get_or-map (λ (x : Pair). x.0) pairs i none [] below,
      get_or-map (λ (x : Pair). x.1) pairs i none [] below,
    ) refl

text_from : (items : ItemLists) (pairs : List Pair) (k : ℕ)
    → ((i : ℕ) → i < length pairs → listed_text items (k + i) ≡ pair_text (get_or pairs i none))
    → concat (map (listed_text items) (range_with_len k (length pairs))) ≡ flat_map pair_text pairs
text_from items [] k each = refl
text_from items (x ∷ xs) k each =
    let here : k + 0 ≡ k = omega arith in
    let one : listed_text items k ≡ pair_text x =
    ap (listed_text items) (sym here) ∙ each 0 (omega arith) in
    let others : (i : ℕ) → i < length xs
    → listed_text items (k + 1 + i) ≡ pair_text (get_or xs i none) = λ i below.
    let next : k + 1 + i ≡ k + suc i = omega arith in
    ap (listed_text items) next ∙ each (suc i) (omega arith) in
    let following : Text = concat (map (listed_text items) (range_with_len (k + 1) (length xs))) in
    ap (λ (t : Text). t ++ following) one
    ∙ ap (λ (t : Text). pair_text x ++ t) (text_from items xs (k + 1) others)

text_is : (pairs : List Pair) (first count : ℕ) → first + count ≤ length pairs
    → file_part (lists_of pairs) first count ≡ flat_map pair_text (take count (drop first pairs))
text_is pairs first count le =
    let part : List Pair = drop first pairs in
    let enough : count ≤ length part = omega (arith, length-drop first pairs) in
    let long : length (take count part) ≡ count = length-take-le count part enough in
    let each : (i : ℕ) → i < length (take count part)
    → listed_text (lists_of pairs) (first + i) ≡ pair_text (get_or (take count part) i none) =
    λ i below.
    let small : i < count = omega arith in
    let inside : first + i < length pairs = omega arith in
    listed_text_is pairs (first + i) inside
    ∙ ap pair_text (sym (get_or-take count part i none small ∙ get_or-drop first pairs i none)) in
    ap (λ (n : ℕ). concat (map (listed_text (lists_of pairs)) (range_with_len first n))) (sym long)
    ∙ text_from (lists_of pairs) (take count part) first each

-- ---- what fits

each_fits : (h : HashFunction) (seen pairs : List Pair)
    → ((i : ℕ) → i < length pairs → Fits h (get_or pairs i none)) → EachFits h seen pairs
each_fits h seen [] each = tt
each_fits h seen (x ∷ xs) each =
    (each 0 (omega arith), each_fits h (seen ++ x ∷ []) xs (λ i below. each (suc i) (omega arith)))

fits_at : (h : HashFunction) (seen pairs : List Pair) → EachFits h seen pairs
    → (i : ℕ) → i < length pairs → Fits h (get_or pairs i none)
fits_at h seen [] each i below = absurd (omega arith)
fits_at h seen (x ∷ xs) each zero below = each.0
fits_at h seen (x ∷ xs) each (suc i) below =
    fits_at h (seen ++ x ∷ []) xs each.1 i (omega arith)

-- ---- both ways

are_items : (h : HashFunction) (pairs : List Pair) → EachFits h [] pairs
    → AreItems h (lists_of pairs) × FitsFile (lists_of pairs)
are_items h pairs each =
    let count : length (map (λ (x : Pair). x.0) pairs) ≡ length pairs =
    length-map pairs (λ (x : Pair). x.0) in
    let other : length (map (λ (x : Pair). x.1) pairs) ≡ length pairs =
    length-map pairs (λ (x : Pair). x.1) in
    let entry : (i : ℕ) → i < length pairs
    → get_or (map (λ (x : Pair). x.0) pairs) i [] ≡ (get_or pairs i none).0 = λ i below.
    get_or-map (λ (x : Pair). x.0) pairs i none [] below in
    let key : (i : ℕ) → i < length pairs
    → get_or (map (λ (x : Pair). x.1) pairs) i [] ≡ (get_or pairs i none).1 = λ i below.
    get_or-map (λ (x : Pair). x.1) pairs i none [] below in (
      record {
        even = other ∙ sym count;
        each = λ i below.
            let inside : i < length pairs = omega arith in
            rw (entry i inside, key i inside) (fits_at h [] pairs each i inside).1;
      },
      record {
        entries = λ i below.
            let inside : i < length pairs = omega arith in
            rw (entry i inside) (fits_at h [] pairs each i inside).0.0;
        keys = λ i below.
            let inside : i < length pairs = omega arith in
            rw (key i inside) (fits_at h [] pairs each i inside).0.1;
      },
    )

pub items_only : (h : HashFunction) (bytes : Text) (items : ItemLists) → IsBytes bytes
    → items_in h bytes ≡ Ok items
    → (bytes ≡ file_text items (length items.entries)) × (AreItems h items × FitsFile items)
unfolding items_in all_listed_at
items_only h bytes items are e =
    let a : At = at bytes 0 in
    let s = bind_ok (each_at itself (item_after h) (length a.rest) [] a) (λ (x : List Pair
    × At). Ok (lists_of x.0)) items e in
    let pairs : List Pair = s.0.0 in
    let known =
    to_end_takes (items_form h) a pairs s.0.1 are s.1 (drains h a pairs s.0.1 are s.1) in
    let count : length (map (λ (x : Pair). x.0) pairs) ≡ length pairs =
    length-map pairs (λ (x : Pair). x.0) in
    let text : file_text (lists_of pairs) (length (lists_of pairs).entries)
    ≡ flat_map pair_text pairs =
    ap (λ (n : ℕ). file_text (lists_of pairs) n) count
    ∙ (text_is pairs 0 (length pairs) (omega arith)
    ∙ ap (flat_map pair_text) (take-length pairs)) in
    let P : ItemLists → Type 0 = λ l. (bytes ≡ file_text l (length l.entries))
    × (AreItems h l × FitsFile l) in
    subst P (ok_is ItemsError (lists_of pairs) items s.2)
    (known.0 ∙ sym text, are_items h pairs known.1)

fits_all : (h : HashFunction) (pairs : List Pair) → AreItems h (lists_of pairs)
    → FitsFile (lists_of pairs) → (i : ℕ) → i < length pairs → Fits h (get_or pairs i none)
fits_all h pairs are short i below =
    let inside : i < length (map (λ (x : Pair). x.0) pairs) =
    omega (arith, length-map pairs (λ (x : Pair). x.0)) in
    let entry = get_or-map (λ (x : Pair). x.0) pairs i none [] below in
    let key = get_or-map (λ (x : Pair). x.1) pairs i none [] below in
    let E : Text → Type 0 = λ e. length e < 65536 in
    let B : Text → Text → Type 0 = λ e k. is_key_of h e k ≡ true in (
      (subst E entry (short.entries i inside), subst E key (short.keys i inside)),
      subst (λ (k : Text). B (get_or pairs i none).0 k) key
          (subst (λ (e : Text). B e (get_or (map (λ (x : Pair). x.1) pairs) i [])) entry
          (are.each i inside)),
    )

again_pairs : (h : HashFunction) (pairs : List Pair) (first count : ℕ)
    → AreItems h (lists_of pairs) → FitsFile (lists_of pairs) → first + count ≤ length pairs
    → items_in h (file_part (lists_of pairs) first count)
    ≡ Ok (first_items count (later_items first (lists_of pairs)))
unfolding items_in all_listed_at
again_pairs h pairs first count are short le =
    let part : List Pair = drop first pairs in
    let some : List Pair = take count part in
    let enough : count ≤ length part = omega (arith, length-drop first pairs) in
    let long : length some ≡ count = length-take-le count part enough in
    let fits : EachFits h [] some = each_fits h [] some (λ i below.
    let small : i < count = omega arith in
    let inside : first + i < length pairs = omega arith in
    subst (Fits h) (sym (get_or-take count part i none small ∙ get_or-drop first pairs i none))
    (fits_all h pairs are short (first + i) inside)) in
    let whole = ap (λ (t : Text). each_at itself (item_after h) (length t) [] (record {
      place = 0;
      rest = t;
    })) (text_is pairs first count le) ∙ to_end_again (items_form h) refl some 0 fits in
    ap (λ (r : Result (List Pair × At) ItemsError). r >>= λ (x : List Pair
    × At). Ok (lists_of x.0)) whole
    ∙ rw (
      drop-map (λ (x : Pair). x.0) first pairs,
      drop-map (λ (x : Pair). x.1) first pairs,
      take-map (λ (x : Pair). x.0) count part,
      take-map (λ (x : Pair). x.1) count part,
    ) refl

pub part_again : (h : HashFunction) (items : ItemLists) (first count : ℕ) → AreItems h items
    → FitsFile items → first + count ≤ length items.entries
    → items_in h (file_part items first count) ≡ Ok (first_items count (later_items first items))
part_again h items first count are short le =
    let pairs = pairs_of items.entries items.keys in
    let same = lists_again items.entries items.keys are.even in
    let long : first + count ≤ length pairs = omega (
      arith,
      length-map pairs (λ (x : Pair). x.0),
      ap (λ (l : ItemLists). length l.entries) same,
    ) in
    let P : ItemLists → Type 0 = λ l. AreItems h l → FitsFile l
    → items_in h (file_part l first count) ≡ Ok (first_items count (later_items first l)) in
    subst P same (λ a s. again_pairs h pairs first count a s long) are short

pub items_again : (h : HashFunction) (items : ItemLists) (count : ℕ) → AreItems h items
    → FitsFile items → count ≤ length items.entries
    → items_in h (file_text items count) ≡ Ok (first_items count items)
items_again h items count are short le =
    let within : 0 + count ≤ length items.entries = omega arith in
    part_again h items 0 count are short within
