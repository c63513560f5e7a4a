-- The items that begin bytes, one after the other, and the items of a Batch.
use Rattle.std.proofs.Common.{◌≡◌, ◌≢◌, ℕ, zero, suc, ◌+◌, ◌*◌, ◌^◌, ◌<◌, ◌≤◌, ◌==◌, ◌&&◌, List, []}
use Rattle.std.proofs.Common.{◌∷◌}
use Rattle.std.proofs.Common.{◌++◌, ne_eqb}
use Rattle.std.proofs.Common.{Bool, true, false, length, Option, Some, None, Result, Ok, Err, refl}
use Rattle.std.proofs.Common.{ap, sym, subst, ◌∙◌, arith, append-nil, append_assoc}
use Rattle.std.proofs.Common.{option_and_then, nat_le}
use Rattle.std.specs.Prelude.{flat_map, if◌then◌else◌}
use Rattle.std.specs.Int.{w8, w16}
use Rattle.std.proofs.lemmas.Bool.{eq-eqb, eqb-true, le-leb}
use Rattle.std.proofs.lemmas.List.{length-append, nil_from_length}
use Rattle.std.proofs.lemmas.Option.{same_Some}
use Rattle.byte_formats.specs.Types.{Text}
use Rattle.byte_formats.specs.Offsets.{At, at, IsBytes}
use Rattle.byte_formats.specs.Forms.{FitsBoth}
use Rattle.byte_formats.specs.Lists.{up_to_end}
use Rattle.byte_formats.specs.Readings.{◌>>=◌, whole_of}
use Rattle.byte_formats.proofs.FormLaws.{whole_again, whole_takes}
use Rattle.tls_wire.specs.Reading.{number_at}
use Rattle.tls_wire.specs.declared.cursor.Short.{Short}
use Rattle.tls_wire.proofs.Numbers.{number_form, wide8, wide16}
use Rattle.issuance_log.specs.Batches.{and_later, is_filled, item_and_rest, items_within}
use Rattle.issuance_log.specs.Batches.{leading_item, leading_items}
use Rattle.issuance_log.specs.Records.{HaveShortItems, IsShort, batch_at, batch_in, batch_tag}
use Rattle.issuance_log.specs.Records.{counted_items, entry_at, item_text, tagged}
use Rattle.issuance_log.proofs.Encoded.{entry_form, item_some, items_form}
use Rattle.issuance_log.proofs.Fitting.{length-item}

-- An item that begins bytes: these are its text and the bytes after it.
pub record Begins (bytes : Text) (x : Text × Text) (rest : Text) : Type 0 where
  pub parts : bytes ≡ item_text x ++ rest
  pub fits : FitsBoth IsShort IsShort x
  pub left : IsBytes rest
  pub less : length rest < length bytes

pub begins : (bytes : Text) (x : Text × Text) (rest : Text) → IsBytes bytes
    → leading_item bytes ≡ Some (x, rest) → Begins bytes x rest
begins bytes x rest h is = go (entry_at (at bytes 0)) refl is
  where
    go : (r : Result ((Text × Text) × At) Short) → entry_at (at bytes 0) ≡ r
        → item_and_rest r ≡ Some (x, rest) → Begins bytes x rest
    go (Err short) was e = let wrong : None ≡ Some (x, rest) = e in absurd cc
    go (Ok v) was e =
        let same = same_Some (v.0, v.1.rest) (x, rest) e in
        let took = entry_form.takes (at bytes 0) v.0 v.1 h was in
        let long = item_some v.0 took.1 in
        let count = ap length took.0.parts ∙ length-append (item_text v.0) v.1.rest in
        subst (λ (y : (Text × Text) × Text). Begins bytes y.0 y.1) same (record {
          parts = took.0.parts;
          fits = took.1;
          left = took.0.bytes;
          less = omega (arith, long, count);
        })

-- More steps than the bytes have find the same items.
enough : (n m : ℕ) (bytes : Text) → IsBytes bytes → length bytes ≤ n → length bytes ≤ m
    → items_within n bytes ≡ items_within m bytes
unfolding items_within
enough zero zero bytes h few less = refl
enough zero (suc m) bytes h few less = go (leading_item bytes) refl
  where
    go : (o : Option ((Text × Text) × Text)) → leading_item bytes ≡ o
        → [] ≡ and_later o (items_within m)
    go None is = refl
    go (Some x) is = absurd (omega (arith, (begins bytes x.0 x.1 h is).less))
enough (suc n) zero bytes h few less = go (leading_item bytes) refl
  where
    go : (o : Option ((Text × Text) × Text)) → leading_item bytes ≡ o
        → and_later o (items_within n) ≡ []
    go None is = refl
    go (Some x) is = absurd (omega (arith, (begins bytes x.0 x.1 h is).less))
enough (suc n) (suc m) bytes h few less = go (leading_item bytes) refl
    (λ rest bytes_rest one two. enough n m rest bytes_rest one two)
  where
    go : (o : Option ((Text × Text) × Text)) → leading_item bytes ≡ o
        → ((rest : Text) → IsBytes rest → length rest ≤ n → length rest ≤ m
        → items_within n rest ≡ items_within m rest)
        → and_later o (items_within n) ≡ and_later o (items_within m)
    go None is again = refl
    go (Some x) is again =
        let one = begins bytes x.0 x.1 h is in
        ap (λ (l : List (Text × Text)). x.0 ∷ l)
        (again x.1 one.left (omega (arith, one.less)) (omega (arith, one.less)))

-- The items are the first one and those after it, or none.
pub leading_on : (bytes : Text) (x : Text × Text) (rest : Text) → IsBytes bytes
    → leading_item bytes ≡ Some (x, rest) → leading_items bytes ≡ x ∷ leading_items rest
unfolding items_within
leading_on bytes x rest h is = go (length bytes) refl
  where
    one : Begins bytes x rest
    one = begins bytes x rest h is

    go : (n : ℕ) → length bytes ≡ n → leading_items bytes ≡ x ∷ leading_items rest
    go zero long = absurd (omega (arith, one.less))
    go (suc n) long =
        ap (λ (m : ℕ). items_within m bytes) long
        ∙ ap (λ o. and_later o (items_within n)) is
        ∙ ap (λ (l : List (Text × Text)). x ∷ l)
        (enough n (length rest) rest one.left (omega (arith, one.less)) (omega arith))

pub leading_none : (bytes : Text) → leading_item bytes ≡ None → leading_items bytes ≡ []
unfolding items_within
leading_none bytes is = go (length bytes)
  where
    go : (n : ℕ) → items_within n bytes ≡ []
    go zero = refl
    go (suc n) = ap (λ o. and_later o (items_within n)) is

-- the lengths of each fit two bytes
pub leading_short : (n : ℕ) (bytes : Text) → IsBytes bytes → HaveShortItems (items_within n bytes)
unfolding items_within
leading_short zero bytes h = tt
leading_short (suc n) bytes h = go (leading_item bytes) refl
    (λ rest bytes_rest. leading_short n rest bytes_rest)
  where
    go : (o : Option ((Text × Text) × Text)) → leading_item bytes ≡ o
        → ((rest : Text) → IsBytes rest → HaveShortItems (items_within n rest))
        → HaveShortItems (and_later o (items_within n))
    go None is again = tt
    go (Some x) is again =
        let one = begins bytes x.0 x.1 h is in (one.fits, again x.1 one.left)

-- They are the beginning of the bytes.
abbrev HasLeading : Text → List (Text × Text) → Type 0
HasLeading bytes items = (rest : Text) × (bytes ≡ flat_map item_text items ++ rest)

leading_parts : (n : ℕ) (bytes : Text) → IsBytes bytes → HasLeading bytes (items_within n bytes)
unfolding items_within
leading_parts zero bytes h = (bytes, refl)
leading_parts (suc n) bytes h = go (leading_item bytes) refl
    (λ rest bytes_rest. leading_parts n rest bytes_rest)
  where
    go : (o : Option ((Text × Text) × Text)) → leading_item bytes ≡ o
        → ((rest : Text) → IsBytes rest → HasLeading rest (items_within n rest))
        → HasLeading bytes (and_later o (items_within n))
    go None is again = (bytes, refl)
    go (Some x) is again =
        let one = begins bytes x.0 x.1 h is in
        let later = again x.1 one.left in (
          later.0,
          one.parts ∙ ap (λ (t : Text). item_text x.0 ++ t) later.1
              ∙ sym (append_assoc (item_text x.0) _ later.0),
        )

-- Items that fit are found before nothing.
pub leading_again : (items : List (Text × Text)) → HaveShortItems items
    → (n : ℕ) → length (flat_map item_text items) ≤ n
    → items_within n (flat_map item_text items) ≡ items
unfolding items_within
leading_again [] fits zero few = refl
leading_again [] fits (suc n) few =
    sym (enough zero (suc n) [] (λ i. omega arith) (omega arith) (omega arith))
leading_again (x ∷ items) fits zero few =
    let count = length-append (item_text x) (flat_map item_text items) in
    absurd (omega (arith, count, item_some x fits.0))
leading_again (x ∷ items) fits (suc n) few =
    let count = length-append (item_text x) (flat_map item_text items) in
    ap (λ r. and_later (item_and_rest r) (items_within n))
    (entry_form.again x 0 (flat_map item_text items) fits.0 tt)
    ∙ ap (λ (l : List (Text × Text)). x ∷ l)
    (leading_again items fits.1 n (omega (arith, count, item_some x fits.0)))

-- The items of bytes, if nothing follows them.
abbrev pub whole_items : Text → Option (List (Text × Text))
whole_items bytes =
    if is_filled (leading_items bytes) bytes then Some (leading_items bytes) else None

-- They are what is read up to the end.
pub whole_is : (a : At) → IsBytes a.rest → whole_of (up_to_end entry_at a) ≡ whole_items a.rest
whole_is a h = go (whole_of (up_to_end entry_at a)) refl
  where
    go : (o : Option (List (Text × Text))) → whole_of (up_to_end entry_at a) ≡ o
        → o ≡ whole_items a.rest
    go (Some items) is =
        let took = whole_takes items_form a items h is in
        let again : leading_items a.rest ≡ items =
        ap leading_items took.0 ∙ leading_again items took.1 _ (omega arith) in
        let all : is_filled (leading_items a.rest) a.rest ≡ true =
        eq-eqb (length (flat_map item_text (leading_items a.rest))) (length a.rest)
        (ap (λ (l : List (Text × Text)). length (flat_map item_text l)) again
        ∙ ap length (sym took.0)) in
        ap Some (sym again)
        ∙ ap (λ (b : Bool). if b then Some (leading_items a.rest) else None) (sym all)
    go None is = by_test (is_filled (leading_items a.rest) a.rest) refl
      where
        items : List (Text × Text)
        items = leading_items a.rest

        by_test : (b : Bool) → is_filled items a.rest ≡ b
            → None ≡ (if is_filled items a.rest then Some items else None)
        by_test false test = ap (λ (b : Bool). if b then Some items else None) (sym test)
        by_test true test =
            let parts = leading_parts (length a.rest) a.rest h in
            let count = ap length parts.1 ∙ length-append (flat_map item_text items) parts.0 in
            let same = eqb-true (length (flat_map item_text items)) (length a.rest) test in
            let none = nil_from_length parts.0 (omega (arith, count, same)) in
            let all : a.rest ≡ flat_map item_text items =
            parts.1 ∙ ap (λ (t : Text). flat_map item_text items ++ t) none
            ∙ append-nil (flat_map item_text items) in
            let read : whole_of (up_to_end entry_at a) ≡ Some items =
            ap (λ (t : Text). whole_of (up_to_end entry_at (record { place = a.place; rest = t })))
            all ∙ whole_again items_form refl items a.place (leading_short _ a.rest h) in
            let wrong : None ≡ Some items = sym is ∙ read in
            absurd cc

-- What a Batch has after its tag and its number.
pub batch_is : (body : Text) (tag count : ℕ × At) → number_at w8 (at body 0) ≡ Ok tag
    → tag.0 ≡ batch_tag → number_at w16 tag.1 ≡ Ok count → IsBytes count.1.rest
    → batch_in body
    ≡ option_and_then (λ items. counted_items (count.0, items)) (whole_items count.1.rest)
unfolding batch_in batch_at
batch_is body tag count one tag_is two h =
    ap (λ r. option_and_then counted_items (tagged batch_tag batch_at r)) one
    ∙ ap (λ (b : Bool). option_and_then counted_items (if b then whole_of (batch_at tag.1)
    else None)) (eq-eqb tag.0 batch_tag tag_is)
    ∙ ap (λ (r : Result (ℕ × At) Short). option_and_then counted_items
    (whole_of (r >>= λ x. up_to_end entry_at x.1 >>= λ y. Ok ((x.0, y.0), y.1)))) two
    ∙ by_items (up_to_end entry_at count.1)
    ∙ ap (option_and_then (λ items. counted_items (count.0, items))) (whole_is count.1 h)
  where
    by_test : (b : Bool) (items : List (Text × Text))
        → option_and_then counted_items (if b then Some (count.0, items) else None)
        ≡ option_and_then (λ l. counted_items (count.0, l)) (if b then Some items else None)
    by_test true items = refl
    by_test false items = refl

    by_items : (r : Result (List (Text × Text) × At) Short)
        → option_and_then counted_items (whole_of (r >>= λ y. Ok ((count.0, y.0), y.1)))
        ≡ option_and_then (λ l. counted_items (count.0, l)) (whole_of r)
    by_items (Err short) = refl
    by_items (Ok y) = by_test (length y.1.rest == 0) y.0

module _ (body : Text) (cursor : At) (n : ℕ) (a : At) (count : ℕ) (b : At) (items : Text)
    (h : IsBytes body) (begun : cursor ≡ at body 0) (one : number_at w8 cursor ≡ Ok (n, a))
    (tag_is : n ≡ batch_tag) (two : number_at w16 a ≡ Ok (count, b)) (rest_is : items ≡ b.rest)
  where
    tag_read : number_at w8 (at body 0) ≡ Ok (n, a)
    tag_read = ap (number_at w8) (sym begun) ∙ one

    rest_bytes : IsBytes b.rest
    rest_bytes =
        let head = (number_form w8 (2 ^ 8) wide8).takes (at body 0) n a h tag_read in
        ((number_form w16 (2 ^ 16) wide16).takes a count b head.0.bytes two).0.bytes

    pub items_bytes : IsBytes items
    items_bytes = subst IsBytes (sym rest_is) rest_bytes

    batch_whole
        : batch_in body ≡ option_and_then (λ l. counted_items (count, l)) (whole_items items)
    batch_whole =
        batch_is body (n, a) (count, b) tag_read tag_is two rest_bytes
        ∙ ap (λ (t : Text). option_and_then (λ l. counted_items (count, l)) (whole_items t))
        (sym rest_is)

    -- as many items as the number says, one at least, and nothing after them
    pub batch_found : true ≡ is_filled (leading_items items) items
        → count ≡ length (leading_items items) → count ≢ 0
        → batch_in body ≡ Some (leading_items items)
    batch_found filled same some =
        batch_whole
        ∙ ap (λ (t : Bool). option_and_then (λ l. counted_items (count, l))
        (if t then Some (leading_items items) else None)) (sym filled)
        ∙ rw (
          eq-eqb count (length (leading_items items)) same,
          le-leb 1 count (omega (arith, some)),
        ) refl

    -- something follows them, they are others than the number says, or it is 0
    pub not_filled : false ≡ is_filled (leading_items items) items → batch_in body ≡ None
    not_filled filled =
        batch_whole
        ∙ ap (λ (t : Bool). option_and_then (λ l. counted_items (count, l))
        (if t then Some (leading_items items) else None)) (sym filled)

    with_test : (t : Bool) → counted_items (count, leading_items items) ≡ None
        → option_and_then (λ l. counted_items (count, l))
        (if t then Some (leading_items items) else None) ≡ None
    with_test true none = none
    with_test false none = refl

    pub not_counted : count ≢ length (leading_items items) → batch_in body ≡ None
    not_counted other =
        batch_whole ∙ with_test (is_filled (leading_items items) items)
        (rw (ne_eqb count (length (leading_items items)) other) refl)

    pub none_counted : count ≡ 0 → batch_in body ≡ None
    none_counted none =
        batch_whole ∙ with_test (is_filled (leading_items items) items)
        (no_items (count == length (leading_items items)))
      where
        no_items : (t : Bool) → (if t && nat_le 1 count then Some (leading_items items) else None)
            ≡ None
        no_items true = ap (λ (m : ℕ). if nat_le 1 m then Some (leading_items items) else None) none
        no_items false = refl

-- ---- item by item

-- What is counted of bytes, where these are left: as many items, with all of the bytes before.
pub record IsCounted (bytes rest : Text) (count : ℕ) : Type 0 where
  pub left : IsBytes rest
  pub items : count + length (leading_items rest) ≡ length (leading_items bytes)
  pub texts : length (flat_map item_text (leading_items bytes)) + length rest
      ≡ length (flat_map item_text (leading_items rest)) + length bytes
  pub few : count * 4 + length rest ≤ length bytes

pub counted_on : (bytes rest : Text) (count : ℕ) (x : Text × Text) (later : Text)
    → leading_item rest ≡ Some (x, later) → IsCounted bytes rest count
    → IsCounted bytes later (count + 1)
counted_on bytes rest count x later is so_far =
    let one = begins rest x later so_far.left is in
    let on = leading_on rest x later so_far.left is in
    let all = ap length one.parts ∙ length-append (item_text x) later in
    let size = length-item x in
    let more = ap length on in
    let texts = ap (λ (l : List (Text × Text)). length (flat_map item_text l)) on
    ∙ length-append (item_text x) (flat_map item_text (leading_items later)) in
    record {
      items = omega (arith, so_far.items, more);
      left = one.left;
      texts = omega (arith, so_far.texts, texts, all);
      few = omega (arith, so_far.few, all, size);
    }

-- where no item begins what is left
pub counted_end : (bytes rest : Text) (count : ℕ) → leading_item rest ≡ None
    → IsCounted bytes rest count
    → (count ≡ length (leading_items bytes))
    × (length (flat_map item_text (leading_items bytes)) + length rest ≡ length bytes)
counted_end bytes rest count none so_far =
    let nothing = leading_none rest none in
    let no_items = ap length nothing in
    let no_bytes = ap (λ (l : List (Text × Text)). length (flat_map item_text l)) nothing in
    (omega (arith, so_far.items, no_items), omega (arith, so_far.texts, no_bytes))

pub filled_end : (bytes rest : Text) (count : ℕ) → leading_item rest ≡ None
    → IsCounted bytes rest count → (b : Bool) → (length rest == 0) ≡ b
    → b ≡ is_filled (leading_items bytes) bytes
filled_end bytes rest count none so_far true empty =
    let all = (counted_end bytes rest count none so_far).1 in
    let zero = eqb-true (length rest) 0 empty in
    sym (eq-eqb (length (flat_map item_text (leading_items bytes))) (length bytes)
    (omega (arith, all, zero)))
filled_end bytes rest count none so_far false empty =
    let all = (counted_end bytes rest count none so_far).1 in
    let other : length rest ≢ 0 =
    λ same. let wrong : true ≡ false = sym (eq-eqb (length rest) 0 same) ∙ empty in absurd cc in
    sym (ne_eqb (length (flat_map item_text (leading_items bytes))) (length bytes)
    (omega (arith, all, other)))
