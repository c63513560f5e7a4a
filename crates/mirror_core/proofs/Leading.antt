-- The items of a Batch, by those that begin its bytes.
use Rattle.std.proofs.Common.{◌≡◌, ◌≢◌, ℕ, ◌^◌, ◌==◌, ◌&&◌, List, ne_eqb, Bool, true, false, length}
use Rattle.std.proofs.Common.{Some, None, Result, Ok, Err, refl, ap, sym, subst, ◌∙◌, arith}
use Rattle.std.proofs.Common.{option_and_then, nat_le}
use Rattle.std.specs.Prelude.{if◌then◌else◌}
use Rattle.std.specs.Int.{w8, w16}
use Rattle.std.proofs.lemmas.Bool.{eq-eqb, le-leb}
use Rattle.byte_formats.specs.Types.{Text}
use Rattle.byte_formats.specs.Offsets.{At, at, IsBytes}
use Rattle.byte_formats.specs.Lists.{up_to_end}
use Rattle.byte_formats.specs.Readings.{◌>>=◌, whole_of}
use Rattle.tls_wire.specs.Reading.{number_at}
use Rattle.tls_wire.specs.declared.cursor.Short.{Short}
use Rattle.tls_wire.proofs.Numbers.{number_form, wide8, wide16}
use Rattle.issuance_log.specs.Batches.{is_filled, leading_items}
use Rattle.issuance_log.specs.Records.{batch_at, counted_items, entry_at, tagged}
use Rattle.issuance_log.proofs.Leading.{whole_is, whole_items}
use Rattle.mirror_core.specs.Records.{mirror_batch_tag, mirrored_in}

-- What a Batch has after its tag and its number.
pub batch_is : (body : Text) (tag count : ℕ × At) → number_at w8 (at body 0) ≡ Ok tag
    → tag.0 ≡ mirror_batch_tag → number_at w16 tag.1 ≡ Ok count → IsBytes count.1.rest
    → mirrored_in body
    ≡ option_and_then (λ items. counted_items (count.0, items)) (whole_items count.1.rest)
unfolding mirrored_in batch_at
batch_is body tag count one tag_is two h =
    ap (λ r. option_and_then counted_items (tagged mirror_batch_tag batch_at r)) one
    ∙ ap (λ (b : Bool). option_and_then counted_items (if b then whole_of (batch_at tag.1)
    else None)) (eq-eqb tag.0 mirror_batch_tag tag_is)
    ∙ ap (λ (r : Result (ℕ × At) Short). option_and_then counted_items
    (whole_of (r >>= λ x. up_to_end entry_at x.1 >>= λ y. Ok ((x.0, y.0), y.1)))) two
    ∙ by_items (up_to_end entry_at count.1)
    ∙ ap (option_and_then (λ items. counted_items (count.0, items))) (whole_is count.1 h)
  where
    by_test : (b : Bool) (items : List (Text × Text))
        → option_and_then counted_items (if b then Some (count.0, items) else None)
        ≡ option_and_then (λ l. counted_items (count.0, l)) (if b then Some items else None)
    by_test true items = refl
    by_test false items = refl

    by_items : (r : Result (List (Text × Text) × At) Short)
        → option_and_then counted_items (whole_of (r >>= λ y. Ok ((count.0, y.0), y.1)))
        ≡ option_and_then (λ l. counted_items (count.0, l)) (whole_of r)
    by_items (Err short) = refl
    by_items (Ok y) = by_test (length y.1.rest == 0) y.0

module _ (body : Text) (cursor : At) (n : ℕ) (a : At) (count : ℕ) (b : At) (items : Text)
    (h : IsBytes body) (begun : cursor ≡ at body 0) (one : number_at w8 cursor ≡ Ok (n, a))
    (tag_is : n ≡ mirror_batch_tag) (two : number_at w16 a ≡ Ok (count, b))
    (rest_is : items ≡ b.rest)
  where
    tag_read : number_at w8 (at body 0) ≡ Ok (n, a)
    tag_read = ap (number_at w8) (sym begun) ∙ one

    rest_bytes : IsBytes b.rest
    rest_bytes =
        let head = (number_form w8 (2 ^ 8) wide8).takes (at body 0) n a h tag_read in
        ((number_form w16 (2 ^ 16) wide16).takes a count b head.0.bytes two).0.bytes

    pub items_bytes : IsBytes items
    items_bytes = subst IsBytes (sym rest_is) rest_bytes

    batch_whole
        : mirrored_in body ≡ option_and_then (λ l. counted_items (count, l)) (whole_items items)
    batch_whole =
        batch_is body (n, a) (count, b) tag_read tag_is two rest_bytes
        ∙ ap (λ (t : Text). option_and_then (λ l. counted_items (count, l)) (whole_items t))
        (sym rest_is)

    -- as many items as the number says, one at least, and nothing after them
    pub batch_found : true ≡ is_filled (leading_items items) items
        → count ≡ length (leading_items items) → count ≢ 0
        → mirrored_in body ≡ Some (leading_items items)
    batch_found filled same some =
        batch_whole
        ∙ ap (λ (t : Bool). option_and_then (λ l. counted_items (count, l))
        (if t then Some (leading_items items) else None)) (sym filled)
        ∙ rw (
          eq-eqb count (length (leading_items items)) same,
          le-leb 1 count (omega (arith, some)),
        ) refl

    -- something follows them, they are others than the number says, or it is 0
    pub not_filled : false ≡ is_filled (leading_items items) items → mirrored_in body ≡ None
    not_filled filled =
        batch_whole
        ∙ ap (λ (t : Bool). option_and_then (λ l. counted_items (count, l))
        (if t then Some (leading_items items) else None)) (sym filled)

    with_test : (t : Bool) → counted_items (count, leading_items items) ≡ None
        → option_and_then (λ l. counted_items (count, l))
        (if t then Some (leading_items items) else None) ≡ None
    with_test true none = none
    with_test false none = refl

    pub not_counted : count ≢ length (leading_items items) → mirrored_in body ≡ None
    not_counted other =
        batch_whole ∙ with_test (is_filled (leading_items items) items)
        (rw (ne_eqb count (length (leading_items items)) other) refl)

    pub none_counted : count ≡ 0 → mirrored_in body ≡ None
    none_counted none =
        batch_whole ∙ with_test (is_filled (leading_items items) items)
        (no_items (count == length (leading_items items)))
      where
        no_items : (t : Bool) → (if t && nat_le 1 count then Some (leading_items items) else None)
            ≡ None
        no_items true = ap (λ (m : ℕ). if nat_le 1 m then Some (leading_items items) else None) none
        no_items false = refl
