-- The records of a mirror are read as they are encoded.
use Rattle.std.proofs.Common.{Bool, true, false, ◌≡◌, ℕ, ◌+◌, ◌^◌, ◌==◌, ◌<◌, ◌≤◌, if◌then◌else◌}
use Rattle.std.proofs.Common.{arith, List, ◌++◌}
use Rattle.std.proofs.Common.{length, Option, Some, None, option_and_then, Result, Ok, Err, refl}
use Rattle.std.proofs.Common.{◌&&◌, nat_le, ap, subst, sym, ◌∙◌}
use Rattle.std.specs.Prelude.{flat_map}
use Rattle.std.specs.Int.{w8, w16, w64}
use Rattle.std.proofs.lemmas.Bool.{and_parts, eq-eqb, eqb-true, le-leb, leb-true}
use Rattle.std.proofs.lemmas.List.{length-append}
use Rattle.std.proofs.lemmas.Option.{same_Some}
use Rattle.byte_formats.specs.Forms.{FitsBoth, IsForm, Nothing, both}
use Rattle.byte_formats.specs.Offsets.{At, IsBytes, at}
use Rattle.byte_formats.specs.Readings.{whole_of}
use Rattle.byte_formats.specs.Types.{Text}
use Rattle.byte_formats.proofs.FormLaws.{then_form}
use Rattle.byte_formats.proofs.Steps.{IsBytes-back}
use Rattle.byte_formats.proofs.Values.{when_some}
use Rattle.tls_wire.specs.Anchors.{anchor_of}
use Rattle.tls_wire.specs.Arcs.{IsAnchorId}
use Rattle.tls_wire.specs.Encoding.{number, vector}
use Rattle.tls_wire.specs.Reading.{number_at, vector_at}
use Rattle.tls_wire.specs.declared.cursor.Short.{Short}
use Rattle.tls_wire.specs.declared.fault.AnchorBytesError.{AnchorBytesError}
use Rattle.tls_wire.proofs.AnchorForm.{anchor_again, anchor_takes}
use Rattle.tls_wire.proofs.Numbers.{number_form, wide8, wide16}
use Rattle.tls_wire.proofs.Vectors.{vector_form}
use Rattle.issuance_log.specs.Records.{CanBeBatch, HaveShortItems, batch_at, counted_items}
use Rattle.issuance_log.specs.Records.{item_text, size_record, tagged, tiles_record, tiles_tag}
use Rattle.issuance_log.proofs.Encoded.{counted_from, items_form, tagged_again, tagged_takes}
use Rattle.mirror_core.specs.Records.{anchor_or_none, mirror_batch_record, mirror_batch_tag}
use Rattle.mirror_core.specs.Records.{mirror_log_in, mirror_record, mirror_tag, mirrored_in}

pub length-mirror : (id : Text) → length (mirror_record id) ≡ 2 + length id
unfolding mirror_record
length-mirror id = simp length-append (omega arith)

pub length-batch : (items : List (Text × Text))
    → length (mirror_batch_record items) ≡ 3 + length (flat_map item_text items)
unfolding mirror_batch_record
length-batch items = simp length-append (omega arith)

-- ---- a Mirror

-- an id that is read, from the bytes of one
id_from : (o : Option Text) (id : Text)
    → option_and_then (λ b. anchor_or_none (anchor_of b)) o ≡ Some id
    → (bytes : Text) × (o ≡ Some bytes) × (anchor_of bytes ≡ Ok id)
id_from None id is = let wrong : None ≡ Some id = is in absurd cc
id_from (Some bytes) id is = (bytes, refl, go (anchor_of bytes) refl is)
  where
    go : (r : Result Text AnchorBytesError) → anchor_of bytes ≡ r → anchor_or_none r ≡ Some id
        → anchor_of bytes ≡ Ok id
    go (Ok found) was is = was ∙ ap Ok (same_Some found id is)
    go (Err fault) was is = let wrong : None ≡ Some id = is in absurd cc

pub mirror_again : (id : Text) → IsAnchorId id → mirror_log_in (mirror_record id) ≡ Some id
unfolding mirror_log_in mirror_record
mirror_again id is =
    ap (option_and_then (λ b. anchor_or_none (anchor_of b)))
    (tagged_again mirror_tag (omega arith) (vector_form w8 (2 ^ 8) wide8) tt id
    (omega (arith, is.short)))
    ∙ ap anchor_or_none (anchor_again id is)

-- ---- a Batch

batch_form : IsForm (both (number w16) (flat_map item_text))
    (FitsBoth (λ (n : ℕ). n < 2 ^ 16) HaveShortItems) Nothing batch_at
unfolding batch_at
batch_form = then_form (number_form w16 (2 ^ 16) wide16) items_form

pub batch_again : (items : List (Text × Text)) → CanBeBatch items
    → mirrored_in (mirror_batch_record items) ≡ Some items
unfolding mirrored_in mirror_batch_record
batch_again items can =
    ap (option_and_then counted_items) (tagged_again mirror_batch_tag (omega arith) batch_form refl
    (length items, items) (can.few, can.short))
    ∙ rw (
      eq-eqb (length items) (length items) refl,
      le-leb 1 (length items) can.some,
    ) refl

pub batch_takes : (body : Text) (items : List (Text × Text)) → IsBytes body
    → mirrored_in body ≡ Some items → (body ≡ mirror_batch_record items) × CanBeBatch items
unfolding mirrored_in mirror_batch_record
batch_takes body items bytes is =
    let found = counted_from (tagged mirror_batch_tag batch_at (number_at w8 (at body 0))) items is
    in
    let count = found.0.0 in
    let all = found.0.1 in
    let encoded = tagged_takes mirror_batch_tag (omega arith) batch_form body found.0 bytes found.1
    in
    let tests = when_some ((count == length all) && nat_le 1 count) (Some all) items found.2 in
    let both_tests = and_parts (count == length all) (nat_le 1 count) tests.0 in
    let same : count ≡ length all = eqb-true count (length all) both_tests.0 in
    let some = leb-true 1 count both_tests.1 in
    subst (λ (l : List (Text × Text)). (body ≡ number w8 mirror_batch_tag
    ++ (number w16 (length l) ++ flat_map item_text l)) × CanBeBatch l)
    (same_Some all items tests.1) (
      encoded.0 ∙ ap (λ (n : ℕ). number w8 mirror_batch_tag
          ++ (number w16 n ++ flat_map item_text all)) same,
      record {
        some = subst (λ (n : ℕ). 1 ≤ n) same some;
        few = subst (λ (n : ℕ). n < 65536) same encoded.1.0;
        short = encoded.1.1;
      },
    )

-- ---- records that are no Batch

pub tiles_no_batch : (size : ℕ) → mirrored_in (tiles_record size) ≡ None
unfolding mirrored_in size_record
tiles_no_batch size =
    ap (λ r. option_and_then counted_items (tagged mirror_batch_tag batch_at r))
    ((number_form w8 (2 ^ 8) wide8).again tiles_tag 0 (number w64 size) (omega arith) tt)

-- a Mirror, which is the first record
pub mirror_no_batch : (body id : Text) → mirror_log_in body ≡ Some id → mirrored_in body ≡ None
unfolding mirror_log_in mirrored_in
mirror_no_batch body id is = by_tag (number_at w8 (at body 0)) is
  where
    other : (tag : ℕ × At) (b : Bool) → (tag.0 == mirror_tag) ≡ b
        → option_and_then (λ t. anchor_or_none (anchor_of t))
        (if b then whole_of (vector_at w8 tag.1) else None) ≡ Some id
        → option_and_then counted_items
        (tagged mirror_batch_tag batch_at (Ok tag)) ≡ None
    other tag true same e =
        let tag_is : tag.0 ≡ mirror_tag = eqb-true tag.0 mirror_tag same in
        ap (λ (n : ℕ). option_and_then counted_items
        (if n == mirror_batch_tag then whole_of (batch_at tag.1) else None)) tag_is
    other tag false same e = let wrong : None ≡ Some id = e in absurd cc

    by_tag : (r : Result (ℕ × At) Short) → option_and_then (λ t. anchor_or_none (anchor_of t))
        (tagged mirror_tag (vector_at w8) r) ≡ Some id
        → option_and_then counted_items (tagged mirror_batch_tag batch_at r) ≡ None
    by_tag (Ok tag) e = other tag (tag.0 == mirror_tag) refl e
    by_tag (Err short) e = refl

-- ---- only what is encoded is read

pub mirror_takes : (body id : Text) → IsBytes body → mirror_log_in body ≡ Some id
    → (body ≡ mirror_record id) × IsAnchorId id
unfolding mirror_log_in mirror_record
mirror_takes body id bytes is =
    let found = id_from (tagged mirror_tag (vector_at w8) (number_at w8 (at body 0))) id is in
    let read = found.0 in
    let encoded = tagged_takes mirror_tag (omega arith) (vector_form w8 (2 ^ 8) wide8) body read
    bytes found.1 in
    let tail = IsBytes-back (number w8 mirror_tag) (vector w8 read)
    (subst IsBytes encoded.0 bytes) in
    let took = anchor_takes read id (IsBytes-back (number w8 (length read)) read tail) found.2 in (
      encoded.0 ∙ ap (λ (t : Text). number w8 mirror_tag ++ vector w8 t) (sym took.0),
      subst IsAnchorId (sym took.0) took.1,
    )
