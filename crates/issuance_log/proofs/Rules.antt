-- What the records of a log encode.
use Rattle.std.proofs.Common.{◌≡◌, inl, inr, ℕ, ◌%◌, ◌^◌, ◌<◌, ◌&&◌, ◌==◌, nat_lt, nat_le}
use Rattle.std.proofs.Common.{true, List, ◌++◌, length, Option, Some, sym, ◌∙◌, arith}
use Rattle.std.proofs.Common.{None, option_map, option_and_then, Result, Ok, Err, refl, subst, ap}
use Rattle.std.specs.Int.{w8, w32}
use Rattle.std.specs.Prelude.{◌∷◌, [], is_none}
use Rattle.std.specs.Option.{option_or}
use Rattle.std.proofs.Math.Bool.{and-true}
use Rattle.std.proofs.lemmas.Bool.{and_parts, eqb-true, leb-true, ltb-true}
use Rattle.std.proofs.lemmas.Option.{same_Some}
use Rattle.byte_formats.specs.Offsets.{at, IsBytes}
use Rattle.byte_formats.proofs.Steps.{IsBytes-prefix, IsBytes-back}
use Rattle.byte_formats.proofs.Values.{map_some, when_some}
use Rattle.tls_wire.specs.Anchors.{anchor_of}
use Rattle.tls_wire.specs.Reading.{number_at}
use Rattle.tls_wire.specs.Encoding.{number, vector}
use Rattle.tls_wire.specs.declared.fault.AnchorBytesError.{AnchorBytesError}
use Rattle.tls_wire.proofs.AnchorForm.{anchor_takes}
use Rattle.landmarks.specs.Limits.{most_active, most_entries}
use Rattle.log_entry.specs.Matching.{has_form, matches}
use Rattle.issuance_log.specs.Folds.{LogState, new_log, with_item, with_mark, with_tiles, view_in}
use Rattle.issuance_log.specs.Folds.{begun_log, log_after_step, log_form, next_log, takes_entry}
use Rattle.issuance_log.specs.Folds.{takes_items, takes_landmark, takes_switch, takes_tiles}
use Rattle.issuance_log.specs.Folds.{with_items, with_switch}
use Rattle.issuance_log.specs.LogSteps.{log_step}
use Rattle.issuance_log.specs.Marks.{last_mark}
use Rattle.issuance_log.specs.Records.{log_tag, settings_at, with_id, log_settings_with, tagged}
use Rattle.issuance_log.specs.Records.{settings_in, item_in, mark_in, tiled_in, settings_record}
use Rattle.issuance_log.specs.Records.{landmark_record, landmark_tag, switch_in, switch_record}
use Rattle.issuance_log.specs.Records.{batch_in, switch_tag, tiles_tag}
use Rattle.issuance_log.specs.Rules.{IsFirst, IsNext}
use Rattle.issuance_log.specs.Settings.{Settings, are_allowed, AreAllowed}
use Rattle.issuance_log.proofs.Encoded.{settings_text, settings_form}
use Rattle.issuance_log.proofs.Encoded.{settings_again, item_takes, size_takes, tagged_takes}
use Rattle.issuance_log.proofs.Encoded.{batch_takes, next_added, next_batched, next_marked}
use Rattle.issuance_log.proofs.Encoded.{next_switched, next_tiled}
use Rattle.issuance_log.proofs.Growth.{none_is}

pub is_next : (h : List ℕ → List ℕ) (s : LogState) (body : List ℕ) (t : LogState)
    → IsNext h s body t → next_log h s body ≡ Some t
is_next h s body t (inl is) =
    ap (next_log h s) is.encoded ∙ next_added h s is.entry is.key is.capacity is.short_entry
    is.short_key is.form is.belongs ∙ ap Some (sym is.made)
is_next h s body t (inr (inl is)) =
    ap (next_log h s) is.encoded ∙ next_marked h s is.fits is.above ∙ ap Some (sym is.made)
is_next h s body t (inr (inr (inl is))) =
    ap (next_log h s) is.encoded
    ∙ next_tiled h s is.size is.fits is.multiple is.above is.within ∙ ap Some (sym is.made)
is_next h s body t (inr (inr (inr (inl is)))) =
    ap (next_log h s) is.encoded ∙ next_switched h s is.fits is.first ∙ ap Some (sym is.made)
is_next h s body t (inr (inr (inr (inr is)))) =
    ap (next_log h s) is.encoded ∙ next_batched h s is.items is.batch is.taken
    ∙ ap Some (sym is.made)

pub next_is : (h : List ℕ → List ℕ) (s : LogState) (body : List ℕ) (t : LogState) → IsBytes body
    → next_log h s body ≡ Some t → IsNext h s body t
unfolding next_log
next_is h s body t bytes is =
    go (item_in body) (batch_in body) (mark_in body) (tiled_in body) (switch_in body) refl refl refl
    refl refl is
  where
    go : (item : Option (List ℕ × List ℕ)) (batch : Option (List (List ℕ × List ℕ)))
        (mark tiled switch : Option ℕ) → item_in body ≡ item → batch_in body ≡ batch
        → mark_in body ≡ mark → tiled_in body ≡ tiled → switch_in body ≡ switch
        → log_after_step h s (log_step (option_or (option_map (λ x. x ∷ []) item) batch) mark tiled
        switch) ≡ Some t → IsNext h s body t
    go None (Some items) mark tiled switch one other two three four is =
        let encoded = batch_takes body items bytes other in
        let made = when_some (takes_items h (view_in s) items) (Some (with_items items s)) t is in
        inr (inr (inr (inr (record {
          items = items;
          encoded = encoded.0;
          batch = encoded.1;
          taken = made.0;
          made = sym (same_Some _ _ made.1);
        }))))
    go (Some x) batch mark tiled switch one other two three four is =
        let encoded = item_takes body x.0 x.1 bytes one in
        let made = when_some (takes_entry h (view_in s) x && true) (Some (with_item x.0 x.1 s)) t
        is in
        let tests = and_parts (nat_lt (length s.entries) s.settings.limit)
        (has_form (log_form (view_in s)) x.0 && matches h x.0 x.1)
        (sym (and-true (takes_entry h (view_in s) x)) ∙ made.0) in
        let both = and_parts (has_form (log_form (view_in s)) x.0) (matches h x.0 x.1) tests.1 in
        inl (record {
          entry = x.0;
          key = x.1;
          encoded = encoded.0;
          short_entry = encoded.1;
          short_key = encoded.2;
          form = both.0;
          belongs = both.1;
          capacity = ltb-true (length s.entries) s.settings.limit tests.0;
          made = sym (same_Some _ _ made.1);
        })
    go None None (Some size) tiled switch one other two three four is =
        let encoded = size_takes landmark_tag (omega arith) body size bytes two in
        let made = when_some (takes_landmark (view_in s) size) (Some (with_mark s)) t is in
        let tests = and_parts (size == length s.entries) (nat_lt (last_mark s.marks) size)
        made.0 in
        let same : size ≡ length s.entries = eqb-true size (length s.entries) tests.0 in
        inr (inl (record {
          encoded = encoded.0 ∙ ap landmark_record same;
          fits = subst (λ (n : ℕ). n < 2 ^ 64) same encoded.1;
          above = subst (λ (n : ℕ). last_mark s.marks < n) same (ltb-true _ _ tests.1);
          made = sym (same_Some _ _ made.1);
        }))
    go None None None (Some size) switch one other two three four is =
        let encoded = size_takes tiles_tag (omega arith) body size bytes three in
        let made = when_some (takes_tiles (view_in s) size) (Some (with_tiles size s)) t is in
        let tests = and_parts (size % 256 == 0)
        (nat_lt s.tiled size && nat_le size (length s.entries)) made.0 in
        let both = and_parts (nat_lt s.tiled size) (nat_le size (length s.entries)) tests.1 in
        inr (inr (inl (record {
          size = size;
          encoded = encoded.0;
          fits = encoded.1;
          multiple = eqb-true (size % 256) 0 tests.0;
          above = ltb-true s.tiled size both.0;
          within = leb-true size (length s.entries) both.1;
          made = sym (same_Some _ _ made.1);
        })))
    go None None None None (Some index) one other two three four is =
        let encoded = size_takes switch_tag (omega arith) body index bytes four in
        let made = when_some (takes_switch (view_in s) index) (Some (with_switch s)) t is in
        let tests = and_parts (is_none s.switched) (index == length s.entries) made.0 in
        let same : index ≡ length s.entries = eqb-true index (length s.entries) tests.1 in
        inr (inr (inr (inl (record {
          encoded = encoded.0 ∙ ap switch_record same;
          fits = subst (λ (n : ℕ). n < 2 ^ 64) same encoded.1;
          first = none_is s.switched tests.0;
          made = sym (same_Some _ _ made.1);
        }))))
    go None None None None None one other two three four is =
        let wrong : None ≡ Some t = is in absurd cc

pub is_first : (body : List ℕ) (s : LogState) → IsFirst body s → begun_log body ≡ Some s
unfolding begun_log
is_first body s is =
    ap (λ (b : List ℕ). option_map new_log (settings_in b)) is.encoded
    ∙ ap (option_map new_log) (settings_again is.settings is.id is.allowed)
    ∙ ap Some (sym is.made)

pub first_is : (body : List ℕ) (s : LogState) → IsBytes body → begun_log body ≡ Some s
    → IsFirst body s
unfolding begun_log settings_in settings_record
first_is body s bytes is =
    let found = map_some new_log (settings_in body) s is in
    let read = option_from_settings (tagged log_tag settings_at (number_at w8 (at body 0)))
    found.0 found.1 in
    let encoded = tagged_takes log_tag (omega arith) settings_form body read.0 bytes read.1 in
    let tests = when_some (are_allowed read.0.1.0 read.0.1.1)
    (with_id read.0.1.0 read.0.1.1 (anchor_of read.0.0)) found.0 read.2 in
    let made = id_from read.0.1.0 read.0.1.1 (anchor_of read.0.0) found.0 tests.1 in
    let id = anchor_takes read.0.0 made.0 (id_bytes body read.0 bytes encoded.0) made.1 in
    let settings : Settings = record {
      id = read.0.0;
      max_active = read.0.1.0;
      limit =
          read.0.1.1;
    } in
    let same : found.0 ≡ settings = sym made.2
    ∙ ap (λ (b : List ℕ). record {
      id = b;
      max_active = read.0.1.0;
      limit =
          read.0.1.1;
    }) id.0 in
    record {
      settings = settings;
      encoded = encoded.0;
      id = id.1;
      allowed = allowed_tests read.0.1.0 read.0.1.1 tests.0;
      made = sym found.2 ∙ ap new_log same;
    }
  where
    option_from_settings : (o : Option (List ℕ × (ℕ × ℕ))) (x : Settings)
        → option_and_then log_settings_with o ≡ Some x
        → (v : List ℕ × (ℕ × ℕ)) × (o ≡ Some v) × (log_settings_with v ≡ Some x)
    option_from_settings None x is = let wrong : None ≡ Some x = is in cc
    option_from_settings (Some v) x is = (v, refl, is)

    id_from : (active limit : ℕ) (r : Result (List ℕ) AnchorBytesError) (x : Settings)
        → with_id active limit r ≡ Some x
        → (id : List ℕ) × (r ≡ Ok id) × (record { id = id; max_active = active; limit = limit } ≡ x)
    id_from active limit (Ok id) x is = (id, refl, same_Some _ x is)
    id_from active limit (Err fault) x is = let wrong : None ≡ Some x = is in cc

    id_bytes : (body : List ℕ) (v : List ℕ × (ℕ × ℕ)) → IsBytes body
        → body ≡ number w8 log_tag ++ settings_text v → IsBytes v.0
    id_bytes body v bytes is =
        let following =
        IsBytes-back (number w8 log_tag) (settings_text v) (subst IsBytes is bytes) in
        IsBytes-back (number w8 (length v.0)) v.0 (IsBytes-prefix (vector w8 v.0) (number w32 v.1.0
        ++ number w32 v.1.1) following)

    allowed_tests : (active limit : ℕ) → are_allowed active limit ≡ true → AreAllowed active limit
    allowed_tests active limit is =
        let sides = and_parts (nat_le 1 active && nat_le active most_active)
        (nat_le 2 limit && nat_le limit most_entries) is in
        let left = and_parts (nat_le 1 active) (nat_le active most_active) sides.0 in
        let right = and_parts (nat_le 2 limit) (nat_le limit most_entries) sides.1 in
        record {
          some_active = leb-true 1 active left.0;
          few_active =
              leb-true active most_active left.1;
          some = leb-true 2 limit right.0;
          few =
              leb-true limit most_entries right.1;
        }
