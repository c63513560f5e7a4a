-- The records of an item, of a landmark, of tiles and of a switch: what they make, and which
-- capacity they need.
use Rattle.std.proofs.Common.{◌≡◌, ℕ, ◌+◌, ◌%◌, ◌^◌, ◌<◌, ◌≤◌, List, [], ◌∷◌, length, Some, None}
use Rattle.std.proofs.Common.{ap, sym, subst, ◌∙◌, true, arith}
use Rattle.std.proofs.lemmas.Option.{same_Some}
use Rattle.byte_formats.specs.Types.{HashFunction, Text}
use Rattle.disk_core.specs.declared.disk.Disk.{Ghosts}
use Rattle.log_entry.specs.Matching.{has_form, matches}
use Rattle.tree_core.specs.declared.hashing.TreeHash.{Ghosts as Hashes}
use Rattle.issuance_log.specs.Batches.{fitting, most_listed}
use Rattle.issuance_log.specs.Changes.{IsTakenAs, MakesOfLog}
use Rattle.issuance_log.specs.Folds.{LogNumbers, LogView, next_log, next_view, one_item_more}
use Rattle.issuance_log.specs.Folds.{log_form, more_entries, one_mark_more, switched_now}
use Rattle.issuance_log.specs.Folds.{takes_items}
use Rattle.issuance_log.specs.Folds.{tiled_to, with_item, with_items, with_mark, with_switch}
use Rattle.issuance_log.specs.Folds.{with_tiles}
use Rattle.issuance_log.specs.Items.{HasCapacityOf}
use Rattle.issuance_log.specs.Machine.{HasCapacityFor}
use Rattle.issuance_log.specs.Marks.{last_mark}
use Rattle.issuance_log.specs.Records.{CanBeBatch, IsShort, added_in, batch_record, entry_record}
use Rattle.issuance_log.specs.Records.{landmark_record, mark_in}
use Rattle.issuance_log.specs.Records.{landmark_tag, switch_record, switch_tag, tiles_record}
use Rattle.issuance_log.specs.Records.{tiles_tag}
use Rattle.issuance_log.specs.Results.{HasMarkCapacity}
use Rattle.issuance_log.specs.Settings.{most_item}
use Rattle.issuance_log.specs.Sound.{HasSoundNumbers}
use Rattle.issuance_log.specs.declared.items.Items.{Items}
use Rattle.issuance_log.proofs.Encoded.{batch_adds, item_again, length-entry, length-size}
use Rattle.issuance_log.proofs.Encoded.{mark_adds_none, next_added, next_batched, next_marked}
use Rattle.issuance_log.proofs.Encoded.{next_switched, next_tiled}
use Rattle.issuance_log.proofs.Encoded.{size_again, switch_adds_none, switch_no_mark}
use Rattle.issuance_log.proofs.Encoded.{tiles_add_none}
use Rattle.issuance_log.proofs.Encoded.{tiles_no_mark}
use Rattle.issuance_log.proofs.Fitting.{fitting_all, length-batch}
use Rattle.issuance_log.proofs.Growth.{size_fits}
use Rattle.issuance_log.proofs.Steps.{added_by_entry}
use Rattle.issuance_log.proofs.Views.{view_added, view_batched, view_marked, view_switched}
use Rattle.issuance_log.proofs.Views.{view_tiled}

-- a record whose length may be appended, and which is taken
pub record IsGoodRecord (h : HashFunction) (v w : LogView) (body : Text) : Type 0 where
  pub some : 1 ≤ length body
  pub few : length body ≤ 131072
  pub takes : next_view h v body ≡ Some w

-- ---- an item

module _ (h : HashFunction) (v : LogView) (entry key : Text) (capacity : v.size < v.settings.limit)
    (few : length entry + length key ≤ most_item)
    (form : has_form (log_form v) entry ≡ true) (belongs : matches h entry key ≡ true) where
  short_entry : IsShort entry
  short_entry = omega arith

  short_key : IsShort key
  short_key = omega arith

  pub item_makes : MakesOfLog h v (entry_record entry key) (with_item entry key)
  item_makes s is =
      next_added h s entry key (subst (λ (u : LogView). u.size < u.settings.limit) (sym is)
      capacity) short_entry short_key
      (subst (λ (u : LogView). has_form (log_form u) entry ≡ true) (sym is) form) belongs

  pub item_taken_as : IsTakenAs h v (entry_record entry key) one_item_more (with_item entry key)
  item_taken_as = record {
    shows = view_added h v entry key capacity short_entry short_key form belongs;
    makes = item_makes;
  }

  pub item_record : (text : Text) → text ≡ entry_record entry key
      → IsGoodRecord h v (one_item_more v) text
  item_record text text_is =
      let size = length-entry entry key in
      subst (λ (t : Text). IsGoodRecord h v (one_item_more v) t) (sym text_is) (record {
        some = omega arith;
        few = omega arith;
        takes = item_taken_as.shows;
      })

-- ---- items that are added together

module _ (h : HashFunction) (v : LogView) (items : List (Text × Text)) (can : CanBeBatch items)
    (fit : fitting most_listed items ≡ length items)
    (taken : takes_items h v items ≡ true) where
  pub batch_makes : MakesOfLog h v (batch_record items) (with_items items)
  batch_makes s is =
      next_batched h s items can
      (subst (λ (u : LogView). takes_items h u items ≡ true) (sym is) taken)

  pub batch_taken_as
      : IsTakenAs h v (batch_record items) (more_entries (length items)) (with_items items)
  batch_taken_as = record { shows = view_batched h v items can taken; makes = batch_makes }

  pub batch_record_of : (text : Text) → text ≡ batch_record items
      → IsGoodRecord h v (more_entries (length items) v) text
  batch_record_of text text_is =
      let size = length-batch items in
      let few = fitting_all most_listed items fit in
      subst (λ (t : Text). IsGoodRecord h v (more_entries (length items) v) t) (sym text_is)
      (record {
        some = omega (arith, size);
        few = omega (arith, size, few);
        takes = batch_taken_as.shows;
      })

-- ---- a landmark

module _ (h : HashFunction) (v : LogView) (sound : HasSoundNumbers v)
    (above : last_mark v.marks < v.size) where
  size_in_bytes : v.size < 2 ^ 64
  size_in_bytes = omega (arith, size_fits v sound)

  pub mark_makes : MakesOfLog h v (landmark_record v.size) with_mark
  mark_makes s is =
      subst (λ (u : LogView). u.size < 2 ^ 64 → last_mark u.marks < u.size
      → next_log h s (landmark_record u.size) ≡ Some (with_mark s)) is (next_marked h s)
      size_in_bytes above

  pub mark_taken_as : IsTakenAs h v (landmark_record v.size) one_mark_more with_mark
  mark_taken_as =
      record { shows = view_marked h v size_in_bytes above; makes = mark_makes }

  pub mark_record : (text : Text) → text ≡ landmark_record v.size
      → IsGoodRecord h v (one_mark_more v) text
  mark_record text text_is =
      let size = length-size landmark_tag v.size in
      subst (λ (t : Text). IsGoodRecord h v (one_mark_more v) t) (sym text_is) (record {
        some = omega arith;
        few = omega arith;
        takes = mark_taken_as.shows;
      })

-- ---- tiles

module _ (h : HashFunction) (v : LogView) (size : ℕ) (fits : size < 2 ^ 64)
    (multiple : size % 256 ≡ 0) (above : v.tiled < size) (within : size ≤ v.size) where
  pub tiles_make : MakesOfLog h v (tiles_record size) (with_tiles size)
  tiles_make s is =
      subst (λ (u : LogView). u.tiled < size → size ≤ u.size
      → next_log h s (tiles_record size) ≡ Some (with_tiles size s)) is
      (next_tiled h s size fits multiple) above within

  pub tiles_taken_as : IsTakenAs h v (tiles_record size) (tiled_to size) (with_tiles size)
  tiles_taken_as =
      record { shows = view_tiled h v size fits multiple above within; makes = tiles_make }

  pub tiles_record_of : (text : Text) → text ≡ tiles_record size
      → IsGoodRecord h v (tiled_to size v) text
  tiles_record_of text text_is =
      let bytes = length-size tiles_tag size in
      subst (λ (t : Text). IsGoodRecord h v (tiled_to size v) t) (sym text_is) (record {
        some = omega arith;
        few = omega arith;
        takes = tiles_taken_as.shows;
      })

-- ---- a switch

module _ (h : HashFunction) (v : LogView) (sound : HasSoundNumbers v)
    (first : v.switched ≡ None) where
  switch_in_bytes : v.size < 2 ^ 64
  switch_in_bytes = omega (arith, size_fits v sound)

  pub switch_makes : MakesOfLog h v (switch_record v.size) with_switch
  switch_makes s is =
      subst (λ (u : LogView). u.size < 2 ^ 64 → u.switched ≡ None
      → next_log h s (switch_record u.size) ≡ Some (with_switch s)) is (next_switched h s)
      switch_in_bytes first

  pub switch_taken_as : IsTakenAs h v (switch_record v.size) switched_now with_switch
  switch_taken_as =
      record { shows = view_switched h v switch_in_bytes first; makes = switch_makes }

  pub switch_record_of : (text : Text) → text ≡ switch_record v.size
      → IsGoodRecord h v (switched_now v) text
  switch_record_of text text_is =
      let size = length-size switch_tag v.size in
      subst (λ (t : Text). IsGoodRecord h v (switched_now v) t) (sym text_is) (record {
        some = omega arith;
        few = omega arith;
        takes = switch_taken_as.shows;
      })

-- ---- which capacity they need

module _ {H T : Type 0} {hashes : Hashes H} {k : Ghosts T} (numbers : LogNumbers)
    (items : Items H T hashes k) (text : Text) where
  -- these items
  added_ready : (added : List (Text × Text)) → added_in text ≡ Some added
      → HasCapacityOf (length added) items → HasCapacityFor numbers items text
  added_ready added is capacity = record {
    items = λ list there. subst (λ (l : List (Text × Text)). HasCapacityOf (length l) items)
        (same_Some added list (sym is ∙ there)) capacity;
    mark = λ none. let wrong : Some added ≡ None = sym is ∙ none in absurd cc;
  }

  pub item_ready : (entry key : Text) → text ≡ entry_record entry key → IsShort entry
      → IsShort key → HasCapacityOf 1 items → HasCapacityFor numbers items text
  item_ready entry key is few_entry few_key capacity =
      added_ready ((entry, key) ∷ []) (ap added_in is ∙ added_by_entry (entry_record entry key)
      (entry, key) (item_again entry key few_entry few_key)) capacity

  pub batch_ready : (list : List (Text × Text)) → text ≡ batch_record list → CanBeBatch list
      → HasCapacityOf (length list) items → HasCapacityFor numbers items text
  batch_ready list is can capacity =
      added_ready list (ap added_in is ∙ batch_adds list can) capacity

  -- where it adds none
  without_item : added_in text ≡ None → HasMarkCapacity numbers (mark_in text)
      → HasCapacityFor numbers items text
  without_item alone capacity = record {
    items = λ list there. let wrong : None ≡ Some list = sym alone ∙ there in absurd cc;
    mark = λ none. capacity;
  }

  pub mark_ready : (size : ℕ) → text ≡ landmark_record size → size < 2 ^ 64
      → 1 ≤ numbers.mark_spare → HasCapacityFor numbers items text
  mark_ready size is fits capacity =
      without_item (ap added_in is ∙ mark_adds_none size)
      (subst (HasMarkCapacity numbers)
      (sym (ap mark_in is ∙ size_again landmark_tag (omega arith) size fits)) capacity)

  pub tiles_ready : (size : ℕ) → text ≡ tiles_record size → HasCapacityFor numbers items text
  tiles_ready size is =
      without_item (ap added_in is ∙ tiles_add_none size)
      (subst (HasMarkCapacity numbers) (sym (ap mark_in is ∙ tiles_no_mark size)) tt)

  pub switch_ready : (size : ℕ) → text ≡ switch_record size → HasCapacityFor numbers items text
  switch_ready size is =
      without_item (ap added_in is ∙ switch_adds_none size)
      (subst (HasMarkCapacity numbers) (sym (ap mark_in is ∙ switch_no_mark size)) tt)

-- the tiles of the size that the record makes are stored
pub stored_by : (h : HashFunction) (v w : LogView) (body : Text) (stored : ℕ)
    → next_view h v body ≡ Some w → w.tiled ≤ stored
    → (u : LogView) → next_view h v body ≡ Some u → u.tiled ≤ stored
stored_by h v w body stored is within u next =
    subst (λ (x : LogView). x.tiled ≤ stored) (same_Some w u (sym is ∙ next)) within
