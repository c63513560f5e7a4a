-- What items or tiles more make of a mirror that does not refuse them.
use Rattle.std.proofs.Common.{◌≡◌, ℕ, ◌+◌, ◌*◌, ◌<◌, ◌≤◌, nat_lt, if◌then◌else◌, Bool, true, false}
use Rattle.std.proofs.Common.{[], length, drop, Option, Some, None, option_map, refl, sym}
use Rattle.std.proofs.Common.{slice_index_or, ◌∙◌, arith}
use Rattle.std.proofs.lemmas.Bool.{leb-false, ltb-false}
use Rattle.std.proofs.lemmas.Option.{IfSome_then}
use Rattle.byte_formats.specs.Types.{Text}
use Rattle.disk_core.specs.declared.disk.Disk.{Ghosts}
use Rattle.entry_list.specs.Items.{AreItems, ItemLists}
use Rattle.issuance_log.proofs.Fitting.{four_each}
use Rattle.issuance_log.specs.Records.{tiles_record}
use Rattle.issuance_log.specs.Refusals.{append_refusal}
use Rattle.journal_core.proofs.Folds.{state_next}
use Rattle.journal_core.specs.Format.{most_bytes}
use Rattle.journal_core.specs.declared.error.AppendError.{AppendError}
use Rattle.journal_core.specs.declared.error.AppendError.TheVariants.{Broken, Full}
use Rattle.tree_core.specs.declared.hashing.TreeHash.{Ghosts as Hashes}
use Rattle.mirror_core.specs.Counted.{mirror_keeps}
use Rattle.mirror_core.specs.Folds.{MirrorState, mirror_fold, mirror_with, with_mirror_tiles}
use Rattle.mirror_core.specs.Folds.{with_mirrored}
use Rattle.mirror_core.specs.Kept.{HasMirrorNumbers}
use Rattle.mirror_core.specs.Records.{mirror_batch_record}
use Rattle.mirror_core.specs.Refusals.{full_mirror_size, mirror_tile_refusal}
use Rattle.mirror_core.specs.Refusals.{next_batch, pairs_of, take_refusal}
use Rattle.mirror_core.specs.Words.{MakesOfMirror, MirrorWouldTake, mirror_broken, mirror_end}
use Rattle.mirror_core.specs.Words.{mirror_records, mirror_view}
use Rattle.mirror_core.specs.declared.error.MirrorError.TheVariants.{Append}
use Rattle.mirror_core.specs.declared.mirror.Mirror.{Mirror}
use Rattle.mirror_core.proofs.Batching.{batch_each, begins_is, can_batch, first_taken}
use Rattle.mirror_core.proofs.Changes.{all_taken, batch_makes, tiles_make}
use Rattle.mirror_core.proofs.Encoded.{length-batch}
use Rattle.mirror_core.proofs.Keeping.{shown_view}

-- a refusal that is none of its tests
passed : {E : Type 0} (b : Bool) (e : E) (o : Option E) → (if b then Some e else o) ≡ None
    → (b ≡ false) × (o ≡ None)
passed true e o is = let wrong : Some e ≡ None = is in absurd cc
passed false e o is = (refl, is)

-- a journal that doesn't refuse a record ends before its longest with it
room_for : (refused : Option AppendError) → option_map Append refused ≡ None → refused ≡ None
room_for None is = refl
room_for (Some why) is = let wrong : Some (Append why) ≡ None = is in absurd cc

ends_before : (broken : Bool) (end : ℕ) (body : Text) → append_refusal broken end body ≡ None
    → end + 5 + length body ≤ most_bytes
ends_before broken end body none =
    let first = passed broken Broken _ none in
    let second = passed (nat_lt most_bytes (end + 5 + length body)) Full _ first.1 in
    ltb-false most_bytes (end + 5 + length body) second.0

module _ {H D T : Type 0} {hashes : Hashes H} {g : Ghosts D} {k : Ghosts T}
    (mirror : Mirror H D T hashes g k) (sound : HasMirrorNumbers (mirror_view mirror)) where
  -- after its records a record makes what it makes of any mirror that shows this
  makes_after : (body : Text) (next : MirrorState → MirrorState)
      → MakesOfMirror hashes.hash (mirror_view mirror) body next
      → MirrorWouldTake body next mirror
  makes_after body next makes =
      let v = mirror_view mirror in
      IfSome_then (mirror_records mirror) (mirror_keeps mirror) (λ list is.
      state_next (mirror_fold hashes.hash) list (mirror_with v list) body
      (next (mirror_with v list)) is.made
      (makes (mirror_with v list) (shown_view v list is.all)))

  pub taken_unrefused : 4 * (mirror_view mirror).size < mirror_end mirror → (items : ItemLists)
      → AreItems hashes.hash items
      → take_refusal None (mirror_view mirror).size (mirror_broken mirror) (mirror_end mirror)
      (pairs_of items) ≡ None
      → MirrorWouldTake
      (mirror_batch_record (next_batch (mirror_view mirror).size (pairs_of items)))
      (with_mirrored (next_batch (mirror_view mirror).size (pairs_of items))) mirror
  unfolding take_refusal
  taken_unrefused long items are none =
      let v = mirror_view mirror in
      let n = v.size in
      let ys = pairs_of items in
      let new = next_batch n ys in
      let first = passed _ _ _ none in
      let second = passed _ _ _ first.1 in
      let there = leb-false (length ys) n first.0 in
      let x = slice_index_or ys n ([], []) in
      let some = first_taken ys n x there refl (sym (begins_is ys n x there refl) ∙ second.0) in
      let can = can_batch (drop n ys) some in
      let body = mirror_batch_record new in
      let few = ends_before (mirror_broken mirror) (mirror_end mirror) body
      (room_for (append_refusal (mirror_broken mirror) (mirror_end mirror) body) second.1) in
      let most : most_bytes ≡ 8589934592 = refl in
      let four = four_each new in
      let bytes = length-batch new in
      makes_after body (with_mirrored new)
      (batch_makes hashes.hash v new can
      (all_taken hashes.hash v new (omega (arith, few, most, four, bytes, long))
      (batch_each hashes.hash items n are)))

  pub tiled_unrefused
      : mirror_tile_refusal (mirror_view mirror) (mirror_broken mirror) (mirror_end mirror) ≡ None
      → MirrorWouldTake (tiles_record (full_mirror_size (mirror_view mirror)))
      (with_mirror_tiles (full_mirror_size (mirror_view mirror))) mirror
  unfolding mirror_tile_refusal
  tiled_unrefused none =
      let v = mirror_view mirror in
      let size = full_mirror_size v in
      let first = passed _ _ _ none in
      let few = sound.few in
      makes_after (tiles_record size) (with_mirror_tiles size)
      (tiles_make hashes.hash v size (omega (arith, few)) (omega arith)
      (leb-false size v.tiled first.0) (omega arith))
