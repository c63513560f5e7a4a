use Rattle.std.proofs.Common.{[], ◌∷◌, ◌≡◌, ◌≢◌, Err, Ok, inl, inr, refl, subst, sym}
use Rattle.std.proofs.lemmas.Result.{err_from_is_err_and}
use Rattle.byte_formats.specs.Types.{Text}
use Rattle.entry_list.specs.Reading.{items_in}
use Rattle.entry_list.specs.declared.error.ItemsError.TheVariants.{Memory}
use Rattle.mirror_core.specs.Refusals.{pairs_of}
use Rattle.mtc_command.specs.Answers.{Ending, ending_of, stop_ending, tiles_name}
use Rattle.mtc_tiled.specs.Commands.{HasServedTiled}
use Rattle.mtc_tiled.proofs.Commands.{served_after, served_kept}
use Rattle.mtc_tiled.proofs.OnlyRead.{only_read_after, only_read_kept}
use Rattle.mtc_mirror.specs.Commands.{mirror_take_outcome, mirrored_say}
use Rattle.mtc_mirror.specs.MirrorOutcomes.{take_says}
use Rattle.mtc_mirror.specs.StoredTiles.{HasMirrorTilesOf}
use Rattle.mtc_mirror.specs.Works.{IsMirror, mirror_outcome}
use Rattle.mtc_mirror.proofs.Reading.{items_so, unread_items}
use Rattle.mtc_mirror.proofs.take.mirror_take.Goals as goal

pub returns-in_err-text-clause-served : goal.returns-in_err-text-clause-served
returns-in_err-text-clause-served g c =
    let h = g.H.TreeHash.hash in
    let journal = c.args.journal.now in
    let tiles = tiles_name journal in
    let file = c.args.entries.now in
    let old = c.args.room.now in
    let read = c.in_err-text.ensures in
    let stopped = err_from_is_err_and c.from_residual.result c.from_residual.ensures.1 in
    rw (stopped.1, stopped.2) (served_kept g.R.Room g.R.Dsk.Disk journal (HasMirrorTilesOf h)
    (IsMirror h) (journal ∷ tiles ∷ file ∷ [])
    (mirror_take_outcome h journal file (g.R.Room.file old)) old c.read_input.new.room
    (stop_ending c.in_err-text.field-0.0) read.all_closed g.met.R.Dsk.Disk.only_now
    (read.stops (journal ∷ tiles ∷ file ∷ []) (journal ∷ [])
    (mirrored_say h journal file (g.R.Room.file old journal) (g.R.Room.file old tiles))
    (inr (inr (inl refl)))))

pub returns-in_err-text-clause-only_read : goal.returns-in_err-text-clause-only_read
returns-in_err-text-clause-only_read g c =
    only_read_kept g.R.Room g.R.Dsk.Disk (tiles_name c.args.journal.now) c.args.room.now
    c.read_input.new.room c.in_err-text.ensures.all_closed g.met.R.Dsk.Disk.only_now

pub returns-in-Ok-clause-served : goal.returns-in-Ok-clause-served
returns-in-Ok-clause-served g c =
    let h = g.H.TreeHash.hash in
    let rooms = g.R.Room in
    let journal = c.args.journal.now in
    let tiles = tiles_name journal in
    let file = c.args.entries.now in
    let old = c.args.room.now in
    let mid = c.read_input.new.room in
    let read = c.in_ok-text.ensures in
    let items = c.in-Ok.items in
    let is : items_in h c.in_ok-text.text ≡ Ok items =
    subst (λ (t : Text). items_in h t ≡ Ok items) c.as_slice.ensures c.in-Ok.ensures in
    served_after rooms g.R.Dsk.Disk journal (HasMirrorTilesOf h) (IsMirror h)
    (journal ∷ tiles ∷ file ∷ []) (mirror_take_outcome h journal file (rooms.file old))
    (journal ∷ tiles ∷ [])
    (mirror_outcome h journal (rooms.file mid journal) (rooms.file mid tiles)
    (take_says (pairs_of items))) old mid c.take_items.new.room (ending_of c.take_items.result)
    read.all_closed
    (λ t. items_so h journal file (rooms.file old) c.in_ok-text.text (read.bytes t).0
    (read.bytes t).1 (rooms.file mid journal) (rooms.file mid tiles) items is
    (read.all_closed.others journal tt).bytes (read.all_closed.others tiles tt).bytes)
    (λ name is. elim is [
      | inl same ↦ inl same
      | inr more ↦ elim more [ inl same ↦ inr (inl same) | inr never ↦ absurd never ]
    ])
    c.take_items.ensures.served

pub returns-in-Ok-clause-only_read : goal.returns-in-Ok-clause-only_read
returns-in-Ok-clause-only_read g c =
    only_read_after g.R.Room g.R.Dsk.Disk (tiles_name c.args.journal.now) c.args.room.now
    c.read_input.new.room c.take_items.new.room c.in_ok-text.ensures.all_closed
    c.take_items.ensures.only_read

pub returns-clause-served : goal.returns-clause-served
returns-clause-served g c =
    let h = g.H.TreeHash.hash in
    let journal = c.args.journal.now in
    let tiles = tiles_name journal in
    let file = c.args.entries.now in
    let old = c.args.room.now in
    let read = c.in_ok-text.ensures in
    let why = c.in-Err.why in
    let is : why ≢ Memory → items_in h c.in_ok-text.text ≡ Err why =
    subst (λ (t : Text). why ≢ Memory → items_in h t ≡ Err why) c.as_slice.ensures
    c.in-Err.ensures in
    subst (λ (e : Ending). HasServedTiled g.R.Room g.R.Dsk.Disk journal (HasMirrorTilesOf h)
    (IsMirror h) (journal ∷ tiles ∷ file ∷ [])
    (mirror_take_outcome h journal file (g.R.Room.file old)) old c.read_input.new.room e)
    (sym c.refuse_entries.ensures)
    (served_kept g.R.Room g.R.Dsk.Disk journal (HasMirrorTilesOf h) (IsMirror h)
    (journal ∷ tiles ∷ file ∷ []) (mirror_take_outcome h journal file (g.R.Room.file old)) old
    c.read_input.new.room _ read.all_closed g.met.R.Dsk.Disk.only_now
    (unread_items g.R.Room g.R.Dsk.Disk h journal file old c.read_input.new.room
    c.in_ok-text.text read.all_closed g.met.R.Dsk.Disk.only_now read.bytes why is))

pub returns-clause-only_read : goal.returns-clause-only_read
returns-clause-only_read g c =
    only_read_kept g.R.Room g.R.Dsk.Disk (tiles_name c.args.journal.now) c.args.room.now
    c.read_input.new.room c.in_ok-text.ensures.all_closed g.met.R.Dsk.Disk.only_now
