use Rattle.std.proofs.Common.{◌+◌, ◌++◌, ℕ, Some, Err, ap, refl, sym, ◌∙◌, arith, length}
use Rattle.std.proofs.lemmas.Result.{on_ok_weaker}
use Rattle.tile_store.specs.Store.{tiles_disk}
use Rattle.mirror_core.specs.Folds.{MirrorView}
use Rattle.mirror_core.specs.Kept.{kept_leaves, kept_places, kept_tiles}
use Rattle.mirror_core.specs.Machine.{HasStoredTiles, rest_in_mirror}
use Rattle.mirror_core.specs.Places.{place_with}
use Rattle.mirror_core.specs.Records.{mirrored_in}
use Rattle.mirror_core.proofs.Keeping.{kept_more}
use Rattle.mirror_core.proofs.Placed.{placed_next, size_next}
use Rattle.mirror_core.proofs.Resting.{left_from, not_out_of_memory, out_of_memory_is, read_as}
use Rattle.mirror_core.proofs.Resting.{read_left, rest_same, taken_so}
use Rattle.mirror_core.proofs.machine.MirrorMachine.take_next.Goals as goal

pub take_record-requires : goal.take_record-requires
take_record-requires g c = record { counted = c.requires.within.counted }

pub adopt_new-requires : goal.adopt_new-requires
adopt_new-requires g c =
    let was = c.args.self.now in
    let size = size_next g.H.TreeHash.hash was.numbers c.take_record.new.numbers c.args.body.now
    c.in-Ok.ensures.view in
    let count = c.in-Ok.ensures.taken.count in
    let counted = c.requires.within.counted in
    omega (arith, size, count, counted)

-- the record makes the next mirror, and its items are retained
pub returns-in-Ok-clause-takes : goal.returns-in-Ok-clause-takes
returns-in-Ok-clause-takes g c =
    let h = g.H.TreeHash.hash in
    let was = c.args.self.now in
    let now = c.adopt_new.new.self in
    let adopted = c.adopt_new.ensures in
    let taken = c.in-Ok.ensures.taken in
    let body = c.args.body.now in
    let next = c.in-Ok.ensures.view ∙ ap Some (sym adopted.view) in
    taken_so _ _ _ c.args.place body was now c.adopt_new.result adopted.memory (record {
      next = next;
      keeps = λ list kept there.
          kept_more h was.numbers now.numbers (kept_places was.kept) (kept_places now.kept)
          (kept_leaves was.kept) (kept_leaves now.kept) list body kept next
          (adopted.places ∙ taken.places
          ∙ ap (λ (n : ℕ). kept_places was.kept ++ place_with c.args.place n (mirrored_in body))
          c.requires.within.counted
          ∙ ap (λ (n : ℕ). kept_places was.kept ++ place_with n was.numbers.size
          (mirrored_in body)) there)
          (adopted.leaves ∙ taken.leaves);
    })

pub returns-in-Ok-clause-within : goal.returns-in-Ok-clause-within
returns-in-Ok-clause-within g c =
    let was = c.args.self.now in
    let now = c.adopt_new.new.self in
    let adopted = c.adopt_new.ensures in
    let taken = c.in-Ok.ensures.taken in
    let body = c.args.body.now in
    let within = c.requires.within in
    let size = size_next g.H.TreeHash.hash was.numbers now.numbers body
    (c.in-Ok.ensures.view ∙ ap Some (sym adopted.view)) in
    let long = c.in-Ok.ensures.long in
    let same = ap (λ (v : MirrorView). v.size) adopted.view in
    on_ok_weaker c.adopt_new.result (λ (stored : HasStoredTiles now). record {
      placed = placed_next (kept_places was.kept) (kept_places now.kept) was.numbers.size
          now.numbers.size c.args.place (c.args.place + 5 + length body + 1) (mirrored_in body)
          within.placed (adopted.places ∙ taken.places
          ∙ ap (λ (n : ℕ). kept_places was.kept ++ place_with c.args.place n (mirrored_in body))
          within.counted) size (omega arith);
      counted = omega (arith, size, adopted.count, taken.count, within.counted);
      long = omega (arith, long, within.long, same);
      stored = stored;
    }) adopted.stored

pub returns-in-Ok-clause-capacity : goal.returns-in-Ok-clause-capacity
returns-in-Ok-clause-capacity g c = λ capacity.
    not_out_of_memory c.adopt_new.result (c.adopt_new.ensures.still (λ none.
    let stored = capacity.stored c.take_record.new.numbers c.in-Ok.ensures.view in
    let same = c.take_record.ensures.stored in
    omega arith)).1

pub returns-in-Ok-clause-rest : goal.returns-in-Ok-clause-rest
returns-in-Ok-clause-rest g c = λ was is.
    let it = rest_in_mirror c.args.self.now in
    let mid = tiles_disk (kept_tiles c.take_record.new.kept) in
    let adopted = c.adopt_new.ensures in
    left_from g.T.Disk was (record { disk = mid; refusal = it.refusal })
    (rest_in_mirror c.adopt_new.new.self) c.adopt_new.result
    (read_as g.T.Disk was it _ c.take_record.ensures.disk refl is)
    adopted.only_reads adopted.fine adopted.usable adopted.failed adopted.cause adopted.memory

pub returns-in-Ok-clause-still : goal.returns-in-Ok-clause-still
returns-in-Ok-clause-still g c = λ capacity.
    (c.adopt_new.ensures.still (λ none.
    let stored = capacity.stored c.take_record.new.numbers c.in-Ok.ensures.view in
    let same = c.take_record.ensures.stored in
    omega arith)).0
    ∙ rest_same _ _ c.args.self.now.refusal c.take_record.ensures.disk

pub returns-in-Err-Unfit-clause-rest : goal.returns-in-Err-Unfit-clause-rest
returns-in-Err-Unfit-clause-rest g c = λ was is.
    read_as g.T.Disk was (rest_in_mirror c.args.self.now) _ c.take_record.ensures.disk refl is

pub returns-in-Err-Unfit-clause-still : goal.returns-in-Err-Unfit-clause-still
returns-in-Err-Unfit-clause-still g c = λ capacity.
    rest_same _ _ c.args.self.now.refusal c.take_record.ensures.disk

pub returns-in-Err-Memory-clause-rest : goal.returns-in-Err-Memory-clause-rest
returns-in-Err-Memory-clause-rest g c = λ was is.
    read_left g.T.Disk was _
    (read_as g.T.Disk was (rest_in_mirror c.args.self.now) _ c.take_record.ensures.disk refl is)

pub returns-in-Err-Memory-clause-still : goal.returns-in-Err-Memory-clause-still
returns-in-Err-Memory-clause-still g c = λ capacity.
    rest_same _ _ c.args.self.now.refusal c.take_record.ensures.disk

pub returns-in-Err-Memory-clause-capacity : goal.returns-in-Err-Memory-clause-capacity
returns-in-Err-Memory-clause-capacity g c = λ capacity out_of_memory.
    c.take_record.ensures.capacity capacity.capacity
    (out_of_memory_is c.take_record.result (c.in-Err-Memory.is ∙ ap Err c.in-Err-Memory.field-0-is))
