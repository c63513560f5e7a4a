use Rattle.std.proofs.Common.{◌++◌, ℕ, Some, Err, ap, refl, sym, ◌∙◌, arith}
use Rattle.std.proofs.lemmas.Result.{on_ok_weaker}
use Rattle.tile_store.specs.Store.{tiles_disk}
use Rattle.issuance_log.specs.Items.{items_leaves, items_offsets, items_tiles}
use Rattle.issuance_log.specs.Machine.{HasStored, rest_in}
use Rattle.issuance_log.specs.ItemOffsets.{places_in}
use Rattle.issuance_log.proofs.Encoded.{added_short}
use Rattle.issuance_log.proofs.Keeping.{kept_more}
use Rattle.issuance_log.proofs.Resting.{left_from, not_out_of_memory, read_as, read_left, rest_same}
use Rattle.issuance_log.proofs.Resting.{out_of_memory_is}
use Rattle.issuance_log.proofs.Taking.{below_next, counted_next, taken_so}
use Rattle.issuance_log.proofs.machine.LogMachine.take_next.Goals as goal

pub take_record-requires-clause-counted : goal.take_record-requires-clause-counted
take_record-requires-clause-counted g c = c.requires.within.counted

pub adopt_new-requires : goal.adopt_new-requires
adopt_new-requires g c =
    let was = c.args.self.now in
    counted_next g.H.TreeHash.hash was.numbers.view c.take_record.new.numbers.view c.args.body.now
    (items_offsets was.items) (items_offsets c.take_record.new.items) c.args.place
    c.in-Ok.ensures.view c.requires.within.counted c.in-Ok.ensures.taken.offsets

-- the record makes the next log, and its items are retained
pub returns-in-Ok-clause-takes : goal.returns-in-Ok-clause-takes
returns-in-Ok-clause-takes g c =
    let h = g.H.TreeHash.hash in
    let was = c.args.self.now in
    let now = c.adopt_new.new.self in
    let adopted = c.adopt_new.ensures in
    let taken = c.in-Ok.ensures.taken in
    let body = c.args.body.now in
    let next = c.in-Ok.ensures.view ∙ ap Some (sym adopted.view) in
    taken_so _ _ _ c.args.place body was now c.adopt_new.result adopted.memory (record {
      next = next;
      keeps = λ list kept there.
          kept_more h was.numbers.view now.numbers.view (items_offsets was.items)
          (items_offsets now.items) (items_leaves was.items) (items_leaves now.items) list body kept
          next (added_short body (λ i. (c.type_inv.body i).fits))
          (adopted.offsets ∙ taken.offsets ∙ ap (λ (n : ℕ). items_offsets was.items
          ++ places_in n body) there)
          (adopted.leaves ∙ taken.leaves);
    })

pub returns-in-Ok-clause-within : goal.returns-in-Ok-clause-within
returns-in-Ok-clause-within g c =
    let was = c.args.self.now in
    let now = c.adopt_new.new.self in
    let adopted = c.adopt_new.ensures in
    let body = c.args.body.now in
    let offsets = adopted.offsets ∙ c.in-Ok.ensures.taken.offsets in
    on_ok_weaker c.adopt_new.result (λ (stored : HasStored now). record {
      sound = adopted.sound;
      below = below_next body (items_offsets was.items) (items_offsets now.items) c.args.place
          c.requires.within.below offsets;
      counted = counted_next g.H.TreeHash.hash was.numbers.view now.numbers.view body
          (items_offsets was.items) (items_offsets now.items) c.args.place
          (c.in-Ok.ensures.view ∙ ap Some (sym adopted.view)) c.requires.within.counted offsets;
      stored = stored;
    }) adopted.stored

pub returns-in-Ok-clause-capacity : goal.returns-in-Ok-clause-capacity
returns-in-Ok-clause-capacity g c = λ capacity.
    not_out_of_memory c.adopt_new.result (c.adopt_new.ensures.still (λ none.
    let stored = capacity.stored c.take_record.new.numbers.view c.in-Ok.ensures.view in
    let same = c.take_record.ensures.stored in
    omega arith)).1

pub returns-in-Ok-clause-rest : goal.returns-in-Ok-clause-rest
returns-in-Ok-clause-rest g c = λ was is.
    let it = rest_in c.args.self.now in
    let mid = tiles_disk (items_tiles c.take_record.new.items) in
    let adopted = c.adopt_new.ensures in
    left_from g.T.Disk was (record { disk = mid; refusal = it.refusal })
    (rest_in c.adopt_new.new.self) c.adopt_new.result
    (read_as g.T.Disk was it _ c.take_record.ensures.disk refl is)
    adopted.only_reads adopted.fine adopted.usable adopted.failed adopted.cause adopted.memory

pub returns-in-Ok-clause-still : goal.returns-in-Ok-clause-still
returns-in-Ok-clause-still g c = λ capacity.
    (c.adopt_new.ensures.still (λ none.
    let stored = capacity.stored c.take_record.new.numbers.view c.in-Ok.ensures.view in
    let same = c.take_record.ensures.stored in
    omega arith)).0
    ∙ rest_same _ _ c.args.self.now.refusal c.take_record.ensures.disk

pub returns-in-Err-Unfit-clause-rest : goal.returns-in-Err-Unfit-clause-rest
returns-in-Err-Unfit-clause-rest g c = λ was is.
    read_as g.T.Disk was (rest_in c.args.self.now) _ c.take_record.ensures.disk refl is

pub returns-in-Err-Unfit-clause-still : goal.returns-in-Err-Unfit-clause-still
returns-in-Err-Unfit-clause-still g c = λ capacity.
    rest_same _ _ c.args.self.now.refusal c.take_record.ensures.disk

pub returns-in-Err-Memory-clause-rest : goal.returns-in-Err-Memory-clause-rest
returns-in-Err-Memory-clause-rest g c = λ was is.
    read_left g.T.Disk was _
    (read_as g.T.Disk was (rest_in c.args.self.now) _ c.take_record.ensures.disk refl is)

pub returns-in-Err-Memory-clause-still : goal.returns-in-Err-Memory-clause-still
returns-in-Err-Memory-clause-still g c = λ capacity.
    rest_same _ _ c.args.self.now.refusal c.take_record.ensures.disk

pub returns-in-Err-Memory-clause-capacity : goal.returns-in-Err-Memory-clause-capacity
returns-in-Err-Memory-clause-capacity g c = λ capacity out_of_memory.
    c.take_record.ensures.capacity capacity.capacity
    (out_of_memory_is c.take_record.result (c.in-Err-Memory.is ∙ ap Err c.in-Err-Memory.field-0-is))
