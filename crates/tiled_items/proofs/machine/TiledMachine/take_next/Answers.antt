use Rattle.std.proofs.Common.{◌+◌, ◌++◌, ℕ, Some, Err, ap, refl, sym, ◌∙◌, arith, length}
use Rattle.std.proofs.lemmas.Result.{on_ok_weaker}
use Rattle.tile_store.specs.Store.{tiles_disk}
use Rattle.tiled_items.specs.Blocks.{begun_at, blocks_of}
use Rattle.tiled_items.specs.Held.{held_leaves, held_places, held_tiles}
use Rattle.tiled_items.specs.Machine.{HasTilesStored, tiled_rest}
use Rattle.tiled_items.proofs.Blocks.{below_next, blocks_next}
use Rattle.tiled_items.proofs.Keeping.{held_more}
use Rattle.tiled_items.proofs.Resting.{left_from, not_out_of_memory, out_of_memory_is, read_as}
use Rattle.tiled_items.proofs.Resting.{read_left, rest_same, taken_so}
use Rattle.tiled_items.proofs.machine.TiledMachine.take_next.Goals as goal

pub take_record-requires : goal.take_record-requires
take_record-requires g c = c.requires.within.counted

pub adopt_new-requires : goal.adopt_new-requires
adopt_new-requires g c =
    let rules = g.R.ItemRules in
    let h = g.H.TreeHash.hash in
    let v = rules.view c.args.self.now.numbers in
    let w = rules.view c.take_record.new.numbers in
    let view = c.in-Ok.ensures.view in
    let size = g.met.R.ItemRules.next_size h v w c.args.body.now view in
    let count = c.in-Ok.ensures.taken.count in
    let counted = c.requires.within.counted in
    omega (arith, size, count, counted)

-- the record makes the next numbers, and its items are held
pub returns-in-Ok-clause-takes : goal.returns-in-Ok-clause-takes
returns-in-Ok-clause-takes g c =
    let rules = g.R.ItemRules in
    let h = g.H.TreeHash.hash in
    let was = c.args.self.now in
    let now = c.adopt_new.new.self in
    let v = rules.view was.numbers in
    let adopted = c.adopt_new.ensures in
    let taken = c.in-Ok.ensures.taken in
    let body = c.args.body.now in
    let count = length (rules.added body) in
    let next = c.in-Ok.ensures.view ∙ ap (λ n. Some (rules.view n)) (sym adopted.numbers) in
    taken_so _ _ _ c.args.place body was now c.adopt_new.result adopted.memory (record {
      next = next;
      keeps = λ list kept there.
          held_more rules.first rules.added h (rules.size v) (rules.size (rules.view now.numbers))
          (held_places was.held) (held_places now.held) (held_leaves was.held)
          (held_leaves now.held) list body kept
          (g.met.R.ItemRules.next_size h v (rules.view now.numbers) body next)
          (adopted.places ∙ taken.places
          ∙ ap (λ (n : ℕ). held_places was.held ++ begun_at c.args.place n count)
          c.requires.within.counted
          ∙ ap (λ (n : ℕ). held_places was.held ++ begun_at n (rules.size v) count) there)
          (adopted.leaves ∙ taken.leaves);
    })

pub returns-in-Ok-clause-within : goal.returns-in-Ok-clause-within
returns-in-Ok-clause-within g c =
    let rules = g.R.ItemRules in
    let h = g.H.TreeHash.hash in
    let was = c.args.self.now in
    let now = c.adopt_new.new.self in
    let v = rules.view was.numbers in
    let w = rules.view now.numbers in
    let adopted = c.adopt_new.ensures in
    let taken = c.in-Ok.ensures.taken in
    let body = c.args.body.now in
    let count = length (rules.added body) in
    let within = c.requires.within in
    let next = c.in-Ok.ensures.view ∙ ap (λ n. Some (rules.view n)) (sym adopted.numbers) in
    let size = g.met.R.ItemRules.next_size h v w body next in
    let same_count = adopted.count in
    let more_count = taken.count in
    let counted = within.counted in
    let places = adopted.places ∙ taken.places
    ∙ ap (λ (n : ℕ). held_places was.held ++ begun_at c.args.place n count) within.counted in
    on_ok_weaker c.adopt_new.result (λ (stored : HasTilesStored rules now). record {
      counted = omega (arith, size, same_count, more_count, counted);
      begun = blocks_next (held_places was.held) (held_places now.held) c.args.place
          (rules.size v) count within.begun places ∙ ap blocks_of (sym size);
      below = below_next (held_places was.held) (held_places now.held) c.args.place
          (rules.size v) count (c.args.place + 5 + length body + 1) within.below places
          (omega arith);
      stored = stored;
    }) adopted.stored

pub returns-in-Ok-clause-capacity : goal.returns-in-Ok-clause-capacity
returns-in-Ok-clause-capacity g c = λ capacity.
    not_out_of_memory c.adopt_new.result (c.adopt_new.ensures.still (λ none.
    let stored = capacity.stored (g.R.ItemRules.view c.take_record.new.numbers)
    c.in-Ok.ensures.view in
    let same = c.take_record.ensures.stored in
    omega (arith, stored, same))).1

pub returns-in-Ok-clause-rest : goal.returns-in-Ok-clause-rest
returns-in-Ok-clause-rest g c = λ was is.
    let it = tiled_rest c.args.self.now in
    let mid = tiles_disk (held_tiles c.take_record.new.held) in
    let adopted = c.adopt_new.ensures in
    left_from g.T.Disk was (record { disk = mid; refusal = it.refusal })
    (tiled_rest c.adopt_new.new.self) c.adopt_new.result
    (read_as g.T.Disk was it _ c.take_record.ensures.disk refl is)
    adopted.only_reads adopted.fine adopted.usable adopted.failed adopted.cause adopted.memory

pub returns-in-Ok-clause-still : goal.returns-in-Ok-clause-still
returns-in-Ok-clause-still g c = λ capacity.
    (c.adopt_new.ensures.still (λ none.
    let stored = capacity.stored (g.R.ItemRules.view c.take_record.new.numbers)
    c.in-Ok.ensures.view in
    let same = c.take_record.ensures.stored in
    omega (arith, stored, same))).0
    ∙ rest_same _ _ c.args.self.now.refusal c.take_record.ensures.disk

pub returns-in-Err-Unfit-clause-rest : goal.returns-in-Err-Unfit-clause-rest
returns-in-Err-Unfit-clause-rest g c = λ was is.
    read_as g.T.Disk was (tiled_rest c.args.self.now) _ c.take_record.ensures.disk refl is

pub returns-in-Err-Unfit-clause-still : goal.returns-in-Err-Unfit-clause-still
returns-in-Err-Unfit-clause-still g c = λ capacity.
    rest_same _ _ c.args.self.now.refusal c.take_record.ensures.disk

pub returns-in-Err-Memory-clause-rest : goal.returns-in-Err-Memory-clause-rest
returns-in-Err-Memory-clause-rest g c = λ was is.
    read_left g.T.Disk was _
    (read_as g.T.Disk was (tiled_rest c.args.self.now) _ c.take_record.ensures.disk refl is)

pub returns-in-Err-Memory-clause-still : goal.returns-in-Err-Memory-clause-still
returns-in-Err-Memory-clause-still g c = λ capacity.
    rest_same _ _ c.args.self.now.refusal c.take_record.ensures.disk

pub returns-in-Err-Memory-clause-capacity : goal.returns-in-Err-Memory-clause-capacity
returns-in-Err-Memory-clause-capacity g c = λ capacity out_of_memory.
    c.take_record.ensures.capacity capacity.numbers capacity.items
    (out_of_memory_is c.take_record.result (c.in-Err-Memory.is ∙ ap Err c.in-Err-Memory.field-0-is))
