use Rattle.std.proofs.Common.{◌≡◌, ℕ, ◌+◌, ◌++◌, length, ap, subst, sym, ◌∙◌, arith}
use Rattle.std.proofs.Common.{refl}
use Rattle.state_journal.specs.Steps.{IsLeftBy}
use Rattle.tiled_items.specs.Blocks.{begun_at, blocks_of}
use Rattle.tiled_items.specs.Held.{held_count, held_leaves, held_places}
use Rattle.tiled_items.specs.Machine.{TileDiskIsLeft, TileDiskIsRead, rest_of_tile_seed}
use Rattle.tiled_items.proofs.Blocks.{below_next, blocks_next}
use Rattle.tiled_items.proofs.Keeping.{held_first}
use Rattle.tiled_items.proofs.Resting.{read_as, read_left}
use Rattle.tiled_items.proofs.machine.TiledMachine.begin_with.Goals as goal

pub returns-in-Ok-clause-begins : goal.returns-in-Ok-clause-begins
returns-in-Ok-clause-begins g c =
    let rules = g.R.ItemRules in
    let is = c.in-Ok.ensures in
    let v = rules.view c.in-Ok.numbers in
    let first = g.met.R.ItemRules.first_size c.args.body.now v is.found in
    record {
      begun = is.found;
      keeps = held_first rules.first rules.added g.H.TreeHash.hash (rules.size v)
          (held_places c.new-held.result) (held_places c.begin_items.new.held)
          (held_leaves c.new-held.result) (held_leaves c.begin_items.new.held) c.args.body.now
          first.0 c.new-held.ensures.places c.new-held.ensures.leaves
          (is.taken.places ∙ ap (λ (n : ℕ). held_places c.new-held.result
          ++ begun_at 16 n (length rules.first)) c.new-held.ensures.count)
          is.taken.leaves;
    }

pub returns-in-Ok-clause-within : goal.returns-in-Ok-clause-within
returns-in-Ok-clause-within g c =
    let rules = g.R.ItemRules in
    let is = c.in-Ok.ensures in
    let v = rules.view c.in-Ok.numbers in
    let body = c.args.body.now in
    let first = g.met.R.ItemRules.first_size body v is.found in
    let sum = first.0 in
    let untiled = first.1 in
    let count = is.taken.count in
    let none = c.new-held.ensures.count in
    let before = held_places c.new-held.result in
    let number = held_count c.new-held.result in
    let empty : length before ≡ 0 = ap length c.new-held.ensures.places in
    let total : number + length rules.first ≡ rules.size v = omega (arith, sum, none) in
    record {
      counted = omega (arith, sum, count, none);
      begun = blocks_next before (held_places c.begin_items.new.held) 16 number
          (length rules.first) (empty ∙ ap blocks_of (sym none)) is.taken.places
          ∙ ap blocks_of total;
      below = below_next before (held_places c.begin_items.new.held) 16 number
          (length rules.first) (21 + length body + 1)
          (λ i there. absurd (omega (arith, there, empty))) is.taken.places (omega arith);
      stored = λ never. omega (arith, untiled);
    }

-- the disk of the tiles had no call
pub returns-in-Ok-clause-rest : goal.returns-in-Ok-clause-rest
returns-in-Ok-clause-rest g c = λ was is.
    read_as g.T.Disk was (rest_of_tile_seed c.args.seed) _
    (c.begin_items.ensures.disk ∙ c.new-held.ensures.disk) refl is

pub returns-in-Err-Unfit-clause-rest : goal.returns-in-Err-Unfit-clause-rest
returns-in-Err-Unfit-clause-rest g c = λ was is.
    let e = c.not_begun.result in
    subst (IsLeftBy (TileDiskIsRead g.T.Disk) (TileDiskIsLeft g.T.Disk) was e.rest)
    (sym c.not_begun.ensures.why) (read_as g.T.Disk was (rest_of_tile_seed c.args.seed) e.rest
    (c.not_begun.ensures.disk ∙ c.begin_items.ensures.disk ∙ c.new-held.ensures.disk)
    c.not_begun.ensures.refusal is)

pub returns-in-Err-Memory-clause-rest : goal.returns-in-Err-Memory-clause-rest
returns-in-Err-Memory-clause-rest g c = λ was is.
    let e = c.not_begun-in-Err-Memory.result in
    let begun = c.not_begun-in-Err-Memory.ensures in
    subst (IsLeftBy (TileDiskIsRead g.T.Disk) (TileDiskIsLeft g.T.Disk) was e.rest)
    (sym begun.why) (read_left g.T.Disk was e.rest (read_as g.T.Disk was
    (rest_of_tile_seed c.args.seed) e.rest
    (begun.disk ∙ c.begin_items.ensures.disk ∙ c.new-held.ensures.disk) begun.refusal is))
