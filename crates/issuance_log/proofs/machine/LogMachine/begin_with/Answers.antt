use Rattle.std.proofs.Common.{ℕ, ◌+◌, List, [], ◌∷◌, ◌++◌, length, ap, subst, sym, ◌∙◌, arith}
use Rattle.std.proofs.Common.{refl}
use Rattle.state_journal.specs.Steps.{IsLeftBy}
use Rattle.issuance_log.specs.Items.{AreBelow, items_leaves, items_offsets}
use Rattle.issuance_log.specs.Machine.{TilesAreLeft, TilesAreRead, rest_of_seed}
use Rattle.issuance_log.proofs.Keeping.{kept_first}
use Rattle.issuance_log.proofs.Resting.{read_as, read_left}
use Rattle.issuance_log.proofs.Standing.{below_one}
use Rattle.issuance_log.proofs.machine.LogMachine.begin_with.Goals as goal

pub returns-in-Ok-clause-begins : goal.returns-in-Ok-clause-begins
returns-in-Ok-clause-begins g c =
    let is = c.in-Ok.ensures in
    let offsets = items_offsets c.begin_items.new.items in
    let one = is.taken.offsets ∙ ap (λ (l : List ℕ). l ++ 0 ∷ []) c.new-items.ensures.offsets in
    record {
      begun = is.found;
      keeps = (kept_first g.H.TreeHash.hash c.in-Ok.numbers.view c.args.body.now offsets
          (items_leaves c.new-items.result) (items_leaves c.begin_items.new.items) is.found is.sound
          one c.new-items.ensures.leaves is.taken.leaves).1;
    }

pub returns-in-Ok-clause-within : goal.returns-in-Ok-clause-within
returns-in-Ok-clause-within g c =
    let is = c.in-Ok.ensures in
    let commit_offset = 21 + length c.args.body.now in
    let offsets = items_offsets c.begin_items.new.items in
    let one = is.taken.offsets ∙ ap (λ (l : List ℕ). l ++ 0 ∷ []) c.new-items.ensures.offsets in
    record {
      sound = is.sound;
      below = subst (λ (l : List ℕ). AreBelow l (commit_offset + 1)) (sym one)
          (below_one 0 (commit_offset + 1) (omega arith));
      counted = ap (λ (l : List ℕ). length l) one
          ∙ (kept_first g.H.TreeHash.hash c.in-Ok.numbers.view c.args.body.now offsets
          (items_leaves c.new-items.result) (items_leaves c.begin_items.new.items) is.found is.sound
          one c.new-items.ensures.leaves is.taken.leaves).0;
      stored = λ none. let untiled = is.untiled in omega arith;
    }

-- the disk of the tiles had no call
pub returns-in-Ok-clause-rest : goal.returns-in-Ok-clause-rest
returns-in-Ok-clause-rest g c = λ was is.
    read_as g.T.Disk was (rest_of_seed c.args.seed) _
    (c.begin_items.ensures.disk ∙ c.new-items.ensures.disk) refl is

pub returns-in-Err-Unfit-clause-rest : goal.returns-in-Err-Unfit-clause-rest
returns-in-Err-Unfit-clause-rest g c = λ was is.
    let e = c.not_begun.result in
    subst (IsLeftBy (TilesAreRead g.T.Disk) (TilesAreLeft g.T.Disk) was e.rest)
    (sym c.not_begun.ensures.why) (read_as g.T.Disk was (rest_of_seed c.args.seed) e.rest
    (c.not_begun.ensures.disk ∙ c.begin_items.ensures.disk ∙ c.new-items.ensures.disk)
    c.not_begun.ensures.refusal is)

pub returns-in-Err-Memory-clause-rest : goal.returns-in-Err-Memory-clause-rest
returns-in-Err-Memory-clause-rest g c = λ was is.
    let e = c.not_begun-in-Err-Memory.result in
    let begun = c.not_begun-in-Err-Memory.ensures in
    subst (IsLeftBy (TilesAreRead g.T.Disk) (TilesAreLeft g.T.Disk) was e.rest)
    (sym begun.why) (read_left g.T.Disk was e.rest (read_as g.T.Disk was
    (rest_of_seed c.args.seed) e.rest
    (begun.disk ∙ c.begin_items.ensures.disk ∙ c.new-items.ensures.disk) begun.refusal is))
