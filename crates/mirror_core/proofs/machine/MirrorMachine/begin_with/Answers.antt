use Rattle.std.proofs.Common.{ℕ, ◌+◌, List, [], ◌∷◌, length, refl, subst, sym, ◌∙◌, arith}
use Rattle.mirror_core.specs.Kept.{IsMirrored, kept_leaves}
use Rattle.mirror_core.specs.Machine.{rest_of_mirror_seed}
use Rattle.mirror_core.specs.Places.{ArePlaced}
use Rattle.mirror_core.specs.declared.kept.BatchPlace.{BatchPlace}
use Rattle.mirror_core.proofs.Keeping.{kept_first}
use Rattle.mirror_core.proofs.Placed.{placed_none}
use Rattle.mirror_core.proofs.Resting.{read_as, read_left}
use Rattle.mirror_core.proofs.machine.MirrorMachine.begin_with.Goals as goal

pub returns-in-Ok-clause-begins : goal.returns-in-Ok-clause-begins
returns-in-Ok-clause-begins g c =
    let is = c.in-Ok.ensures in
    let h = g.H.TreeHash.hash in
    let v = c.in-Ok.numbers in
    let leaves = kept_leaves c.new.result in
    record {
      begun = is.found;
      keeps = subst (λ (l : List BatchPlace). IsMirrored h v l leaves (c.args.body.now ∷ []))
          (sym c.new.ensures.places)
          (kept_first h v c.args.body.now leaves is.found c.new.ensures.leaves);
    }

pub returns-in-Ok-clause-within : goal.returns-in-Ok-clause-within
returns-in-Ok-clause-within g c =
    let is = c.in-Ok.ensures in
    let end = 21 + length c.args.body.now + 1 in
    record {
      placed = subst (λ (l : List BatchPlace). ArePlaced l c.in-Ok.numbers.size end)
          (sym c.new.ensures.places)
          (subst (λ (n : ℕ). ArePlaced [] n end) (sym is.none) (placed_none end));
      counted = c.new.ensures.count ∙ sym is.none;
      long = let none = is.none in omega arith;
      stored = λ none. let untiled = is.untiled in omega arith;
    }

-- the disk of the tiles had no call
pub returns-in-Ok-clause-rest : goal.returns-in-Ok-clause-rest
returns-in-Ok-clause-rest g c = λ was is.
    read_as g.T.Disk was (rest_of_mirror_seed c.args.seed) _ c.new.ensures.disk refl is

pub returns-in-Err-Unfit-clause-rest : goal.returns-in-Err-Unfit-clause-rest
returns-in-Err-Unfit-clause-rest g c = λ was is.
    let begun = c.not_begun.ensures in
    rw (begun.rest, begun.why) is

pub returns-in-Err-Memory-clause-rest : goal.returns-in-Err-Memory-clause-rest
returns-in-Err-Memory-clause-rest g c = λ was is.
    let begun = c.not_begun-in-Err-Memory.ensures in
    rw (begun.rest, begun.why)
    (read_left g.T.Disk was (rest_of_mirror_seed c.args.seed) is)
