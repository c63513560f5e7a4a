use Rattle.std.proofs.Common.{ℕ, List, ◌<◌, ◌≤◌, ◌+◌, length, slice_index_or, refl, sym, subst, ◌∙◌}
use Rattle.std.proofs.Common.{arith}
use Rattle.std.proofs.lemmas.Result.{IfOk-weaker}
use Rattle.disk_core.proofs.Times.{nothing_read}
use Rattle.mirror_core.specs.Counted.{mirror_keeps}
use Rattle.mirror_core.specs.Durable.{IsDurableMirror}
use Rattle.mirror_core.specs.Kept.{kept_leaves, kept_places}
use Rattle.mirror_core.specs.Places.{ArePlaced, no_place}
use Rattle.mirror_core.specs.Refusals.{pairs_of}
use Rattle.mirror_core.specs.Words.{mirror_end, mirror_records, mirror_tiles_disk, mirror_view}
use Rattle.mirror_core.specs.declared.kept.BatchPlace.{BatchPlace}
use Rattle.mirror_core.proofs.Rereading.{found_by}
use Rattle.mirror_core.proofs.mirror.Mirror.compare.Goals as goal

pub find_difference-requires-clause-there : goal.find_difference-requires-clause-there
find_difference-requires-clause-there g c =
    subst (λ (l : List BatchPlace). (i : ℕ) → i < length l
    → (slice_index_or l i no_place).place + 5 ≤ mirror_end c.args.self.now)
    (sym c.as_slice.ensures.value) c.args.self.now.placed.below

pub find_difference-requires-clause-durable : goal.find_difference-requires-clause-durable
find_difference-requires-clause-durable g c = λ b is. (c.args.self.now.durable b is).durable

pub returns-clause-found : goal.returns-clause-found
returns-clause-found g c =
    let mirror = c.args.self.now in
    IfOk-weaker c.find_difference.result _ _ (λ found is.
    found_by g.H.TreeHash.hash (mirror_view mirror) (kept_places mirror.machine.kept)
    c.as_slice.result.now (kept_leaves mirror.machine.kept) (mirror_records mirror)
    (mirror_keeps mirror) found (pairs_of c.args.items.now) c.as_slice.ensures.value is)
    c.find_difference.ensures.found

pub returns-clause-asks : goal.returns-clause-asks
returns-clause-asks g c = record {
  stays = record {
    only_reads = c.find_difference.ensures.only_reads;
    tiles = nothing_read g.T.Disk (mirror_tiles_disk c.args.self.now) (g.met.T.Disk.only_now _);
    view = refl;
    end = c.find_difference.ensures.end;
    broken = c.find_difference.ensures.broken;
  };
  tiles = refl;
}

pub invariant_of-self : goal.invariant_of-self
invariant_of-self g c =
    let mirror = c.args.self.now in
    let h = g.H.TreeHash.hash in
    let v = mirror_view mirror in
    let places = kept_places mirror.machine.kept in
    let leaves = kept_leaves mirror.machine.kept in
    let end = c.find_difference.ensures.end in
    let long = mirror.long in
    record {
      counted = mirror.counted;
      adopted = mirror.adopted;
      stored = mirror.stored;
      placed = subst (ArePlaced places v.size) (sym end) mirror.placed;
      long = omega (arith, end, long);
      durable = λ b contents.
          subst (λ (n : ℕ). IsDurableMirror h v places leaves n b) (sym end)
          (mirror.durable b (sym c.find_difference.ensures.only_reads.contents ∙ contents));
    }
