use Rattle.std.proofs.Common.{ℕ, zero, suc, ◌≡◌, ◌<◌, ◌≤◌, [], Err, IfSome, refl, sym, subst, ap}
use Rattle.std.proofs.Common.{◌∙◌, arith, length}
use Rattle.disk_core.proofs.Times.{nothing_read}
use Rattle.mirror_core.specs.Counted.{mirror_keeps}
use Rattle.mirror_core.specs.Durable.{IsDurableMirror}
use Rattle.mirror_core.specs.Kept.{kept_leaves, kept_places}
use Rattle.mirror_core.specs.Places.{ArePlaced}
use Rattle.mirror_core.specs.Refusals.{GivesMirrored, mirror_item_at}
use Rattle.mirror_core.specs.Words.{mirror_disk, mirror_records, mirror_tiles_disk}
use Rattle.mirror_core.specs.Words.{mirror_view, modelled_mirror}
use Rattle.mirror_core.specs.declared.kept.BatchPlace.{BatchPlace}
use Rattle.mirror_core.specs.declared.error.MirrorError.TheVariants.{Beyond}
use Rattle.mirror_core.proofs.Rereading.{gives_item, gives_none}
use Rattle.mirror_core.proofs.mirror.Mirror.item.Goals as goal

pub returns-then-index-size-clause-item : goal.returns-then-index-size-clause-item
returns-then-index-size-clause-item g c =
    let mirror = c.args.self.now in
    subst (λ (n : ℕ). IfSome (modelled_mirror mirror) (λ s.
    GivesMirrored (mirror_item_at s c.args.index) (Err (Beyond n)) [] []))
    (sym c.size-size.ensures.value)
    (gives_none g.H.TreeHash.hash (mirror_view mirror) (kept_places mirror.machine.kept)
    (kept_leaves mirror.machine.kept) (mirror_records mirror) (mirror_keeps mirror) c.args.index []
    [] (omega arith))

-- there is a Batch where there are items
some_place : (n size index : ℕ) → (n ≡ 0 → size ≡ 0) → index < size → 1 ≤ n
some_place zero size index none below = let empty = none refl in absurd
    (omega (arith, empty, below))
some_place (suc n) size index none below = omega arith

pub place_of-batch-requires : goal.place_of-batch-requires
place_of-batch-requires g c =
    let mirror = c.args.self.now in
    let placed = mirror.placed in
    let first = placed.first in
    record {
      some = some_place (length (kept_places mirror.machine.kept)) (mirror_view mirror).size
          c.args.index placed.some (omega arith);
      first = omega (arith, first);
    }

pub read_item-requires-clause-there : goal.read_item-requires-clause-there
read_item-requires-clause-there g c =
    let mirror = c.args.self.now in
    let found = c.place_of-batch.ensures in
    let below = mirror.placed.below found.number found.there in
    let same = ap (λ (p : BatchPlace). p.place) found.is in
    omega (arith, below, same)

pub read_item-requires-clause-durable : goal.read_item-requires-clause-durable
read_item-requires-clause-durable g c = λ b is. (c.args.self.now.durable b is).durable

pub returns-clause-item : goal.returns-clause-item
returns-clause-item g c =
    let mirror = c.args.self.now in
    gives_item g.H.TreeHash.hash (mirror_view mirror) (kept_places mirror.machine.kept)
    (kept_leaves mirror.machine.kept) (mirror_records mirror) (mirror_keeps mirror) c.args.index
    c.place_of-batch.result _ _ (omega arith) c.place_of-batch.ensures c.read_item.result
    c.read_item.ensures.why c.read_item.ensures.item

pub returns-then-index-size-clause-stays : goal.returns-then-index-size-clause-stays
returns-then-index-size-clause-stays g c = record {
  only_reads = nothing_read g.D.Disk (mirror_disk c.args.self.now) (g.met.D.Disk.only_now _);
  tiles = nothing_read g.T.Disk (mirror_tiles_disk c.args.self.now) (g.met.T.Disk.only_now _);
  view = refl;
  end = refl;
  broken = refl;
}

pub returns-clause-stays : goal.returns-clause-stays
returns-clause-stays g c = record {
  only_reads = c.read_item.ensures.only_reads;
  tiles = nothing_read g.T.Disk (mirror_tiles_disk c.args.self.now) (g.met.T.Disk.only_now _);
  view = refl;
  end = c.read_item.ensures.end;
  broken = c.read_item.ensures.broken;
}

pub invariant_of-self : goal.invariant_of-self
invariant_of-self g c =
    let mirror = c.args.self.now in
    let h = g.H.TreeHash.hash in
    let v = mirror_view mirror in
    let places = kept_places mirror.machine.kept in
    let leaves = kept_leaves mirror.machine.kept in
    let end = c.read_item.ensures.end in
    let long = mirror.long in
    record {
      counted = mirror.counted;
      adopted = mirror.adopted;
      stored = mirror.stored;
      placed = subst (ArePlaced places v.size) (sym end) mirror.placed;
      long = omega (arith, end, long);
      durable = λ b contents.
          subst (λ (n : ℕ). IsDurableMirror h v places leaves n b) (sym end)
          (mirror.durable b (sym c.read_item.ensures.only_reads.contents ∙ contents));
    }
