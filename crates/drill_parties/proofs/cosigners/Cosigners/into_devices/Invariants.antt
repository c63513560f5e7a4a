use Rattle.std.proofs.Common.{◌≡◌, ◌≤◌, ◌*◌, ◌^◌, drop, take}
use Rattle.std.specs.List.{sum_by}
use Rattle.drill_parties.specs.Cosigners.{Paired}
use Rattle.drill_parties.specs.CosignerViews.{IsDiskOf}
use Rattle.drill_parties.specs.Disks.{signs_on}
use Rattle.drill_parties.proofs.cosigners.Cosigners.into_devices.Given as goal

abbrev pub invariant-loop-out : goal.invariant-loop-out
invariant-loop-out g l = record {
  left : l.parties.items ≡ drop l._out l.fn.self.parties.items;
  disks : Paired (IsDiskOf g.H.TreeHash.hash) (take l._out l.fn.self.parties.items) l.disks.items;
  signatures : l.signatures ≡ sum_by signs_on l.disks.items;
  few : l.signatures ≤ 2 ^ 25 * l._out;
}
