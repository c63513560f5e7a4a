use Rattle.std.proofs.Common.{◌≡◌, ◌∙◌, ◌+◌, ◌<◌, ◌++◌, [], ◌∷◌, ℕ, List, length, take, arith, ap}
use Rattle.std.proofs.Common.{subst, sym}
use Rattle.std.proofs.lemmas.List.Sums.{sum_by-append, sum_by-cons}
use Rattle.std.specs.List.{sum_by}
use Rattle.disk_core.specs.declared.memory.mem_disk.MemDisk.{MemDisk}
use Rattle.drill_parties.specs.Cosigners.{Paired}
use Rattle.drill_parties.specs.CosignerViews.{IsDiskOf}
use Rattle.drill_parties.specs.Disks.{signs_on}
use Rattle.drill_parties.proofs.Going.{left_prefix, left_next}
use Rattle.drill_parties.proofs.Pairs.{prefix_more, paired_push}
use Rattle.drill_parties.proofs.cosigners.Cosigners.into_devices.Goals as goal

pub loop-out-preserved : goal.loop-out-preserved
loop-out-preserved g c =
    let h = g.H.TreeHash.hash in
    let old = c.args.self.parties.items in
    let i = c.loop-out._out in
    let before = c.loop-out.invariant in
    let now = c.loop-out.parties.items in
    let x = c.remove-party.result in
    let disks = c.loop-out.disks.items in
    let disk = c.in_ok-disk.disk in
    let len = c.args.self.parties.ok.0 in
    let below : i < length old = omega (arith, c.loop-out-test.true, c.len-count.ensures, len) in
    let more = prefix_more old i x below (left_prefix old now i x below before.left
    c.remove-party.ensures.value) in
    let push = c.in_ok-push.ensures.items in
    let whole = ap (sum_by signs_on) push ∙ sum_by-append signs_on disks (disk ∷ []) in
    let last = sum_by-cons signs_on disk [] in
    let so_far = before.signatures in
    let few = before.few in
    let one = c.in_ok-disk.ensures.count in
    let few_more = c.in_ok-disk.ensures.few in
    record {
      left = c.remove-party.ensures.items ∙ left_next old now i x below before.left;
      disks = subst (λ (ys : List MemDisk). Paired (IsDiskOf h) (take (i + 1) old) ys) (sym push)
          (subst (λ xs. Paired (IsDiskOf h) xs (disks ++ disk ∷ [])) (sym more)
          (paired_push (IsDiskOf h) (take i old) disks x disk before.disks
          c.in_ok-disk.ensures.disk));
      signatures = omega (arith, whole, last, so_far, one);
      few = omega (arith, few, few_more);
    }
