use Rattle.std.proofs.Common.{◌≡◌, ◌<◌, ◌^◌, ◌∙◌, ap, length, arith}
use Rattle.tree_proofs.proofs.Fulls.{level_fits}
use Rattle.tree_proofs.proofs.leaves.Listed.node_at.Goals as goal

pub overflow_shl-from : goal.overflow_shl-from
overflow_shl-from g c =
    let same : length c.as_slice-leaves.result.now ≡ length c.args.self.now.leaves =
    ap length c.as_slice-leaves.ensures.value ∙ ap (λ v. length v.leaves) c.self.view_is in
    let fits : length c.args.self.now.leaves < 2 ^ 64 =
    omega (arith, c.as_slice-leaves.type_inv.0) in
    level_fits c.args.place c.args.level (length c.args.self.now.leaves) c.requires fits

pub overflow_shl-to : goal.overflow_shl-to
overflow_shl-to g c = overflow_shl-from g c
