use Rattle.std.proofs.Common.{◌≡◌, ◌∙◌, suc, ◌+◌, ◌-◌, ◌≤◌, length, sym, arith}
use Rattle.hss_core.proofs.Parts.{parts_fit-pair}
use Rattle.hss_core.proofs.levels.parts_fit.Goals as goal

pub loop-done-preserved : goal.loop-done-preserved
loop-done-preserved c =
    let rest = c.loop-done.rest.now in
    let size = c.in-Some.length in
    let more : c.args.count - c.loop-done.done ≡ suc (c.args.count - (c.loop-done.done + 1)) =
    omega arith in
    let long : size + 56 ≤ length rest = omega (arith, c.in-Some.ensures.within) in
    rw c.split_at.ensures.back
    (c.loop-done.invariant ∙ parts_fit-pair _ _ size rest more (sym c.in-Some.ensures.value) long)
