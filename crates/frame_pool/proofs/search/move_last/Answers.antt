use Rattle.std.proofs.Common.{sym, subst}
use Rattle.std.specs.List.{Contains}
use Rattle.frame_pool.proofs.Orders.{place-some}
use Rattle.frame_pool.proofs.search.move_last.Goals as goal

pub unreachable-requires : goal.unreachable-requires
unreachable-requires c =
    place-some c.args.slot c.as_slice.result.now
    (subst (λ o. Contains o c.args.slot) (sym c.as_slice.ensures.value) c.requires)
    c.in-None.ensures
