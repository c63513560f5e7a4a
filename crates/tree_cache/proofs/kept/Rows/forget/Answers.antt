use Rattle.std.proofs.Common.{◌++◌, ◌≤◌, ℕ, length, take, drop, sym, ◌∙◌, ap, subst, arith}
use Rattle.tree_cache.proofs.Forgets.{IsForgotten, can-first, can-nodes, forgotten_whole}
use Rattle.tree_cache.specs.Rows.{AreRowsOf, count_of, filled_of, gone_at}
use Rattle.tree_cache.specs.Tiled.{CanForget, CanForgetAll, HasForgotten, gone_of}
use Rattle.tree_cache.proofs.kept.Rows.forget.Goals as goal

pub let_go-requires : goal.let_go-requires
let_go-requires c =
    subst (λ g. CanForget g c.self.inside.first) (sym c.nodes_in_tiles.ensures)
    (can-first c.args.size _ c.self.invariant c.requires.few
    (subst (λ r. c.args.size ≤ filled_of r) (sym c.self.view_is) c.requires.within)
    (subst (λ r. (level : ℕ) → gone_at r level ≤ gone_of c.args.size level)
    (sym c.self.view_is) c.requires.before))

pub forget_from-requires-clause-can : goal.forget_from-requires-clause-can
forget_from-requires-clause-can c =
    subst (CanForgetAll c.args.size 1) (sym c.as_mut_slice.ensures.value)
    (can-nodes c.args.size _ c.self.invariant c.requires.few
    (subst (λ r. c.args.size ≤ filled_of r) (sym c.self.view_is) c.requires.within)
    (subst (λ r. (level : ℕ) → gone_at r level ≤ gone_of c.args.size level)
    (sym c.self.view_is) c.requires.before))

forgotten : (c : goal.After-self-1)
    → IsForgotten c.args.size (record {
      first = c.self.inside.first;
      above = c.self.inside.above.items;
      capacity = c.self.inside.capacity;
    }) (record {
      first = c.let_go.new.self;
      above = take c.self.inside.above.len (c.forget_from.new.rows
          ++ drop (length c.forget_from.new.rows) c.self.inside.above.items);
      capacity = c.self.inside.capacity;
    })
forgotten c =
    forgotten_whole c.args.size _ c.let_go.new.self c.as_mut_slice.result.now
    c.forget_from.new.rows c.self.inside.above.len c.self.invariant c.requires.few
    (subst (λ r. c.args.size ≤ filled_of r) (sym c.self.view_is) c.requires.within)
    (subst (λ r. (level : ℕ) → gone_at r level ≤ gone_of c.args.size level)
    (sym c.self.view_is) c.requires.before)
    (subst (λ g. HasForgotten g c.self.inside.first c.let_go.new.self) c.nodes_in_tiles.ensures
    c.let_go.ensures) c.as_mut_slice.ensures.value (omega (arith, c.self.inside.above.ok.0))
    (omega arith) c.forget_from.ensures.same c.forget_from.ensures.long
    c.forget_from.ensures.holds c.forget_from.ensures.gone

pub invariant_of-self : goal.invariant_of-self
invariant_of-self c = let done = forgotten c in done.sound

pub returns-clause-same : goal.returns-clause-same
returns-clause-same c = λ h leaves are.
    let done = forgotten c in
    done.rows_of h leaves (subst (AreRowsOf h leaves) (sym c.self.view_is) are)

pub returns-clause-gone : goal.returns-clause-gone
returns-clause-gone c = let done = forgotten c in done.gone

pub returns-clause-count : goal.returns-clause-count
returns-clause-count c =
    let done = forgotten c in done.count ∙ ap count_of c.self.view_is

pub returns-clause-filled : goal.returns-clause-filled
returns-clause-filled c =
    let done = forgotten c in done.filled ∙ ap filled_of c.self.view_is
