use Rattle.std.proofs.Common.{◌≡◌, ◌++◌, ◌≤◌, length, take, drop, sym, ◌∙◌, ap}
use Rattle.std.proofs.Common.{subst, arith}
use Rattle.tree_cache.proofs.Filled.{IsFilled, can-reach, filled_whole}
use Rattle.tree_cache.specs.Rows.{ArePairsFilled, CanReach, HaveFilled, count_of, filled_of}
use Rattle.tree_cache.specs.Rows.{filled_to, first_length}
use Rattle.tree_cache.proofs.kept.Rows.fill.Given as given
use Rattle.tree_cache.proofs.kept.Rows.fill.Goals as goal

pub fill_above-requires-clause-capacity : goal.fill_above-requires-clause-capacity
fill_above-requires-clause-capacity g c =
    let size = subst (λ r. c.args.size ≤ count_of r) (sym c.self.view_is) c.requires in
    let nodes : c.first_length-made.result ≡ first_length c.self.inside.above.items =
    c.first_length-made.ensures ∙ ap first_length c.as_slice.ensures.value in
    let made = c.self.invariant.made in
    let within = c.self.invariant.within in
    let wanted = c.max-wanted.ensures in
    subst (CanReach c.first_length-made.result c.max-wanted.result)
    (sym c.as_mut_slice.ensures.value)
    (subst (λ n. CanReach n c.max-wanted.result c.self.inside.above.items) (sym nodes)
    (can-reach _ c.max-wanted.result c.self.invariant (omega arith)))

filled : (g : given.Over) (c : goal.After-self-1 g)
    → IsFilled g.H.TreeHash.hash c.max-wanted.result (record {
      first = c.self.inside.first;
      above = c.self.inside.above.items;
      capacity = c.self.inside.capacity;
    }) (record {
      first = c.self.inside.first;
      above = take c.self.inside.above.len (c.fill_above.new.above
          ++ drop (length c.fill_above.new.above) c.self.inside.above.items);
      capacity = c.self.inside.capacity;
    })
filled g c =
    let h = g.H.TreeHash.hash in
    let size = subst (λ r. c.args.size ≤ count_of r) (sym c.self.view_is) c.requires in
    let nodes : c.first_length-made.result ≡ first_length c.self.inside.above.items =
    c.first_length-made.ensures ∙ ap first_length c.as_slice.ensures.value in
    let made = c.self.invariant.made in
    let wanted = c.max-wanted.ensures in
    filled_whole h _ c.as_mut_slice.result.now c.fill_above.new.above c.self.inside.above.len
    c.max-wanted.result c.self.invariant (omega arith) (omega arith)
    c.as_mut_slice.ensures.value (omega (arith, c.self.inside.above.ok.0)) (omega arith)
    (subst (λ n. ArePairsFilled h c.self.inside.first n c.max-wanted.result
    c.as_mut_slice.result.now c.fill_above.new.above) nodes c.fill_above.ensures)

pub invariant_of-self : goal.invariant_of-self
invariant_of-self g c = let done = filled g c in done.sound

pub returns-clause-filled : goal.returns-clause-filled
returns-clause-filled g c =
    let done = filled g c in
    let made = done.made in
    let nodes : c.first_length-made.result ≡ first_length c.self.inside.above.items =
    c.first_length-made.ensures ∙ ap first_length c.as_slice.ensures.value in
    let wanted = c.max-wanted.ensures in
    subst (λ r. filled_of (record {
      first = c.self.inside.first;
      above = take c.self.inside.above.len (c.fill_above.new.above
          ++ drop (length c.fill_above.new.above) c.self.inside.above.items);
      capacity = c.self.inside.capacity;
    }) ≡ filled_to c.args.size r) c.self.view_is (omega arith)

pub returns-clause-rows : goal.returns-clause-rows
returns-clause-rows g c =
    let done = filled g c in
    subst (λ r. HaveFilled g.H.TreeHash.hash r (record {
      first = c.self.inside.first;
      above = take c.self.inside.above.len (c.fill_above.new.above
          ++ drop (length c.fill_above.new.above) c.self.inside.above.items);
      capacity = c.self.inside.capacity;
    })) c.self.view_is done.rows
