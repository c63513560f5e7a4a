use Rattle.std.proofs.Common.{◌++◌, List, [], ◌∷◌, ap, append-nil, append_assoc, arith}
use Rattle.std.proofs.Common.{refl, sym, ◌∙◌}
use Rattle.std.proofs.lemmas.Grind.{replicate_next}
use Rattle.std.specs.Prelude.{replicate}
use Rattle.tiled_items.specs.Held.{held_places}
use Rattle.tiled_items.specs.declared.held.ItemPlace.{ItemPlace}
use Rattle.tiled_items.proofs.held.HeldItems.push_places.Goals as goal

pub places-init : goal.places-init
places-init g c = record {
  within = omega arith;
  capacity = λ some. let room = c.requires some in omega (arith, room);
  are = sym (append-nil (held_places c.args.self.now));
  nodes = refl;
}

pub places-preserved : goal.places-preserved
places-preserved g c =
    let is = c.places.invariant in
    let within = c.places-test.true in
    let long = c.in-Ok.ensures.len in
    let room = c.in-Ok.ensures.capacity in
    record {
      within = omega (arith, within);
      capacity = λ some. let before = is.capacity some in omega (arith, long, room, before);
      are = c.in-Ok.ensures.items
          ∙ ap (λ (l : List ItemPlace). l ++ c.args.place ∷ []) is.are
          ∙ append_assoc (held_places c.args.self.now) (replicate c.places.done c.args.place)
          (c.args.place ∷ [])
          ∙ ap (λ (l : List ItemPlace). held_places c.args.self.now ++ l)
          (sym (replicate_next c.places.done c.args.place));
      nodes = is.nodes;
    }
