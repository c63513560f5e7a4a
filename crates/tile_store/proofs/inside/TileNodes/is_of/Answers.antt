use Rattle.std.proofs.Common.{◌≡◌, [], length, get_or, sym, ◌∙◌, ap, arith}
use Rattle.std.proofs.lemmas.List.{get_or-take, length-take-le}
use Rattle.std.proofs.lemmas.Slice.Eq.{bytes_eq-Decides}
use Rattle.tile_store.specs.Contents.{hash_in}
use Rattle.tile_store.proofs.inside.TileNodes.is_of.Goals as goal

pub slice_bounds-bytes_of-end : goal.slice_bounds-bytes_of-end
slice_bounds-bytes_of-end g c =
    let value = ap length c.deref.ensures.value in
    let count = c.args.self.now.count in
    sym (length-take-le 256 c.deref.result.now (omega arith))

pub returns : goal.returns
returns g c = λ yes i inside.
    let value = ap length c.deref.ensures.value in
    let count = c.args.self.now.count in
    let size = length-take-le 256 c.deref.result.now (omega arith) in
    let decides = bytes_eq-Decides c.bytes_of.result.now c.args.tile.now in
    let same : c.bytes_of.result.now ≡ c.args.tile.now = decides.0 (sym c.eq.ensures ∙ yes) in
    ap (λ list. get_or list i []) (sym c.deref.ensures.value)
    ∙ sym (get_or-take 256 c.deref.result.now i [] inside)
    ∙ sym (c.bytes_of.ensures.each i (omega arith)) ∙ ap (hash_in i) same
