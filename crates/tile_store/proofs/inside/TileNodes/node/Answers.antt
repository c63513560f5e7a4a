use Rattle.std.proofs.Common.{◌≡◌, ℕ, ◌+◌, ◌-◌, ◌*◌, ◌%◌, ◌^◌, ◌<◌, [], get_or}
use Rattle.std.proofs.Common.{sym, ◌∙◌, ap, subst, arith}
use Rattle.std.proofs.lemmas.List.{get_or_default}
use Rattle.std.proofs.lemmas.Nat.{pow_pos}
use Rattle.tile_store.proofs.Parents.{node-in, node-within}
use Rattle.tile_store.specs.Inside.{IsNodeIn}
use Rattle.tile_store.proofs.inside.TileNodes.node.Goals as goal

below : (level place : ℕ) → place % 2 ^ (8 - level % 8) < 2 ^ (8 - level % 8)
below level place =
    let positive = pow_pos (8 - level % 8) in
    omega arith

pub index-requires : goal.index-requires
index-requires g c =
    let inside = below c.args.level c.args.place in
    let within = node-within (c.args.level % 8) (c.args.place % 2 ^ (8 - c.args.level % 8))
    (omega arith) inside in
    let count = c.args.self.now.count in
    let size = c.args.self.now.nodes.ok in
    omega arith

pub returns : goal.returns
returns g c = λ tile hashes.
    let low = c.args.level % 8 in
    let index = c.args.place % 2 ^ (8 - c.args.level % 8) in
    let nodes = c.args.self.now.nodes.items in
    let inside = below c.args.level c.args.place in
    let within = node-within low index (omega arith) inside in
    let count = c.args.self.now.count in
    let at : c.start_of.result + c.index_in.result ≡ 512 - 2 ^ (9 - low) + index = omega arith in
    let is : c.index.result.now ≡ get_or nodes (512 - 2 ^ (9 - low) + index) [] =
    c.index.ensures ∙ ap (λ n. get_or nodes n c.index.result.now) at
    ∙ get_or_default nodes (512 - 2 ^ (9 - low) + index) c.index.result.now [] (omega arith) in
    subst (IsNodeIn g.H.TreeHash.hash tile (index * 2 ^ low) (2 ^ low)) (sym is)
    (node-in g.H.TreeHash.hash nodes tile c.args.self.now.paired hashes low index (omega arith)
    inside)
