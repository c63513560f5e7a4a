use Rattle.std.proofs.Common.{◌≡◌, ◌++◌, length, sym, ◌∙◌, arith, rules}
use Rattle.std.proofs.lemmas.Bool.{false≢true}
use Rattle.collide.proofs.Compared.{found_these}
use Rattle.collide.proofs.Hashed.{parts_left, parts_right, unprefixed}
use Rattle.collide.proofs.comparing.compare_pairs.Goals as goal

pub returns : goal.returns
returns g c =
    let left = c.args.left.now in
    let right = c.args.right.now in
    let size : length c.args.left.now.first ≡ length c.args.left.now.second = omega arith in
    let hashes : c.pair.result ≡ c.pair-2.result = search rules in
    found_these g.H.TreeHash.hash _ _ _ _ (c.in_ok-pair_string.ensures)
    (c.in_ok-pair_string-2.ensures)
    (λ same.
    let texts = unprefixed 1 (left.first ++ right.first) (left.second ++ right.second) same in
    false≢true (sym c.if-are_same.false ∙ c.are_same.ensures.1 (
      parts_left left.first right.first left.second right.second size texts,
      parts_right left.first right.first left.second right.second size texts,
    )))
    (sym c.pair.ensures ∙ hashes ∙ c.pair-2.ensures)
