use Rattle.std.proofs.Common.{◌≡◌, ℕ, ◌+◌, ◌-◌, ◌*◌, ◌/◌, ◌%◌, ◌^◌, ◌<◌, ◌∙◌, ap, arith}
use Rattle.std.proofs.Math.Nat.{div-eq_of_lt}
use Rattle.tree_cache.proofs.Forgets.{bytes-of, one-shifted}
use Rattle.tree_cache.proofs.rows.nodes_in_tiles.Goals as goal
use Rattle.tree_cache.specs.Tiled.{gone_of}

-- fewer than 2^32 leaves fill no tile of level 7
none-wide : (size level : ℕ) → size < 2 ^ 32 → 8 * (level / 8 + 1) ≡ 64 → 0 ≡ gone_of size level
none-wide size level few wide =
    let eight : level / 8 + 1 ≡ 8 = omega arith in
    let none : size / 256 ^ 8 ≡ 0 = div-eq_of_lt {n = size} {m = 256 ^ 8} (omega arith) in
    let all : gone_of size level ≡ 0 * 2 ^ (8 - level % 8) =
    ap (λ k. size / 256 ^ k * 2 ^ (8 - level % 8)) eight
    ∙ ap (λ q. q * 2 ^ (8 - level % 8)) none in
    omega arith

pub returns-then-width-eq64 : goal.returns-then-width-eq64
returns-then-width-eq64 c =
    none-wide c.args.size c.args.level c.requires.few (omega arith)

pub returns : goal.returns
returns c =
    ap (λ p. c.args.size / 2 ^ (8 * (c.args.level / 8 + 1)) * p)
    (one-shifted (8 - c.args.level % 8) (omega arith))
    ∙ ap (λ d. c.args.size / d * 2 ^ (8 - c.args.level % 8)) (bytes-of (c.args.level / 8 + 1))
