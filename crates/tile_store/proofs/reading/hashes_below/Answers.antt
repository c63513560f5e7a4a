use Rattle.std.proofs.Common.{◌+◌, ◌<◌, sym, ◌∙◌, ap, subst}
use Rattle.tile_store.proofs.Bytes.{hash-part}
use Rattle.tile_store.specs.Contents.{hash_in}
use Rattle.tile_store.proofs.reading.hashes_below.Goals as goal

pub returns-clause-hashes : goal.returns-clause-hashes
returns-clause-hashes c = λ i inside.
    hash-part i c.below-first.result.0 c.below-first.result.1 c.args.tile.now
    (subst (λ n. i < n) (sym c.below-first.ensures.count) inside)
    ∙ ap (λ n. hash_in (n + i) c.args.tile.now) c.below-first.ensures.first
