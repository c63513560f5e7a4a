use Rattle.std.proofs.Common.{◌+◌, ◌*◌, ◌<◌, sym, ◌∙◌, ap, subst}
use Rattle.std.proofs.Common.{arith, rules}
use Rattle.tile_store.proofs.Numbers.{full-small, full-within}
use Rattle.tree_cache.proofs.Forgets.{bytes-of}
use Rattle.tree_cache.specs.Rows.{filled_of}
use Rattle.tree_core.specs.Path.{part_of}
use Rattle.tree_core.specs.Tree.{root_of}
use Rattle.tile_store.proofs.writing.tile_bytes.Goals as goal

pub overflow_mul-key-2 : goal.overflow_mul-key-2
overflow_mul-key-2 c =
    let most = c.requires.few in
    let few = full-small (filled_of c.args.rows.now) c.args.key.level c.args.key.place
    (omega arith) c.requires.full in
    search rules

pub hashes-requires-clause-within : goal.hashes-requires-clause-within
hashes-requires-clause-within c =
    full-within (filled_of c.args.rows.now) c.args.key.level c.args.key.place c.requires.full

pub returns-clause-tile : goal.returns-clause-tile
returns-clause-tile c = λ h leaves are.
    record {
      size = c.bytes_of.ensures.size ∙ ap (λ n. 32 * n) c.hashes.ensures.size;
      hashes = λ i inside.
          c.bytes_of.ensures.each i (subst (λ n. i < n) (sym c.hashes.ensures.size) inside)
          ∙ c.hashes.ensures.each h leaves are i inside
          ∙ ap (λ p. root_of h (part_of leaves ((256 * c.args.key.place + i) * p)
          ((256 * c.args.key.place + i + 1) * p))) (bytes-of c.args.key.level);
    }
