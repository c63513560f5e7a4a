use Rattle.std.proofs.Common.{◌∙◌, ap}
use Rattle.tile_store.proofs.Flats.{flat-hash}
use Rattle.tile_store.specs.Contents.{hash_in}
use Rattle.tile_store.proofs.writing.bytes_of.Goals as goal

pub returns-clause-each : goal.returns-clause-each
returns-clause-each c = λ i inside.
    ap (hash_in i) c.as_flattened.ensures.value ∙ flat-hash c.args.hashes.now c.told-hashes i inside
