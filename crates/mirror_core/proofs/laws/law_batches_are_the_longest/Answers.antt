use Rattle.std.proofs.Common.{◌+◌, ◌<◌, drop, length, take, arith, inl, inr, ◌⊎◌, ◌≡◌, true, false}
use Rattle.std.proofs.Common.{List, ℕ, ◌||◌, Bool}
use Rattle.std.specs.Prelude.{flat_map}
use Rattle.std.proofs.lemmas.Bool.{ltb-false}
use Rattle.byte_formats.specs.Types.{Text}
use Rattle.issuance_log.specs.Batches.{has_large, is_large, most_listed}
use Rattle.issuance_log.specs.Records.{item_text}
use Rattle.issuance_log.specs.Settings.{most_item}
use Rattle.issuance_log.proofs.Fitting.{four_each, length-item}
use Rattle.mirror_core.specs.Records.{mirror_batch_record}
use Rattle.mirror_core.specs.Refusals.{next_batch}
use Rattle.mirror_core.proofs.Batching.{are_taken, batch_few, some_taken}
use Rattle.mirror_core.proofs.Encoded.{length-batch}
use Rattle.mirror_core.proofs.Longest.{more_is_large}
use Rattle.mirror_core.proofs.laws.law_batches_are_the_longest.Goals as goal

pub returns-clause-fits : goal.returns-clause-fits
returns-clause-fits c = λ size items.
    let few = batch_few items size in
    omega (arith, few, length-batch (next_batch size items))

pub returns-clause-few : goal.returns-clause-few
returns-clause-few c = λ size items.
    let few = batch_few items size in
    let four = four_each (next_batch size items) in
    omega (arith, few, four)

pub returns-clause-small : goal.returns-clause-small
returns-clause-small c = λ size items. (are_taken most_listed (drop size items)).small

long_body : (items : List (Text × Text)) (n : ℕ) → (has_large (take n items) ≡ true)
    ⊎ (131069 < length (flat_map item_text (take n items)))
    → (has_large (take n items) ≡ true) ⊎ (131072 < length (mirror_batch_record (take n items)))
long_body items n (inl large) = inl large
long_body items n (inr many) = inr (omega (arith, many, length-batch (take n items)))

pub returns-clause-longest : goal.returns-clause-longest
returns-clause-longest c = λ items n above within.
    long_body items n (more_is_large most_listed items n above within)

-- an item that isn't large, alone
alone : (b : Bool) → (b || false) ≡ false → b ≡ false
alone true is = is
alone false is = is

pub returns-clause-some : goal.returns-clause-some
returns-clause-some c = λ x items small.
    let none = alone (is_large x) small in
    let few = ltb-false most_item (length x.0 + length x.1) none in
    some_taken x items none (omega (arith, few, length-item x))
