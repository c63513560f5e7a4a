use Rattle.std.proofs.Common.{◌≡◌, take}
use Rattle.std.specs.Prelude.{map}
use Rattle.drill_parties.specs.CosignerViews.{cosigner_shown}
use Rattle.drill_core.specs.Stores.{known_as}
use Rattle.drill_core.proofs.store.all_known.Given as goal

abbrev pub invariant-loop-party : goal.invariant-loop-party
invariant-loop-party g l = l.list.items
    ≡ map (λ party. known_as (cosigner_shown party)) (take l.party-index l.parties)
