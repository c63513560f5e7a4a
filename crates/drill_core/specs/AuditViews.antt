-- The audits of a certificate with the parties of a drill.
use Rattle.std.specs.Prelude.{List}
use Rattle.std.specs.List.{AllByRecursion}
use Rattle.byte_formats.specs.Types.{HashFunction, Text}
use Rattle.tree_core.specs.declared.hashing.TreeHash.{Ghosts as Hashes}
use Rattle.policy_core.specs.declared.store.Store.{Store}
use Rattle.issuance_log.specs.Folds.{LogState}
use Rattle.drill_parties.specs.CosignerViews.{cosigner_shown, records_shown}
use Rattle.drill_parties.specs.declared.cosigner_party.CosignerParty.{CosignerParty}
use Rattle.drill_core.specs.Audits.{StandsWith}

-- The audit of the certificate with the log's items and the records of each cosigner stands.
abbrev pub AllStand : {H : Type 0} {hashes : Hashes H} → HashFunction → Store → Text → LogState
    → List (CosignerParty H hashes) → Type 0
AllStand h store cert log parties =
    AllByRecursion
    (λ party. StandsWith h store cert log (cosigner_shown party) (records_shown party))
    parties
