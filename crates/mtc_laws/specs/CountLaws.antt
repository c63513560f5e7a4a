-- Which printed signatures count.
use Rattle.std.specs.Prelude.{◌≡◌, ℕ, true, List, Some}
use Rattle.std.specs.Prelude.{slice_get}
use Rattle.std.specs.List.{AllByRecursion, Contains, flat_map}
use Rattle.byte_formats.specs.Types.{HashFunction, Text}
use Rattle.mtc_proof.specs.Proofs.{IsMtcSignature, ProofParts, SigParts, signature_text}
use Rattle.policy_core.specs.Counting.{counted, is_in_set, is_named}
use Rattle.policy_core.specs.declared.cosigners.Known.{Known}
use Rattle.policy_core.specs.declared.store.Store.{Store}
use Rattle.cosigner_core.specs.Folds.{CosignerState}
use Rattle.cosigner_core.specs.Requests.{SubtreeParts}
use Rattle.cosigner_core.specs.Signatures.{signature_by}
use Rattle.cosigner_core.specs.declared.settings.CosignerSettings.{CosignerSettings}
use Rattle.party_history.specs.declared.start.PartyStart.TheVariants.{Cosigner}
use Rattle.file_events.specs.Worlds.{EachRun, Program}
use Rattle.mtc_laws.specs.ExecutionLaws.{OfExecutions}
use Rattle.mtc_words.specs.Commands.{CommandValue}
use Rattle.mtc_laws.specs.PrintLaws.{HasCosigned, OfHeard, Signs}
use Rattle.mtc_top.specs.Executions.{Run}

-- The signature whose text `cosign` and `mirror-cosign` print.
abbrev pub signature_of : CosignerState → SubtreeParts → SigParts
signature_of s r = record { cosigner = s.id; signature = signature_by s r.start r.end r.hash }

module _ (h : HashFunction) (p : Program) where
  -- The signature that a run printed has the form of those in a list. It counts in each store of
  -- the cosigner's log that has its id and public key, where some rule names it: for each proof of
  -- the interval and the hash of the request, whose signatures are a list with it.
  pub record CountsInStores (settings : CosignerSettings) (public name : Text) (old : p.R)
      (run : Run p.R p.O p.E) : Type 0 where
    pub signed : HasCosigned h p name old run
    pub form : IsMtcSignature (signature_of signed.state signed.request)
    pub counts : (store : Store) (index : ℕ) (known : Known) (proof : ProofParts)
        (list : List SigParts) → slice_get store.cosigners index ≡ Some known
        → known.id ≡ settings.id → known.key ≡ public → is_named store.rules index ≡ true
        → store.log ≡ settings.log → proof.start ≡ signed.request.start
        → proof.end ≡ signed.request.end → AllByRecursion IsMtcSignature list
        → proof.signatures ≡ flat_map signature_text list
        → Contains list (signature_of signed.state signed.request)
        → is_in_set (counted store proof signed.request.hash) index ≡ true

  -- So it is of each run of an execution by a command that signs, if it did its work or if a byte
  -- of it may have gone out.
  abbrev pub PrintedSignaturesCount : Type 0
  PrintedSignaturesCount = OfExecutions h p (λ name start first old events new.
      (settings : CosignerSettings) (public : Text) → start ≡ Cosigner settings public
      → (command : CommandValue) → Signs name command
      → EachRun p (OfHeard h p command (CountsInStores settings public name)) old events)
