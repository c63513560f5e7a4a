-- A certificate that bears a printed signature was accepted by it, as the headline supposes.
use Rattle.std.specs.Prelude.{◌≡◌, ℕ, pos, true, List, slice_get, Some, Ok}
use Rattle.std.specs.List.{AllByRecursion, Contains, flat_map}
use Rattle.byte_formats.specs.Types.{HashFunction, Text}
use Rattle.file_events.specs.Worlds.{EachRun, Program}
use Rattle.cosigner_core.specs.Folds.{CosignerState}
use Rattle.cosigner_core.specs.Requests.{SubtreeParts}
use Rattle.mtc_proof.specs.Proofs.{IsMtcSignature, SigParts, signature_text}
use Rattle.policy_core.specs.Counting.{is_named}
use Rattle.policy_core.specs.declared.answer.By.TheVariants.{Cosigners}
use Rattle.policy_core.specs.declared.cosigners.Known.{Known}
use Rattle.policy_core.specs.declared.store.Store.{Store}
use Rattle.mtc_words.specs.Commands.{CommandValue}
use Rattle.mtc_relying.specs.AuditOutcome.{AcceptedParts, accepted_in}
use Rattle.mtc_laws.specs.CountLaws.{signature_of}
use Rattle.mtc_laws.specs.Cosigners.{CosignerExecution}
use Rattle.mtc_laws.specs.PrintLaws.{HasCosigned, OfHeard, Signs}
use Rattle.mtc_headline.specs.Headline.{IsAcceptedBy}

module _ (h : HashFunction) (p : Program) where
  -- The certificate was accepted by cosigners, and its proof has this signature, which was made
  -- over the accepted interval with the accepted hash. The store has the cosigner's id and public
  -- key, is for its log, and has a rule that names it.
  pub record BearsSignature (x : CosignerExecution h p) (s : CosignerState)
      (request : SubtreeParts) (store : Store) (parts : AcceptedParts) : Type 0 where
    pub by : (set : ℕ) × (parts.accepted.by ≡ Cosigners set)
    pub list : List SigParts
    pub each : AllByRecursion IsMtcSignature list
    pub encoded : parts.proof.signatures ≡ flat_map signature_text list
    pub among : Contains list (signature_of s request)
    pub place : ℕ
    pub known : Known
    pub there : slice_get store.cosigners place ≡ Some known
    pub id_is : known.id ≡ x.settings.id
    pub key_is : known.key ≡ x.public
    pub named : is_named store.rules place ≡ true
    pub log_is : store.log ≡ x.settings.log
    pub start_is : request.start ≡ parts.accepted.start
    pub end_is : request.end ≡ parts.accepted.end
    pub hash_is : request.hash ≡ parts.accepted.hash

  -- What a run of an execution handed out counts wherever a certificate bears it so.
  abbrev pub BorneSignaturesCount : Type 0
  BorneSignaturesCount = (x : CosignerExecution h p) (command : CommandValue)
      → Signs x.name command
      → EachRun p (OfHeard h p command (λ old run. (signed : HasCosigned h p x.name old run)
      × ((bytes : Text) (store : Store) (unix_time : ℕ) (parts : AcceptedParts)
      → accepted_in h bytes store (pos unix_time) ≡ Ok parts
      → BearsSignature x signed.state signed.request store parts
      → IsAcceptedBy h p x signed.request store parts.accepted))) x.begins x.events
