-- The headline: from a signature that went out, or a landmark, by what `verify` accepts, to what
-- `audit` prints.
use Rattle.std.specs.Prelude.{◌≡◌, ℕ, List, [], ◌∷◌, ◌++◌, Option, Some, Ok}
use Rattle.byte_formats.specs.Types.{HashFunction, Text}
use Rattle.file_events.specs.Events.{MayRecover}
use Rattle.file_events.specs.Executions.{IsPrefix}
use Rattle.file_events.specs.Worlds.{EachRun, Program, states_of}
use Rattle.cosigner_core.specs.Counts.{AreCounted}
use Rattle.cosigner_core.specs.ExportReading.{export_in}
use Rattle.cosigner_core.specs.Requests.{SubtreeParts}
use Rattle.cosigner_core.specs.declared.lists.Export.{Export}
use Rattle.cosigner_steps.specs.Steps.{HasPrefix, held_by}
use Rattle.entry_list.specs.Items.{ItemLists}
use Rattle.party_history.specs.Rules.{IsReadAs}
use Rattle.party_history.specs.declared.start.PartyStart.TheVariants.{Cosigner}
use Rattle.policy_core.specs.declared.answer.Accepted.{Accepted}
use Rattle.policy_core.specs.declared.answer.By.TheVariants.{Cosigners, Landmark}
use Rattle.policy_core.specs.declared.store.Store.{Store}
use Rattle.world_core.specs.Audit.{HasInterval}
use Rattle.mtc_words.specs.Commands.{CommandValue}
use Rattle.mtc_relying.specs.AuditOutcome.{AcceptedParts}
use Rattle.mtc_top.specs.Executions.{Run}
use Rattle.mtc_laws.specs.AuditLaws.{HasCounted}
use Rattle.mtc_laws.specs.Cosigners.{CosignerExecution, WasExported}
use Rattle.mtc_laws.specs.PrintLaws.{HasCosigned, Signs}
use Rattle.mtc_laws.specs.Promise.{KeepsItsPromise}
use Rattle.mtc_headline.specs.AuditRuns.{AuditsAnswer, OfVerified}
use Rattle.mtc_headline.specs.Endings.{GoodRunsAnswer, OfSent}
use Rattle.mtc_headline.specs.Joints.{HeldIsRead, PrintedIsRecorded, VerifiedCanBeAudited}
use Rattle.mtc_headline.specs.OneText.{OneKeySignsOneText}

module _ (h : HashFunction) (p : Program) where
  -- The store accepted by cosigners, and counted this one: it has the cosigner's id, public key and
  -- log, and the request has the accepted interval and the accepted hash.
  pub record IsAcceptedBy (x : CosignerExecution h p) (request : SubtreeParts) (store : Store)
      (accepted : Accepted) : Type 0 where
    pub set : ℕ
    pub by : accepted.by ≡ Cosigners set
    pub counts : HasCounted store set x.settings.id x.public
    pub log_is : x.settings.log ≡ store.log
    pub start_is : request.start ≡ accepted.start
    pub end_is : request.end ≡ accepted.end
    pub hash_is : request.hash ≡ accepted.hash

  -- What a run of `export` after the execution printed is an export. Over it, and over each list
  -- that begins with the entries of its last checkpoint, audits answer.
  abbrev pub ExportsDecide : CosignerExecution h p → Text → Store → ℕ → AcceptedParts → Type 0
  ExportsDecide x bytes store unix_time parts = (kept_text : Text) → WasExported h p x kept_text
      → (export : Export) × ((export_in h kept_text ≡ Ok (Some export))
      × ((items : ItemLists) → HasPrefix h items.entries (held_by h export.steps)
      → AuditsAnswer h p bytes store unix_time items kept_text (Some export) parts))

  -- The run handed out a signature in this execution, and can be held to it.
  pub record IsAccountable (x : CosignerExecution h p) (old : p.R) (run : Run p.R p.O p.E)
      : Type 0 where
    -- What went out is the signature of a request, by the key whose number the new record has.
    pub signed : HasCosigned h p x.name old run
    -- Whatever a crash leaves of the journal is read as the cosigner's, with records that begin
    -- with those that were there and that one.
    pub stands : (c : Text) → states_of p x.name x.ends c → (found : List Text)
        × (IsReadAs h (Cosigner x.settings x.public) c found
        × IsPrefix (signed.list ++ signed.body ∷ []) found)
    -- If `verify` accepted a certificate by that signature, each later export decides.
    pub audits : OfVerified h p (λ bytes store unix_time parts.
        IsAcceptedBy x signed.request store parts.accepted
        → ExportsDecide x bytes store unix_time parts)

  -- If `verify` accepted a certificate by a landmark, audits answer over each list with the
  -- accepted hash in the accepted interval, and over any export that is read.
  abbrev pub LandmarksDecide : Type 0
  LandmarksDecide = OfVerified h p (λ bytes store unix_time parts. parts.accepted.by ≡ Landmark
      → (items : ItemLists) → HasInterval h items parts.accepted
      → (kept_text : Text) (kept : Option Export) → export_in h kept_text ≡ Ok kept
      → AuditsAnswer h p bytes store unix_time items kept_text kept parts)

  -- The headline, of all executions of cosigners' journals.
  pub record Headline : Type 0 where
    -- No one-time key signs twice. Of the records that a crash may leave no two use one key; and of
    -- two runs that handed out a signature by one key the texts are one.
    pub keys_sign_once : (x : CosignerExecution h p) (record0 : Text) (bodies : List Text)
        → MayRecover (states_of p x.name x.ends) (record0 ∷ bodies) → AreCounted bodies
    pub one_text : OneKeySignsOneText h p
    -- Each run that handed out a signature, with status 0 or after its first byte, can be held to
    -- it: its record stands, and what was accepted by it can be audited.
    pub signatures : (x : CosignerExecution h p) (command : CommandValue) → Signs x.name command
        → EachRun p (OfSent p command (IsAccountable x)) x.begins x.events
    -- What was accepted by a landmark can be audited.
    pub landmarks : LandmarksDecide

  -- It follows from the promise as a whole and from the joints.
  abbrev pub HeadlineFollows : Type 0
  HeadlineFollows = KeepsItsPromise h p → PrintedIsRecorded h p → VerifiedCanBeAudited h p
      → HeldIsRead h p → OneKeySignsOneText h p → GoodRunsAnswer p → Headline
