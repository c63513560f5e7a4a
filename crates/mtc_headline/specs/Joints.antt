-- The joints of the promise: from the signature that went out to its record, from what was recorded
-- to what is read after a crash, and from what `verify` accepts to what an audit takes as accepted.
use Rattle.std.specs.Prelude.{◌≡◌, ℕ, pos, List, Ok}
use Rattle.byte_formats.specs.Types.{HashFunction, Text}
use Rattle.file_events.specs.Executions.{IsPrefix}
use Rattle.file_events.specs.Worlds.{EachRun, Program, states_of}
use Rattle.party_history.specs.Rules.{IsReadAs}
use Rattle.policy_core.specs.declared.store.Store.{Store}
use Rattle.mtc_words.specs.Commands.{CommandValue}
use Rattle.mtc_relying.specs.AuditOutcome.{AcceptedParts, accepted_in}
use Rattle.mtc_top.specs.Executions.{Run, WasHeld}
use Rattle.mtc_laws.specs.CertLaws.{HasVerified}
use Rattle.mtc_laws.specs.Cosigners.{CosignerExecution, HasSignRecord}
use Rattle.mtc_laws.specs.ExecutionLaws.{OfExecutions}
use Rattle.mtc_laws.specs.PrintLaws.{HasCosigned, OfHeard, Signs}

module _ (h : HashFunction) (p : Program) where
  -- Each run of an execution that handed out a signature has its record among those that the
  -- execution held.
  abbrev pub PrintedIsRecorded : Type 0
  PrintedIsRecorded = (x : CosignerExecution h p) (command : CommandValue) → Signs x.name command
      → EachRun p (OfHeard h p command (λ old run. (signed : HasCosigned h p x.name old run)
      × HasSignRecord h p x signed.request.start signed.request.end signed.request.hash))
      x.begins x.events

  -- Whatever a crash leaves of a journal is read as the log, the cosigner or the mirror, with
  -- records that begin with all that a run of the execution found in it or made of it.
  abbrev pub HeldIsRead : Type 0
  HeldIsRead = OfExecutions h p (λ name start first old events new. (list : List Text) (c : Text)
      → WasHeld h p name old events list → states_of p name new c
      → (found : List Text) × (IsReadAs h start c found × IsPrefix list found))

  -- What a run of `verify` accepted with status 0, an audit of the same bytes, store and time takes
  -- as accepted.
  abbrev pub VerifiedCanBeAudited : Type 0
  VerifiedCanBeAudited = (bytes : Text) (store : Store) (unix_time : ℕ) (old : p.R)
      (run : Run p.R p.O p.E) → HasVerified h p bytes store unix_time old run → run.status ≡ 0
      → (parts : AcceptedParts) × (accepted_in h bytes store (pos unix_time) ≡ Ok parts)
