-- What an audit compares with the entries of a log, and how it ends where it compares nothing.
use Rattle.std.specs.Prelude.{◌≡◌, ℕ, IfSome, Option, None, Some, Result, Ok, Err}
use Rattle.byte_formats.specs.Types.{HashFunction, Text}
use Rattle.cert_fields.specs.Views.{parts}
use Rattle.cosigner_steps.specs.Steps.{AreSteps}
use Rattle.entry_list.specs.Items.{ItemLists}
use Rattle.entry_list.specs.Reading.{items_in}
use Rattle.entry_list.specs.Reasons.{items_fault_text}
use Rattle.entry_list.specs.declared.error.ItemsError.{ItemsError}
use Rattle.mtc_proof.specs.Views.{proof_parts}
use Rattle.world_core.specs.Audit.{AuditCase, WasJudged, wanted_hash}
use Rattle.world_core.specs.declared.wanted.WantedHash.{WantedHash}
use Rattle.mtc_command.specs.Answers.{Ending, ending_of, refused, replied, stop_ending}
use Rattle.mtc_command.specs.Endings.{Replies}
use Rattle.mtc_command.specs.Steps.{Outcome, with_form}
use Rattle.mtc_command.specs.declared.answer.Answer.{Answer}
use Rattle.mtc_command.specs.declared.answer.Stop.{Stop}
use Rattle.mtc_command.specs.declared.answer.Stopped.TheVariants.{BadForm}
use Rattle.mtc_relying.specs.AuditOutcome.{audit_says, case_of}
use Rattle.mtc_relying.specs.Views.{accepted_parts}
use Rattle.mtc_relying.specs.declared.claim.Claim.{Claim}
use Rattle.mtc_relying.specs.declared.claim.Judged.{Judged}
use Rattle.mtc_relying.specs.declared.claim.Judged.TheVariants.{BadStore, Claims, Ends}

-- A claim as a case of an audit, against these items.
abbrev pub case_by : Claim → ItemLists → AuditCase
case_by c items = case_of c.store items c.kept (accepted_parts c.accepted)

-- The hash that it wants of a list.
abbrev pub wanted_by : HashFunction → Claim → Option WantedHash
wanted_by h c = wanted_hash h c.accepted.accepted c.kept c.accepted.accepted.by

-- The store accepts the certificate so at some time, and the export has the steps of a cosigner.
pub record CanBeAudited (h : HashFunction) (c : Claim) : Type 0 where
  pub judged : WasJudged h c.store (parts c.accepted.cert) (proof_parts c.accepted.proof)
      c.accepted.accepted
  pub allowed : IfSome c.kept (λ e. AreSteps h e.steps)

-- A file of entries is read, and compared with the claim.
abbrev pub claim_says : HashFunction → Text → Claim → Text → Outcome
claim_says h entries c bytes =
    with_form items_fault_text entries (items_in h bytes) (λ items. audit_says h (case_by c items))

-- Of a file of entries only a fault is reported, before this ending.
pub record EndsAfter (h : HashFunction) (entries : Text) (wanted : Text → Outcome)
    (ending : Ending) : Type 0 where
  pub next : ItemLists → Outcome
  pub is : (bytes : Text)
      → wanted bytes ≡ with_form items_fault_text entries (items_in h bytes) next
  pub ends : (items : ItemLists) → Replies (next items).answer ending

-- This is what the other files leave of the outcome for each file of entries.
abbrev pub LeavesOf : HashFunction → Text → (Text → Outcome) → Judged → Type 0
LeavesOf h entries wanted (BadStore stop) =
    (bytes : Text) → Replies (wanted bytes).answer (stop_ending stop)
LeavesOf h entries wanted (Ends result) = EndsAfter h entries wanted (ending_of result)
LeavesOf h entries wanted (Claims c) = (bytes : Text) → wanted bytes ≡ claim_says h entries c bytes

-- This holds of the claim, if there is one.
abbrev pub IfClaims : (Claim → Type 0) → Judged → Type 0
IfClaims P (BadStore stop) = Unit {0}
IfClaims P (Ends result) = Unit {0}
IfClaims P (Claims c) = P c

-- The entries are taken if they have no fault, and else refused.
abbrev pub ItemsTest : Text → Result ℕ ItemsError → Result (Unit {0}) Stop → Type 0
ItemsTest entries (Ok count) (Ok u) = Unit {0}
ItemsTest entries (Ok count) (Err stop) = ⊥
ItemsTest entries (Err why) (Ok u) = ⊥
ItemsTest entries (Err why) (Err stop) =
    stop_ending stop ≡ replied (refused BadForm (Some entries) (items_fault_text why))

-- It replies as is wanted, or doesn't reply yet.
abbrev pub RepliesFirst : Outcome → Result (Option Answer) Stop → Type 0
RepliesFirst wanted (Ok None) = Unit {0}
RepliesFirst wanted (Ok (Some answer)) = Replies wanted.answer (ending_of (Ok answer))
RepliesFirst wanted (Err stop) = Replies wanted.answer (stop_ending stop)
