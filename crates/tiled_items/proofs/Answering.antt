-- The answers of calls that append a record.
use Rattle.std.proofs.Common.{◌≡◌, ℕ, ◌+◌, ◌<◌, length, nat_lt, Bool, false, refl, None, Option}
use Rattle.std.proofs.Common.{Result, Ok, Err, subst, sym}
use Rattle.std.specs.Prelude.{◌↔◌, IsErrOf, IsTrue}
use Rattle.byte_formats.specs.Types.{Text}
use Rattle.issuance_log.specs.Changes.{IsJournalAnswer}
use Rattle.issuance_log.specs.Refusals.{append_refusal}
use Rattle.journal_core.specs.Format.{most_bytes}
use Rattle.journal_core.specs.declared.error.AppendError.TheVariants.{Broken, Failed, Full}
use Rattle.state_journal.proofs.Answered.{AnswersSo, answered_so}
use Rattle.journal_core.specs.declared.error.AppendError.{AppendError}
use Rattle.tiled_items.specs.Answers.{KeepsToTiledJournal, RecordKeepsTo}
use Rattle.tiled_items.specs.declared.error.TiledError.{TiledError}

-- ---- what the journal answers

pub appended_none : (broken : Bool) (end : ℕ) (body : Text) (done : Unit {0})
    → (IsErrOf {T = Unit {0}} (Ok done) Broken ↔ IsTrue broken)
    → (IsErrOf {T = Unit {0}} (Ok done) Full
    ↔ (broken ≡ false) × (most_bytes < end + 5 + length body))
    → append_refusal broken end body ≡ None
appended_none broken end body done by_broken by_full =
    let is = answered_so broken most_bytes (end + 5 + length body) (Ok done) by_broken by_full in
    rw (is.0, is.1) refl

pub refused_keeps : (broken : Bool) (end : ℕ) (body : Text) (why : AppendError)
    → (IsErrOf {T = Unit {0}} (Err why) Broken ↔ IsTrue broken)
    → (IsErrOf {T = Unit {0}} (Err why) Full
    ↔ (broken ≡ false) × (most_bytes < end + 5 + length body))
    → IsJournalAnswer (append_refusal broken end body) why
refused_keeps broken end body why by_broken by_full =
    at why (answered_so broken most_bytes (end + 5 + length body) (Err why) by_broken by_full)
  where
    at : (e : AppendError) → AnswersSo (Err e) broken (nat_lt most_bytes (end + 5 + length body))
        → IsJournalAnswer (append_refusal broken end body) e
    at Failed is = rw (is.0, is.1) refl
    at Broken is = rw is refl
    at Full is = rw (is.0, is.1) refl

pub record_answer : (o : Option AppendError) (result : Result (Unit {0}) TiledError)
    → KeepsToTiledJournal o result → RecordKeepsTo o result
record_answer o (Ok done) is = is
record_answer o (Err why) is =
    subst (λ (e : TiledError). RecordKeepsTo o (Err e)) (sym is.1.0) is.1.1
