-- How an audit ends by its entries, which were read as a stream.
use Rattle.std.proofs.Common.{◌≡◌, ℕ, Option, None, Some, Result, Ok, Err, ap, sym, subst, ◌∙◌}
use Rattle.std.proofs.Common.{refl, ◌≢◌}
use Rattle.byte_formats.specs.Types.{HashFunction, Text}
use Rattle.entry_list.specs.Items.{ItemLists}
use Rattle.entry_list.specs.Reading.{items_in}
use Rattle.entry_list.specs.Reasons.{items_fault_text}
use Rattle.entry_list.specs.declared.error.ItemsError.{ItemsError}
use Rattle.entry_stream.specs.Streams.{AreItemsOf}
use Rattle.world_core.specs.declared.answer.Audit.{Audit}
use Rattle.audit_stream.proofs.Answered.{AuditsAreOfSummaries_always}
use Rattle.audit_stream.specs.Summaries.{IsSummaryOf, SummaryParts, answer_by}
use Rattle.mtc_command.specs.Answers.{Ending, refused, replied, said, status_of, stop_ending}
use Rattle.mtc_command.specs.Endings.{Replies}
use Rattle.mtc_command.specs.Steps.{Outcome, with_form}
use Rattle.mtc_command.specs.Wanted.{Meets}
use Rattle.mtc_command.specs.declared.answer.Answer.{Answer}
use Rattle.mtc_command.specs.declared.answer.Said.{Said}
use Rattle.mtc_command.specs.declared.answer.Said.TheVariants.{Against, Collided, Done}
use Rattle.mtc_command.specs.declared.answer.Stop.{Stop}
use Rattle.mtc_command.specs.declared.answer.Stopped.TheVariants.{BadForm}
use Rattle.mtc_relying.specs.AuditOutcome.{audit_says}
use Rattle.mtc_relying.specs.Compared.{EndsAfter, ItemsTest, case_by, claim_says, wanted_by}
use Rattle.mtc_relying.specs.Views.{audit_reply}
use Rattle.mtc_relying.specs.declared.claim.Claim.{Claim}
use Rattle.mtc_relying.proofs.Audited.{audit_meets}

-- a fold took items of which more is known
pub of_items : (h : HashFunction) (P Q : ItemLists → Type 0) (bytes : Text)
    (counted : Result ℕ ItemsError) → ((items : ItemLists) → P items → Q items)
    → AreItemsOf h P counted bytes → AreItemsOf h Q counted bytes
of_items h P Q bytes (Ok count) so are = (are.0, are.1, are.2, so are.0 are.3)
of_items h P Q bytes (Err why) so are = are

module _ (h : HashFunction) (entries : Text) (taken : ItemLists → Type 0) (bytes : Text) where
  -- entries that have a fault are refused
  pub faulty : (counted : Result ℕ ItemsError) (stop : Stop) (next : ItemLists → Outcome)
      → AreItemsOf h taken counted bytes → ItemsTest entries counted (Err stop)
      → Replies (with_form items_fault_text entries (items_in h bytes) next).answer
      (stop_ending stop)
  faulty (Ok count) stop next are test = absurd test
  faulty (Err why) stop next are test =
      subst (λ (ending : Ending). Replies (with_form items_fault_text entries (items_in h bytes)
      next).answer ending) (sym test)
      (subst (λ (r : Result ItemLists ItemsError). Replies (with_form items_fault_text entries r
      next).answer (replied (refused BadForm (Some entries) (items_fault_text why)))) (sym are)
      (refl, λ is. absurd cc))

  -- else these are the items
  pub record ArePassed : Type 0 where
    pub items : ItemLists
    pub read : items_in h bytes ≡ Ok items
    pub are : taken items

  pub passed : (counted : Result ℕ ItemsError) (u : Unit {0}) → AreItemsOf h taken counted bytes
      → ItemsTest entries counted (Ok u) → ArePassed
  passed (Ok count) u are test =
      record { items = are.0; read = are.1; are = are.3 }
  passed (Err why) u are test = absurd test

  -- and the rest of the files decides how the command ends
  pub ended : (counted : Result ℕ ItemsError) (u : Unit {0}) (wanted : Text → Outcome)
      (ending : Ending) → EndsAfter h entries wanted ending → AreItemsOf h taken counted bytes
      → ItemsTest entries counted (Ok u) → Replies (wanted bytes).answer ending
  ended counted u wanted ending after are test =
      let p = passed counted u are test in
      subst (λ (w : Outcome). Replies w.answer ending)
      (sym (after.is bytes
      ∙ ap (λ r. with_form items_fault_text entries r after.next) p.read)) (after.ends p.items)

-- what is said has no status of arguments that are no command
never_bad : (status : Said) (text : Text) → status_of (said status text) ≢ 1
never_bad Done text = λ is. absurd cc
never_bad Against text = λ is. absurd cc
never_bad Collided text = λ is. absurd cc

-- a file that isn't in its grammar is refused
pub unread : {F E : Type 0} (fault_text : E → Text) (file : Text) (form : Result F E) (why : E)
    (next : F → Outcome) (stop : Stop) (reason : Text) → form ≡ Err why
    → stop_ending stop ≡ replied (refused BadForm (Some file) reason) → reason ≡ fault_text why
    → Replies (with_form fault_text file form next).answer (stop_ending stop)
unread fault_text file form why next stop reason is stops named =
    subst (λ (ending : Ending). Replies (with_form fault_text file form next).answer ending)
    (sym (stops ∙ ap (λ r. replied (refused BadForm (Some file) r)) named))
    (subst (λ r. Replies (with_form fault_text file r next).answer
    (replied (refused BadForm (Some file) (fault_text why)))) (sym is) (refl, λ is. absurd cc))

module _ (h : HashFunction) (entries : Text) (c : Claim) (items : ItemLists) (s : SummaryParts)
    (bytes : Text) where
  -- what is decided by the summary is the audit's answer
  pub decided_replies : IsSummaryOf h items (wanted_by h c) c.accepted.accepted.index s
      → items_in h bytes ≡ Ok items → (found : Audit)
      → answer_by h (case_by c items) s ≡ Some found → (answer : Answer)
      → said answer.status answer.text ≡ audit_reply found
      → Replies (claim_says h entries c bytes).answer (replied (said answer.status answer.text))
  decided_replies is read found decides answer says =
      let x = case_by c items in
      let audit = (AuditsAreOfSummaries_always h x s is).answer found decides in
      subst (λ (w : Outcome). Replies w.answer (replied (said answer.status answer.text)))
      (sym (ap (λ r. with_form items_fault_text entries r (λ items. audit_says h (case_by c items)))
      read)) (
        subst (Meets (audit_says h x).answer) (sym says) (audit_meets h x found audit),
        never_bad answer.status answer.text,
      )
