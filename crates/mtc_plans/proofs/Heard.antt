-- What follows from the text of a command, by its plan.
use Rattle.std.proofs.Common.{◌≡◌, ℕ, Bool, true, false, List, [], ◌∷◌, ◌++◌, Option, None, Some}
use Rattle.std.proofs.Common.{Result, Ok, Err, refl, sym, ap, subst, ◌∙◌, codes, length, nat_lt}
use Rattle.std.proofs.Common.{if◌then◌else◌}
use Rattle.std.specs.Fmt.{decimal}
use Rattle.byte_formats.specs.Types.{HashFunction}
use Rattle.journal_core.specs.Folds.{Found, read_by}
use Rattle.journal_core.specs.Format.{end_offset}
use Rattle.authority_core.specs.Files.{request_of}
use Rattle.authority_core.specs.Issues.{issued_batch, issued_entry, issued_items, issued_record}
use Rattle.authority_core.specs.RequestLists.{requests_of}
use Rattle.authority_core.specs.Requests.{RequestParts}
use Rattle.cosigner_core.specs.Children.{child_refused, next_child}
use Rattle.cosigner_core.specs.Reading.{advance_in, subtree_in}
use Rattle.cosigner_core.specs.Records.{advance_record, cosigner_record, sign_record}
use Rattle.cosigner_core.specs.Refusals.{advance_refused, cosign_refused}
use Rattle.cosigner_core.specs.declared.error.ChildError.{ChildError}
use Rattle.cosigner_core.specs.declared.error.ChildError.TheVariants as child_error
use Rattle.cosigner_core.specs.declared.error.CosignError.{CosignError}
use Rattle.cosigner_core.specs.declared.error.CosignError.TheVariants.{Append}
use Rattle.issuance_log.specs.Folds.{LogView, view_in}
use Rattle.issuance_log.specs.Openings.{FoundLog}
use Rattle.issuance_log.specs.Records.{switch_record}
use Rattle.issuance_log.specs.Refusals.{add_refusal, batch_refusal, switch_refusal}
use Rattle.issuance_log.specs.declared.error.LogError.{LogError}
use Rattle.issuance_log.specs.declared.error.LogError.TheVariants.{AlreadySwitched}
use Rattle.mtc_command.specs.Answers.{said}
use Rattle.mtc_command.specs.Steps.{Files, Outcome}
use Rattle.mtc_command.specs.Wanted.{Meets}
use Rattle.mtc_command.specs.declared.answer.Said.{Said}
use Rattle.mtc_command.specs.declared.answer.Said.TheVariants.{Done}
use Rattle.mtc_command.specs.declared.answer.Stopped.TheVariants.{Beyond, NotAllowed}
use Rattle.authority_core.specs.Reasons.{request_fault_text, request_list_fault_text}
use Rattle.cosigner_core.specs.Reasons.{child_fault_text, form_fault_text, step_fault_text}
use Rattle.issuance_log.specs.Reasons.{log_fault_text}
use Rattle.mtc_authority.specs.IssueOutcome.{issued_text}
use Rattle.mtc_authority.specs.ListOutcomes.{issued_lines}
use Rattle.mtc_authority.specs.SwitchOutcome.{switched_line}
use Rattle.mtc_authority.specs.declared.work.Work.TheVariants.{Issue, IssueList, Switch}
use Rattle.mtc_cosigner.specs.CosignerOutcomes.{advanced_text, child_line, cosigned_text}
use Rattle.mtc_cosigner.specs.InitOutcome.{cosigner_settings_of}
use Rattle.mtc_cosigner.specs.KeygenOutcome.{lms_type, ots_type, public_line}
use Rattle.command_plans.specs.Kinds.{Kinds}
use Rattle.command_plans.specs.Outcomes.{deed_outcome, opened_did, outcome_of, wanted_of}
use Rattle.command_plans.specs.Plans.{Beside, Deed, Finds, Input, Journal, Plan, Read, Step}
use Rattle.command_plans.specs.Plans.{in_form, misreads, only_reads, only_prints, opens, prints}
use Rattle.command_plans.specs.Plans.{works}
use Rattle.command_plans.proofs.Facts.{heard_passed, not_refused}
use Rattle.mtc_plans.specs.CosignerPlans.{advance_reported, child_judged}
use Rattle.mtc_plans.specs.CosignerPlans.{child_plan, child_reported, cosign_reported}
use Rattle.mtc_plans.specs.CosignerPlans.{export_plan, export_reported}
use Rattle.mtc_plans.specs.CosignerPlans.{init_cosigner_plan, step_judged}
use Rattle.mtc_plans.specs.Heard.{AdvancedTextsAreOfRecords, BegunTextsAreOfSecrets}
use Rattle.mtc_plans.specs.Heard.{ChildTextsAreOfRecords, CosignedTextsAreOfRecords}
use Rattle.mtc_plans.specs.Heard.{ExportedTextsAreOfRecords}
use Rattle.mtc_plans.specs.Heard.{HoldsSmall, IssuedListsAreOfRecords, IssuedTextsAreOfRecords}
use Rattle.mtc_plans.specs.Heard.{KeyTextsAreOfSecrets, SwitchedTextsAreOfRecords}
use Rattle.mtc_plans.specs.LogPlans.{work_plan}
use Rattle.mtc_plans.specs.LogWork.{entry_judged, switch_judged, work_reported}
use Rattle.mtc_plans.specs.PartyKinds.{PartyKind, PartyState, cosigner, log, party_fold}
use Rattle.mtc_plans.specs.PartyKinds.{party_kinds}
use Rattle.mtc_plans.specs.ReadPlans.{keygen_plan}
use Rattle.mtc_plans.specs.Steps.{StepReport, added_by, deed_new, deed_on, in_secret}
use Rattle.mtc_plans.specs.Steps.{small_file}

-- ---- which step was taken

-- a file that was in its form
module _ {k : Kinds} {inputs : List Input} {journals : List (Journal k)} where
  misread_works : (read : Read inputs) (reason : List ℕ)
      (say : Finds journals → Deed journals) → misreads read reason ≡ works say → ⊥
  misread_works read reason say is = cc

  pub form_passed : {F E : Type 0} (read : Read inputs) (fault_text : E → List ℕ) (r : Result F E)
      (next : F → Step inputs journals) (say : Finds journals → Deed journals)
      → in_form read fault_text r next ≡ works say
      → (form : F) × ((r ≡ Ok form) × (next form ≡ works say))
  form_passed read fault_text (Ok form) next say is = (form, (refl, is))
  form_passed read fault_text (Err why) next say is =
      absurd (misread_works read (fault_text why) say is)

  -- the work of a step, or other work
  abbrev pub work_in : (Finds journals → Deed journals) → Step inputs journals → Finds journals
      → Deed journals
  work_in other (misreads read reason) = other
  work_in other (works say) = say

  pub same_work : (one other : Finds journals → Deed journals) (founds : Finds journals)
      (step : Step inputs journals) → step ≡ works one → works other ≡ step
      → other founds ≡ one founds
  same_work one other founds step is so =
      ap (λ (s : Step inputs journals). work_in one s founds) (so ∙ is)

  -- a test that was passed, and the two of a secret
  test_passed : (test : Bool) (read : Read inputs) (reason : List ℕ)
      (next : Step inputs journals) (say : Finds journals → Deed journals)
      → (if test then misreads read reason else next) ≡ works say → next ≡ works say
  test_passed true read reason next say is = absurd (misread_works read reason say is)
  test_passed false read reason next say is = is

  secret_passed : (secret : Read inputs) (next : Step inputs journals)
      (say : Finds journals → Deed journals) → in_secret secret next ≡ works say
      → next ≡ works say
  secret_passed secret next say is =
      test_passed (nat_lt 48 (length secret.text)) secret (codes "Trailing") next say
      (test_passed (nat_lt (length secret.text) 48) secret (codes "Short " ++ decimal 0)
      (if nat_lt 48 (length secret.text) then misreads secret (codes "Trailing") else next) say is)

-- ---- a command that reads one file in some form, and then works on a journal that is there

module _ {F E : Type 0} (h : HashFunction) (files : Files) (kind : PartyKind) (beside : Beside)
    (journal file : List ℕ) (fault_text : E → List ℕ) (reading : List ℕ → Result F E)
    (reported : F → Found (PartyState kind) → StepReport) where
  abbrev reported_on : F → Step {k = party_kinds h} (small_file file ∷ [])
      (opens kind beside journal ∷ [])
  reported_on form = works (λ founds. deed_on (reported form founds.0))

  abbrev formed_plan : Plan (party_kinds h)
  formed_plan = record {
    inputs = small_file file ∷ [];
    journals = opens kind beside journal ∷ [];
    steps = λ (r, none). in_form r fault_text (reading r.text) reported_on;
  }

  -- its file was read, its journal was found, and this is what it answered and added
  pub record HasReported (status : Said) (text : List ℕ) : Type 0 where
    pub bytes : List ℕ
    pub has_bytes : HoldsSmall files file bytes
    pub form : F
    pub asked : reading bytes ≡ Ok form
    pub held : List ℕ
    pub there : files journal ≡ Some held
    pub found : Found (PartyState kind)
    pub is_party : read_by (party_fold h kind) held ≡ Ok found
    pub did : (outcome_of formed_plan files).journals
        ≡ opened_did found.records (reported form found).1 ∷ []
    pub meets : Meets (wanted_of (reported form found).0) (said status text)

  has_reported : (status : Said) (text : List ℕ)
      → Meets (outcome_of formed_plan files).answer (said status text) → HasReported status text
  has_reported status text meets =
      let passed = heard_passed (party_kinds h) formed_plan files status text meets in
      let read = passed.read.0 in
      let form = form_passed read fault_text (reading read.text) reported_on passed.say
      passed.works_so in
      let found = passed.founds.0 in
      let deed : Deed formed_plan.journals = deed_on (reported form.0 found) in
      let eq : deed ≡ passed.say passed.founds = same_work passed.say
      (λ founds. deed_on (reported form.0 founds.0)) passed.founds (works passed.say) refl form.1.1
      in
      record {
        bytes = read.text;
        has_bytes = record { there = passed.are_read.0.there; few = passed.are_read.0.few };
        form = form.0;
        asked = form.1.0;
        held = passed.are_found.0.bytes;
        there = passed.are_found.0.there;
        found = found;
        is_party = passed.are_found.0.is;
        did = ap (λ (o : Outcome). o.journals) passed.is
            ∙ ap (λ (d : Deed formed_plan.journals).
            (deed_outcome formed_plan.journals passed.founds d).journals) (sym eq);
        meets = subst (λ (d : Deed formed_plan.journals).
            Meets (wanted_of d.answer) (said status text)) (sym eq) passed.meets;
      }

-- ---- issue

issue_so : (h : HashFunction) (r : RequestParts) (v : LogView) (why : Option LogError)
    (status : Said) (text : List ℕ)
    → Meets (wanted_of (added_by entry_judged (issued_record h v r)
    (issued_text v.size) why).0) (said status text)
    → (why ≡ None) × (((added_by entry_judged (issued_record h v r)
    (issued_text v.size) why).1 ≡ Some (issued_record h v r))
    × (said status text ≡ said Done (issued_text v.size)))
issue_so h r v None status text meets = (refl, (refl, meets))
issue_so h r v (Some why) status text meets =
    absurd (not_refused status text Beyond None (log_fault_text why) meets)

pub issued_so : IssuedTextsAreOfRecords
issued_so h files journal file status text meets =
    let t = has_reported h files log only_reads journal file request_fault_text request_of
    (λ (r : RequestParts) (found : FoundLog). work_reported h (Issue r) found) status text meets in
    let v = view_in t.found.state in
    let so = issue_so h t.form v (add_refusal v false (end_offset t.found.records)
    (issued_entry h (view_in t.found.state) t.form) t.form.key) status text t.meets in
    record {
      bytes = t.bytes;
      has_bytes = t.has_bytes;
      request = t.form;
      asked = t.asked;
      held = t.held;
      there = t.there;
      found = t.found;
      is_log = t.is_party;
      fits = so.0;
      did = t.did ∙ ap (λ (m : Option (List ℕ)). opened_did t.found.records m ∷ []) so.1.0;
      reply_is = so.1.1;
    }

-- ---- issue-list

list_so : (h : HashFunction) (rs : List RequestParts) (v : LogView) (why : Option LogError)
    (status : Said) (text : List ℕ)
    → Meets (wanted_of (added_by entry_judged (issued_batch h v rs)
    (issued_lines v.size (length rs)) why).0) (said status text)
    → (why ≡ None) × (((added_by entry_judged (issued_batch h v rs)
    (issued_lines v.size (length rs)) why).1 ≡ Some (issued_batch h v rs))
    × (said status text ≡ said Done (issued_lines v.size (length rs))))
list_so h rs v None status text meets = (refl, (refl, meets))
list_so h rs v (Some why) status text meets =
    absurd (not_refused status text Beyond None (log_fault_text why) meets)

pub all_issued_so : IssuedListsAreOfRecords
all_issued_so h files journal file status text meets =
    let t = has_reported h files log only_reads journal file request_list_fault_text requests_of
    (λ (rs : List RequestParts) (found : FoundLog). work_reported h (IssueList rs) found) status
    text meets in
    let v = view_in t.found.state in
    let so = list_so h t.form v (batch_refusal v false (end_offset t.found.records)
    (issued_items h v t.form)) status text t.meets in
    record {
      bytes = t.bytes;
      has_bytes = t.has_bytes;
      requests = t.form;
      asked = t.asked;
      held = t.held;
      there = t.there;
      found = t.found;
      is_log = t.is_party;
      fits = so.0;
      did = t.did ∙ ap (λ (m : Option (List ℕ)). opened_did t.found.records m ∷ []) so.1.0;
      reply_is = so.1.1;
    }

-- ---- switch

switch_so : (v : LogView) (why : Option LogError) (status : Said) (text : List ℕ)
    → Meets (wanted_of (added_by switch_judged (switch_record v.size)
    (switched_line v.size) why).0) (said status text)
    → (why ≡ None) × (((added_by switch_judged (switch_record v.size)
    (switched_line v.size) why).1 ≡ Some (switch_record v.size))
    × (said status text ≡ said Done (switched_line v.size)))
switch_so v None status text meets = (refl, (refl, meets))
switch_so v (Some (AlreadySwitched index)) status text meets =
    absurd (not_refused status text NotAllowed None (codes "AlreadySwitched " ++ decimal index)
    meets)
switch_so v (Some why) status text meets =
    absurd (not_refused status text Beyond None (log_fault_text why) meets)

pub switched_so : SwitchedTextsAreOfRecords
switched_so h files journal status text meets =
    let plan = work_plan h only_reads journal Switch in
    let passed = heard_passed (party_kinds h) plan files status text meets in
    let found = passed.founds.0 in
    let deed : Deed plan.journals = deed_on (work_reported h Switch found) in
    let eq : deed ≡ passed.say passed.founds = same_work passed.say
    (λ founds. deed_on (work_reported h Switch founds.0)) passed.founds (works passed.say) refl
    passed.works_so in
    let v = view_in found.state in
    let so = switch_so v (switch_refusal v false (end_offset found.records)) status text
    (subst (λ (d : Deed plan.journals). Meets (wanted_of d.answer) (said status text)) (sym eq)
    passed.meets) in
    record {
      held = passed.are_found.0.bytes;
      there = passed.are_found.0.there;
      found = found;
      is_log = passed.are_found.0.is;
      fits = so.0;
      did = ap (λ (o : Outcome). o.journals) passed.is
          ∙ (ap (λ (d : Deed plan.journals).
          (deed_outcome plan.journals passed.founds d).journals) (sym eq)
          ∙ ap (λ (m : Option (List ℕ)). opened_did found.records m ∷ []) so.1.0);
      reply_is = so.1.1;
    }

-- ---- a cosigner's journal

step_so : (body line : List ℕ) (why : Option CosignError) (status : Said) (text : List ℕ)
    → Meets (wanted_of (added_by step_judged body line why).0) (said status text)
    → (why ≡ None) × (((added_by step_judged body line why).1 ≡ Some body)
    × (said status text ≡ said Done line))
step_so body line None status text meets = (refl, (refl, meets))
step_so body line (Some (Append why)) status text meets =
    absurd (not_refused status text Beyond None (step_fault_text (Append why)) meets)
step_so body line (Some why) status text meets =
    absurd (not_refused status text NotAllowed None (step_fault_text why) meets)

pub advanced_so : AdvancedTextsAreOfRecords
advanced_so h files journal file status text meets =
    let t = has_reported h files cosigner only_reads journal file form_fault_text advance_in
    (advance_reported h) status text meets in
    let r = t.form in
    let so = step_so (advance_record r.size r.root r.proof) (advanced_text r.size)
    (advance_refused h t.found.state false (end_offset t.found.records) r) status text t.meets in
    record {
      bytes = t.bytes;
      has_bytes = t.has_bytes;
      request = r;
      asked = t.asked;
      held = t.held;
      there = t.there;
      found = t.found;
      is_cosigner = t.is_party;
      fits = so.0;
      did = t.did ∙ ap (λ (m : Option (List ℕ)). opened_did t.found.records m ∷ []) so.1.0;
      reply_is = so.1.1;
    }

pub cosigned_so : CosignedTextsAreOfRecords
cosigned_so h files journal file status text meets =
    let t = has_reported h files cosigner only_reads journal file form_fault_text subtree_in
    (cosign_reported h) status text meets in
    let r = t.form in
    let state = t.found.state in
    let so = step_so (sign_record state.key.next r.start r.end r.hash r.proof)
    (cosigned_text state r) (cosign_refused h state false (end_offset t.found.records) r) status
    text t.meets in
    record {
      bytes = t.bytes;
      has_bytes = t.has_bytes;
      request = r;
      asked = t.asked;
      held = t.held;
      there = t.there;
      found = t.found;
      is_cosigner = t.is_party;
      fits = so.0;
      did = t.did ∙ ap (λ (m : Option (List ℕ)). opened_did t.found.records m ∷ []) so.1.0;
      reply_is = so.1.1;
    }

child_so : (body line : List ℕ) (why : Option ChildError) (status : Said) (text : List ℕ)
    → Meets (wanted_of (added_by child_judged body line why).0) (said status text)
    → (why ≡ None) × (((added_by child_judged body line why).1 ≡ Some body)
    × (said status text ≡ said Done line))
child_so body line None status text meets = (refl, (refl, meets))
child_so body line (Some (child_error.Append why)) status text meets =
    absurd (not_refused status text Beyond None (child_fault_text (child_error.Append why)) meets)
child_so body line (Some why) status text meets =
    absurd (not_refused status text NotAllowed None (child_fault_text why) meets)

pub has_child_so : ChildTextsAreOfRecords
has_child_so h files journal status text meets =
    let plan = child_plan h journal in
    let passed = heard_passed (party_kinds h) plan files status text meets in
    let found = passed.founds.0 in
    let deed : Deed plan.journals = deed_on (child_reported found) in
    let eq : deed ≡ passed.say passed.founds = same_work passed.say
    (λ founds. deed_on (child_reported founds.0)) passed.founds (works passed.say) refl
    passed.works_so in
    let so = child_so (next_child found.state) (child_line found.state.key.children)
    (child_refused found.state false (end_offset found.records)) status text
    (subst (λ (d : Deed plan.journals). Meets (wanted_of d.answer) (said status text)) (sym eq)
    passed.meets) in
    record {
      held = passed.are_found.0.bytes;
      there = passed.are_found.0.there;
      found = found;
      is_cosigner = passed.are_found.0.is;
      fits = so.0;
      did = ap (λ (o : Outcome). o.journals) passed.is
          ∙ (ap (λ (d : Deed plan.journals).
          (deed_outcome plan.journals passed.founds d).journals) (sym eq)
          ∙ ap (λ (m : Option (List ℕ)). opened_did found.records m ∷ []) so.1.0);
      reply_is = so.1.1;
    }

pub exported_so : ExportedTextsAreOfRecords
exported_so h files journal status text meets =
    let plan = export_plan h journal in
    let passed = heard_passed (party_kinds h) plan files status text meets in
    let found = passed.founds.0 in
    let deed : Deed plan.journals = deed_on (export_reported found) in
    let eq : deed ≡ passed.say passed.founds = same_work passed.say
    (λ founds. deed_on (export_reported founds.0)) passed.founds (works passed.say) refl
    passed.works_so in
    record {
      held = passed.are_found.0.bytes;
      there = passed.are_found.0.there;
      found = found;
      is_cosigner = passed.are_found.0.is;
      did = ap (λ (o : Outcome). o.journals) passed.is
          ∙ ap (λ (d : Deed plan.journals).
          (deed_outcome plan.journals passed.founds d).journals) (sym eq);
      reply_is = subst (λ (d : Deed plan.journals).
          Meets (wanted_of d.answer) (said status text)) (sym eq) passed.meets;
    }

-- ---- a secret file

pub keyed_so : KeyTextsAreOfSecrets
keyed_so h files height width file status text meets =
    let plan : Plan (party_kinds h) = keygen_plan height width file in
    let passed = heard_passed (party_kinds h) plan files status text meets in
    let read = passed.read.0 in
    let judged = prints Done (public_line (lms_type height) None (ots_type width) read.text) in
    let deed : Deed plan.journals = record { answer = judged; does = tt } in
    let eq : deed ≡ passed.say passed.founds = same_work passed.say (λ none. deed)
    passed.founds (works passed.say) refl
    (secret_passed read (only_prints judged) passed.say passed.works_so) in
    record {
      secret = read.text;
      has_secret = record { there = passed.are_read.0.there; few = passed.are_read.0.few };
      reply_is = subst (λ (d : Deed plan.journals).
          Meets (wanted_of d.answer) (said status text)) (sym eq) passed.meets;
    }

pub begun_so : BegunTextsAreOfSecrets
begun_so h files journal id log_id top low width file status text meets =
    let plan = init_cosigner_plan h journal id log_id top low width file in
    let passed = heard_passed (party_kinds h) plan files status text meets in
    let read = passed.read.0 in
    let s = cosigner_settings_of id log_id top low width in
    let line = public_line s.lms s.low s.ots read.text in
    let deed : Deed plan.journals = deed_new (cosigner_record s read.text) (prints Done line) in
    let eq : deed ≡ passed.say passed.founds = same_work passed.say (λ none. deed)
    passed.founds (works passed.say) refl
    (secret_passed read (works (λ none. deed)) passed.say passed.works_so) in
    record {
      keys = record {
        secret = read.text;
        has_secret = record { there = passed.are_read.0.there; few = passed.are_read.0.few };
        reply_is = subst (λ (d : Deed plan.journals).
            Meets (wanted_of d.answer) (said status text)) (sym eq) passed.meets;
      };
      fresh = passed.are_found.0;
      did = ap (λ (o : Outcome). o.journals) passed.is
          ∙ ap (λ (d : Deed plan.journals).
          (deed_outcome plan.journals passed.founds d).journals) (sym eq);
    }
