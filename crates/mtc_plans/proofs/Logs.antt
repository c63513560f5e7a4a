-- What the commands on the journal of a log have to answer is what comes of their plans.
use Rattle.std.proofs.Common.{◌≡◌, ℕ, List, [], ◌∷◌, Option, None, Some, refl}
use Rattle.byte_formats.specs.Types.{HashFunction}
use Rattle.authority_core.specs.Files.{request_of}
use Rattle.authority_core.specs.RequestLists.{requests_of}
use Rattle.issuance_log.specs.Openings.{FoundLog, log_read}
use Rattle.mtc_command.specs.Answers.{tiles_name}
use Rattle.mtc_command.specs.Steps.{Files, Outcome, held_in, with_file, with_form}
use Rattle.mtc_authority.specs.BadTiles.{first_bad}
use Rattle.mtc_authority.specs.CertCommand.{cert_outcome}
use Rattle.authority_core.specs.Reasons.{request_fault_text, request_list_fault_text}
use Rattle.issuance_log.specs.Reasons.{log_open_text}
use Rattle.mtc_proof.specs.Reasons.{proof_fault_text}
use Rattle.mtc_authority.specs.CertOutcome.{signatures_in}
use Rattle.mtc_authority.specs.IssueCommand.{issue_outcome}
use Rattle.mtc_authority.specs.ListCommands.{certs_outcome, issue_list_outcome}
use Rattle.mtc_authority.specs.LogOutcomes.{init_log_outcome}
use Rattle.mtc_authority.specs.TileOutcome.{rebuilt_outcome}
use Rattle.mtc_authority.specs.Works.{log_outcome, log_says, tested_says}
use Rattle.mtc_authority.specs.Works.{unless_missing}
use Rattle.mtc_authority.specs.declared.work.Work.{Work}
use Rattle.mtc_authority.specs.declared.work.Work.TheVariants.{Cert, Certs, Issue, IssueList}
use Rattle.command_plans.specs.Outcomes.{outcome_of, step_outcome, unless_lacking, with_beside}
use Rattle.command_plans.specs.Plans.{Beside, Input, only_reads}
use Rattle.command_plans.proofs.Forms.{bytes_same, form_same}
use Rattle.mtc_plans.specs.LogPlans.{cert_plan, certs_plan, init_log_plan, issue_list_plan}
use Rattle.mtc_plans.specs.LogPlans.{issue_plan, opens_log, rebuild_plan, work_plan, work_step}
use Rattle.mtc_plans.specs.LogWork.{work_reported}
use Rattle.mtc_plans.specs.PartyKinds.{log, missing_text, party_kinds}
use Rattle.mtc_plans.specs.Steps.{small_file}
use Rattle.mtc_plans.proofs.Texts.{first_read, reported_on}
use Rattle.mtc_plans.proofs.Working.{rebuilt_same, work_same}

pub missing_same : (journal : List ℕ) (tile : Option (ℕ × ℕ)) (one other : Outcome) → one ≡ other
    → unless_missing journal tile one
    ≡ unless_lacking (tiles_name journal) (missing_text tile) other
missing_same journal None one other same = same
missing_same journal (Some tile) one other same = refl

module _ (h : HashFunction) (files : Files) where
  tested_same : (journal : List ℕ) (work : Work) (found : FoundLog)
      → tested_says h journal work (held_in (files (tiles_name journal))) found
      ≡ with_beside (party_kinds h) log found.state (Some (tiles_name journal)) files
      (reported_on found.records (work_reported h work found))
  tested_same journal work found = missing_same journal
      (first_bad h found.state (held_in (files (tiles_name journal)))) (log_says h work found)
      (reported_on found.records (work_reported h work found)) (work_same h work found)

  module _ (inputs : List Input) where
    opened_same : (beside : Beside) (journal : List ℕ) (work : Work)
        → log_outcome h journal (files journal) (files (tiles_name journal)) work
        ≡ step_outcome {inputs = inputs} (opens_log h beside journal)
        (work_step h beside journal work) files
    unfolding log_outcome
    opened_same beside journal work = λ i. with_file journal (files journal) (λ bytes.
        with_form log_open_text journal (log_read h bytes) (λ found.
        tested_same journal work found i))

module _ (h : HashFunction) (files : Files) where
  pub work_plans : (beside : Beside) (journal : List ℕ) (work : Work)
      → log_outcome h journal (files journal) (files (tiles_name journal)) work
      ≡ outcome_of (work_plan h beside journal work) files
  work_plans beside journal work = opened_same h files [] beside journal work

  pub rebuild_plans : (journal : List ℕ)
      → rebuilt_outcome h journal files ≡ outcome_of (rebuild_plan h journal) files
  unfolding rebuilt_outcome
  rebuild_plans journal = λ i. with_file journal (files journal) (λ bytes.
      with_form log_open_text journal (log_read h bytes) (λ found. rebuilt_same found i))

  pub init_log_plans : (journal id : List ℕ) (active limit : ℕ)
      → init_log_outcome journal id active limit files
      ≡ outcome_of (init_log_plan h journal id active limit) files
  init_log_plans journal id active limit = refl

  pub issue_plans : (journal request : List ℕ)
      → issue_outcome h journal request files ≡ outcome_of (issue_plan h journal request) files
  issue_plans journal request =
      let one = small_file request in
      let on = opens_log h only_reads journal in
      bytes_same 16777216 request (files request) _ _
      (λ b. form_same on files (first_read one [] b) request_fault_text (request_of b) _ _
      (λ r. opened_same h files (one ∷ []) only_reads journal (Issue r)))

  pub cert_plans : (journal : List ℕ) (index start end : ℕ) (file : List ℕ)
      → cert_outcome h journal index start end file files
      ≡ outcome_of (cert_plan h journal index start end file) files
  cert_plans journal index start end file =
      let one = small_file file in
      let on = opens_log h only_reads journal in
      bytes_same 16777216 file (files file) _ _
      (λ b. form_same on files (first_read one [] b) proof_fault_text (signatures_in b) _ _
      (λ signatures. opened_same h files (one ∷ []) only_reads journal
      (Cert index start end signatures)))

  pub issue_list_plans : (journal requests : List ℕ)
      → issue_list_outcome h journal requests files
      ≡ outcome_of (issue_list_plan h journal requests) files
  issue_list_plans journal requests =
      let one = small_file requests in
      let on = opens_log h only_reads journal in
      bytes_same 16777216 requests (files requests) _ _
      (λ b. form_same on files (first_read one [] b) request_list_fault_text (requests_of b) _ _
      (λ rs. opened_same h files (one ∷ []) only_reads journal (IssueList rs)))

  pub certs_plans : (journal : List ℕ) (first last start end : ℕ) (file : List ℕ)
      → certs_outcome h journal first last start end file files
      ≡ outcome_of (certs_plan h journal first last start end file) files
  certs_plans journal first last start end file =
      let one = small_file file in
      let on = opens_log h only_reads journal in
      bytes_same 16777216 file (files file) _ _
      (λ b. form_same on files (first_read one [] b) proof_fault_text (signatures_in b) _ _
      (λ signatures. opened_same h files (one ∷ []) only_reads journal
      (Certs first last start end signatures)))
