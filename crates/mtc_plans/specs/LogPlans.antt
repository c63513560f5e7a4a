-- The plans of the commands on the journal of a log.
use Rattle.std.specs.Prelude.{ℕ, List, [], ◌∷◌, None}
use Rattle.byte_formats.specs.Types.{HashFunction, Text}
use Rattle.authority_core.specs.Files.{request_of}
use Rattle.issuance_log.specs.Records.{settings_record}
use Rattle.mtc_command.specs.declared.answer.Said.TheVariants.{Done}
use Rattle.authority_core.specs.Reasons.{request_fault_text}
use Rattle.mtc_proof.specs.Reasons.{proof_fault_text}
use Rattle.mtc_authority.specs.CertOutcome.{signatures_in}
use Rattle.mtc_authority.specs.LogOutcomes.{log_line, log_settings_of}
use Rattle.mtc_authority.specs.declared.work.Work.{Work}
use Rattle.mtc_authority.specs.declared.work.Work.TheVariants.{Cert, Certs, Issue, IssueList}
use Rattle.authority_core.specs.RequestLists.{requests_of}
use Rattle.authority_core.specs.Reasons.{request_list_fault_text}
use Rattle.command_plans.specs.Plans.{Beside, Input, Journal, Plan, Step}
use Rattle.command_plans.specs.Plans.{changes, in_form, makes, only_reads, opens, prints, works}
use Rattle.mtc_plans.specs.LogWork.{rebuilt_judged, work_reported}
use Rattle.mtc_plans.specs.PartyKinds.{log, rebuilt_log, party_kinds}
use Rattle.mtc_plans.specs.Steps.{deed_new, deed_on, small_file}

module _ (h : HashFunction) where
  -- The journal of a log that is there.
  abbrev pub opens_log : Beside → Text → List (Journal (party_kinds h))
  opens_log beside journal = opens log beside journal ∷ []

  -- The work on the log that is found.
  abbrev pub work_step : {inputs : List Input} (beside : Beside) (journal : Text) → Work
      → Step inputs (opens_log beside journal)
  work_step beside journal work = works (λ found. deed_on (work_reported h work found.0))

  -- A command of its arguments alone.
  abbrev pub work_plan : Beside → Text → Work → Plan (party_kinds h)
  work_plan beside journal work = record {
    inputs = [];
    journals = opens_log beside journal;
    steps = λ none. work_step beside journal work;
  }

  -- `tile-anew J`: the log is found, whatever the file of its tiles has.
  abbrev pub rebuild_plan : Text → Plan (party_kinds h)
  rebuild_plan journal = record {
    inputs = [];
    journals = opens rebuilt_log changes journal ∷ [];
    steps = λ none. works (λ found. deed_on (rebuilt_judged found.0.state.tiled, None));
  }

  -- `init-log J ID ACTIVE LIMIT`: a new journal of the log's first record.
  abbrev pub init_log_plan : Text → Text → ℕ → ℕ → Plan (party_kinds h)
  init_log_plan journal id active limit = record {
    inputs = [];
    journals = makes log journal ∷ [];
    steps = λ none. works (λ nothing.
        deed_new (settings_record (log_settings_of id active limit)) (prints Done (log_line id)));
  }

  -- `issue J REQUEST`: the request is read, and then its entry is added.
  abbrev pub issue_plan : Text → Text → Plan (party_kinds h)
  issue_plan journal request = record {
    inputs = small_file request ∷ [];
    journals = opens_log only_reads journal;
    steps = λ (r, none). in_form r request_fault_text (request_of r.text)
        (λ asked. work_step only_reads journal (Issue asked));
  }

  -- `issue-list J REQUESTS`: the requests are read, and then their entries are added.
  abbrev pub issue_list_plan : Text → Text → Plan (party_kinds h)
  issue_list_plan journal requests = record {
    inputs = small_file requests ∷ [];
    journals = opens_log only_reads journal;
    steps = λ (r, none). in_form r request_list_fault_text (requests_of r.text)
        (λ asked. work_step only_reads journal (IssueList asked));
  }

  -- `certs J FIRST LAST START END SIGNATURES`: the signatures are read, and then the certificates
  -- are written.
  abbrev pub certs_plan : Text → ℕ → ℕ → ℕ → ℕ → Text → Plan (party_kinds h)
  certs_plan journal first last start end file = record {
    inputs = small_file file ∷ [];
    journals = opens_log only_reads journal;
    steps = λ (s, none). in_form s proof_fault_text (signatures_in s.text)
        (λ signatures. work_step only_reads journal (Certs first last start end signatures));
  }

  -- `cert J INDEX START END SIGNATURES`: the signatures are read, and then the certificate is
  -- written.
  abbrev pub cert_plan : Text → ℕ → ℕ → ℕ → Text → Plan (party_kinds h)
  cert_plan journal index start end file = record {
    inputs = small_file file ∷ [];
    journals = opens_log only_reads journal;
    steps = λ (s, none). in_form s proof_fault_text (signatures_in s.text)
        (λ signatures. work_step only_reads journal (Cert index start end signatures));
  }
