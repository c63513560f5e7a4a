-- The outcomes of `issue-list` and `certs` over the files of the file system: the requests or the
-- signatures first, then the journal.
use Rattle.std.specs.Prelude.{ℕ, Option}
use Rattle.byte_formats.specs.Types.{HashFunction, Text}
use Rattle.authority_core.specs.Reasons.{request_list_fault_text}
use Rattle.authority_core.specs.RequestLists.{requests_of}
use Rattle.mtc_command.specs.Answers.{tiles_name}
use Rattle.mtc_command.specs.Steps.{Outcome, Files, with_bytes, with_form}
use Rattle.mtc_proof.specs.Reasons.{proof_fault_text}
use Rattle.mtc_authority.specs.CertOutcome.{signatures_in}
use Rattle.mtc_authority.specs.Works.{log_outcome}
use Rattle.mtc_authority.specs.declared.work.Work.TheVariants.{Certs, IssueList}

-- The requests are read, and then their entries are added.
abbrev pub requests_say : HashFunction → Text → Text → Option Text → Option Text → Text → Outcome
requests_say h journal requests file tiles bytes =
    with_form request_list_fault_text requests (requests_of bytes)
    (λ rs. log_outcome h journal file tiles (IssueList rs))

-- The outcome of `issue-list J REQUESTS`: the requests are read, at most 16 MiB of them.
abbrev pub issue_list_outcome : HashFunction → Text → Text → Files → Outcome
issue_list_outcome h journal requests files = with_bytes 16777216 requests (files requests)
    (requests_say h journal requests (files journal) (files (tiles_name journal)))

-- The signatures are read, and then the certificates are written.
abbrev pub signed_all_say : HashFunction → Text → ℕ → ℕ → ℕ → ℕ → Text → Option Text → Option Text
    → Text → Outcome
signed_all_say h journal first last start end file held tiles bytes =
    with_form proof_fault_text file (signatures_in bytes)
    (λ signatures. log_outcome h journal held tiles (Certs first last start end signatures))

-- The outcome of `certs J FIRST LAST START END SIGNATURES`: the file of signatures is read, at most
-- 16 MiB of it.
abbrev pub certs_outcome : HashFunction → Text → ℕ → ℕ → ℕ → ℕ → Text → Files → Outcome
certs_outcome h journal first last start end file files = with_bytes 16777216 file (files file)
    (signed_all_say h journal first last start end file (files journal)
    (files (tiles_name journal)))
