-- The outcome of `cert` over the files of the file system: the signatures first, then the journal.
use Rattle.std.specs.Prelude.{ℕ, Option}
use Rattle.byte_formats.specs.Types.{HashFunction, Text}
use Rattle.mtc_command.specs.Answers.{tiles_name}
use Rattle.mtc_command.specs.Steps.{Outcome, Files, with_bytes, with_form}
use Rattle.mtc_proof.specs.Reasons.{proof_fault_text}
use Rattle.mtc_authority.specs.CertOutcome.{signatures_in}
use Rattle.mtc_authority.specs.Works.{log_outcome}
use Rattle.mtc_authority.specs.declared.work.Work.TheVariants.{Cert}

-- The signatures are read, and then the certificate is written.
abbrev pub signed_says : HashFunction → Text → ℕ → ℕ → ℕ → Text → Option Text → Option Text → Text
    → Outcome
signed_says h journal index start end file held tiles bytes =
    with_form proof_fault_text file (signatures_in bytes)
    (λ signatures. log_outcome h journal held tiles (Cert index start end signatures))

-- The outcome of `cert J INDEX START END SIGNATURES`: the file of signatures is read, at most 16
-- MiB of it.
abbrev pub cert_outcome : HashFunction → Text → ℕ → ℕ → ℕ → Text → Files → Outcome
cert_outcome h journal index start end file files = with_bytes 16777216 file (files file)
    (signed_says h journal index start end file (files journal) (files (tiles_name journal)))
