-- The outcome of `member FILE`.
use Rattle.std.specs.Prelude.{ℕ, ◌++◌, codes, Bool, true, false, Result, Ok, Err}
use Rattle.std.specs.Fmt.{decimal}
use Rattle.byte_formats.specs.Types.{HashFunction, Text}
use Rattle.tree_core.specs.declared.error.EvalError.{EvalError}
use Rattle.mtc_command.specs.declared.answer.Said.TheVariants.{Done}
use Rattle.mtc_command.specs.Steps.{Outcome, Files, says, with_bytes, with_form}
use Rattle.mtc_relying.specs.Member.{member_file, member_judgement}
use Rattle.tls_wire.specs.Reasons.{hashes_fault_text}
use Rattle.tree_core.specs.Reasons.{shape_text}
use Rattle.mtc_relying.specs.Reasons.{judged_against}

-- What is reported of a judgement on the entry of this index.
abbrev pub judgement_says : ℕ → Result Bool EvalError → Outcome
judgement_says index (Ok true) = says Done (codes "member " ++ (decimal index ++ codes "\n"))
judgement_says index (Ok false) = judged_against (codes "HashDiffers")
judgement_says index (Err why) = judged_against (shape_text why)

-- The file is cut into its parts and judged.
abbrev pub member_says : HashFunction → Text → Text → Outcome
member_says h file bytes = with_form hashes_fault_text file (member_file bytes)
    (λ m. judgement_says m.index (member_judgement h m))

-- The file is read, at most 16 MiB of it.
abbrev pub member_outcome : HashFunction → Text → Files → Outcome
member_outcome h file files = with_bytes 16777216 file (files file) (member_says h file)
