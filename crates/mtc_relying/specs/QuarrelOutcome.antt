-- The outcome of `quarrel EXPORT`: the first two signatures of a cosigner that are in conflict, and
-- two strings with one hash that they show.
use Rattle.std.specs.Prelude.{ℕ, List, [], ◌++◌, codes, Option, None, Some}
use Rattle.std.specs.Fmt.{decimal}
use Rattle.byte_formats.specs.Types.{HashFunction, Text}
use Rattle.cosigner_core.specs.ExportReading.{export_in}
use Rattle.cosigner_core.specs.declared.lists.Export.{Export}
use Rattle.cosigner_core.specs.declared.step.Step.{Step}
use Rattle.cosigner_steps.specs.Steps.{proof_inputs}
use Rattle.hex.specs.Hex.{encode_lower}
use Rattle.quarrel_core.specs.Conflicts.{quarrel_of}
use Rattle.mtc_command.specs.Steps.{Outcome, Files, says, with_bytes, with_form}
use Rattle.mtc_command.specs.Wanted.{pair_of}
use Rattle.mtc_command.specs.declared.answer.Said.TheVariants.{Collided, Done}
use Rattle.cosigner_core.specs.Reasons.{export_fault_text}

-- ---- what it prints

abbrev pub agree_text : Text
agree_text = codes "agree\n"

-- The numbers of both one-time keys, and two strings in hexadecimal on lines of their own.
abbrev pub quarrel_text : ℕ × ℕ → Text → Text → Text
quarrel_text keys one other =
    codes "quarrel " ++ (decimal keys.0 ++ (codes " " ++ (decimal keys.1 ++ (codes "\n"
    ++ (encode_lower one ++ (codes "\n" ++ (encode_lower other ++ codes "\n")))))))

-- That no two signatures of these steps are in conflict; or the keys of the first that are, with
-- any two different strings with one hash, both hashed in the opening of the steps' proofs.
abbrev pub quarrel_by : HashFunction → List Step → Option (ℕ × ℕ) → Outcome
quarrel_by h steps None = says Done agree_text
quarrel_by h steps (Some keys) = record {
  answer = pair_of Collided h (quarrel_text keys) (proof_inputs h steps) (proof_inputs h steps);
  journals = [];
}

-- The same of an export. One of no bytes has no steps.
abbrev pub quarrel_kept : HashFunction → Option Export → Outcome
quarrel_kept h None = says Done agree_text
quarrel_kept h (Some kept) = quarrel_by h kept.steps (quarrel_of kept.steps)

-- ---- the command

abbrev pub quarrel_says : HashFunction → Text → Text → Outcome
quarrel_says h export text =
    with_form export_fault_text export (export_in h text) (quarrel_kept h)

-- The outcome of `quarrel EXPORT`: the file is read, at most 8 GiB of it.
abbrev pub quarrel_outcome : HashFunction → Text → Files → Outcome
quarrel_outcome h export files =
    with_bytes 8589934592 export (files export) (quarrel_says h export)
