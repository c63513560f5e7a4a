-- The outcome of `held EXPORT`: what the steps of an export say of its cosigner.
use Rattle.std.specs.Prelude.{ℕ, ◌-◌, ◌*◌, ◌^◌, [], ◌++◌, codes, Option, None, Some, option_map}
use Rattle.std.specs.Prelude.{option_and_then}
use Rattle.std.specs.Fmt.{decimal}
use Rattle.std.specs.List.{flat_map}
use Rattle.base64.specs.Engines.{standard}
use Rattle.base64.specs.GeneralPurpose.{encode_of}
use Rattle.byte_formats.specs.Types.{HashFunction, Text}
use Rattle.cosigner_core.specs.ExportReading.{export_in, signing_terms}
use Rattle.cosigner_core.specs.Progress.{first_progress}
use Rattle.cosigner_core.specs.declared.lists.Export.{Export}
use Rattle.cosigner_core.specs.declared.progress.Progress.{Progress}
use Rattle.cosigner_core.specs.declared.step.Step.{Step}
use Rattle.cosigner_core.specs.declared.step.Step.TheVariants.{Advance, Child, Sign}
use Rattle.cosigner_core.specs.declared.terms.KeyTerms.{KeyTerms}
use Rattle.cosigner_core.specs.declared.terms.KeyTerms.TheVariants.{OneLevel, TwoLevels}
use Rattle.cosigner_steps.specs.Steps.{with_steps}
use Rattle.hex.specs.Hex.{encode_lower}
use Rattle.lms_core.specs.Heights.{height}
use Rattle.lms_core.specs.declared.heights.LmsType.{LmsType}
use Rattle.tls_wire.specs.Anchors.{text_of}
use Rattle.mtc_command.specs.declared.answer.Said.TheVariants.{Done}
use Rattle.mtc_command.specs.Steps.{Outcome, Files, says, with_bytes, with_form}
use Rattle.mtc_lines.specs.CheckpointLines.{checkpoint_lines}
use Rattle.cosigner_core.specs.Reasons.{export_fault_text}

-- Its id, that of its log, and its public key in base64.
abbrev pub party_lines : Export → Text
party_lines e = codes "cosigner " ++ (text_of e.cosigner ++ (codes "\nlog " ++ (text_of e.log
    ++ (codes "\nkey " ++ (encode_of standard e.public ++ codes "\n")))))

-- How many one-time keys have signed.
abbrev pub signs_line : ℕ → Text
signs_line next = codes "signs " ++ (decimal next ++ codes "\n")

-- How many one-time keys sign messages in all: those of the tree, or with two levels those of all
-- lower trees, whose height the first Child shows.
abbrev pub all_keys : KeyTerms → Option LmsType → Option ℕ
all_keys (OneLevel lms) shown = Some (2 ^ height lms)
all_keys (TwoLevels top known) shown = option_map (λ low. 2 ^ height top * 2 ^ height low) shown

-- How many one-time keys have not signed, of so many.
abbrev pub left_line : Option ℕ → ℕ → Text
left_line None next = []
left_line (Some keys) next = codes "left " ++ (decimal (keys - next) ++ codes "\n")

-- A signature: the number of its one-time key, and the interval and the hash of the subtree.
abbrev pub signed_line : Step → Text
signed_line (Advance size root proof) = []
signed_line (Sign index start end hash proof) = codes "signed " ++ (decimal index
    ++ (codes " " ++ (decimal start ++ (codes " " ++ (decimal end
    ++ (codes " " ++ (encode_lower hash ++ codes "\n")))))))
signed_line (Child child low) = []

-- What it holds, how many one-time keys have signed and how many have not, and each signature.
abbrev pub progress_lines : Export → Progress → Text
progress_lines e p = checkpoint_lines p.held.size p.held.root ++ (signs_line p.next
    ++ (left_line (option_and_then (λ terms. all_keys terms p.low) (signing_terms e.public)) p.next
    ++ flat_map signed_line e.steps))

abbrev pub export_lines : HashFunction → Export → Text
export_lines h e = party_lines e ++ progress_lines e (with_steps (first_progress h) e.steps)

-- What is printed of an export, or of no bytes.
abbrev pub held_text : HashFunction → Option Export → Text
held_text h None = codes "nothing\n"
held_text h (Some e) = export_lines h e

-- The export is read.
abbrev pub held_says : HashFunction → Text → Text → Outcome
held_says h export bytes = with_form export_fault_text export (export_in h bytes)
    (λ kept. says Done (held_text h kept))

-- The outcome of `held EXPORT`: at most 8 GiB is read of the file.
abbrev pub held_outcome : HashFunction → Text → Files → Outcome
held_outcome h export files = with_bytes 8589934592 export (files export) (held_says h export)
