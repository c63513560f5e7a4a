-- Why bytes are no proof, in words.
use Rattle.std.specs.Prelude.{◌++◌, codes}
use Rattle.std.specs.Fmt.{decimal}
use Rattle.byte_formats.specs.Types.{Text}
use Rattle.mtc_proof.specs.declared.fault.ProofError.{ProofError}
use Rattle.mtc_proof.specs.declared.fault.ProofError.TheVariants as proof_error

-- Why bytes are no proof, or no signatures.
abbrev pub proof_fault_text : ProofError → Text
proof_fault_text (proof_error.Short offset) = codes "Short " ++ decimal offset
proof_fault_text proof_error.HashLength = codes "HashLength"
proof_fault_text proof_error.Trailing = codes "Trailing"
proof_fault_text (proof_error.EmptyId offset) = codes "EmptyId " ++ decimal offset
