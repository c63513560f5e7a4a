-- The outcome of `show CERT`.
use Rattle.std.specs.Prelude.{ℕ, ◌&&◌, Bool, nat_le, [], ◌∷◌, ◌++◌, length, codes, Option, Some}
use Rattle.std.specs.Prelude.{None, Result, Ok, Err, bytes_eq, if◌then◌else◌}
use Rattle.std.specs.Fmt.{decimal}
use Rattle.std.specs.List.{list_all, flat_map}
use Rattle.hex.specs.Hex.{encode_lower}
use Rattle.byte_formats.specs.Offsets.{at}
use Rattle.byte_formats.specs.Types.{Text}
use Rattle.tls_wire.specs.Anchors.{anchor_of, text_of as text_of_id}
use Rattle.tls_wire.specs.declared.fault.AnchorBytesError.{AnchorBytesError}
use Rattle.mtc_proof.specs.Proofs.{SigParts, ProofParts}
use Rattle.mtc_proof.specs.Reading.{proof_in, signatures_left}
use Rattle.mtc_proof.specs.declared.fault.ProofError.{ProofError}
use Rattle.cert_fields.specs.Given.{mtc_proof}
use Rattle.cert_time.specs.Texts.{unix_time_text}
use Rattle.cert_fields.specs.Certificate.{Parts, parts_of}
use Rattle.cert_fields.specs.Extensions.{dns_names_in}
use Rattle.cert_names.specs.LogNames.{log_in}
use Rattle.mtc_command.specs.declared.answer.Said.TheVariants.{Done}
use Rattle.der_core.specs.Reasons.{cert_fault_text}
use Rattle.mtc_command.specs.Steps.{Outcome, Files, says, with_bytes, with_form}

-- The log id that an issuer name holds, or `other`.
abbrev pub issuer_text : Option Text → Text
issuer_text (Some id) = id
issuer_text None = codes "other"

-- A subject without a name is the empty SEQUENCE.
abbrev pub subject_text : Text → Text
subject_text subject =
    if bytes_eq subject (0x30 ∷ 0x00 ∷ []) then codes "empty" else encode_lower subject

-- Printable ASCII without the blank.
abbrev pub is_graphic : ℕ → Bool
is_graphic byte = nat_le 33 byte && nat_le byte 126

-- The line of a dNSName, in hexadecimal where it has other bytes.
abbrev pub name_line : Text → Text
name_line name =
    if list_all is_graphic name then codes "name " ++ (name ++ codes "\n")
    else codes "name-hex " ++ (encode_lower name ++ codes "\n")

-- The lines of the fields.
abbrev pub fields_text : Parts → Text
fields_text p =
    codes "serial " ++ (decimal p.serial
    ++ (codes "\nissuer " ++ (issuer_text (log_in p.issuer)
    ++ (codes "\nnot_before " ++ (unix_time_text p.validity.not_before
    ++ (codes "\nnot_after " ++ (unix_time_text p.validity.not_after
    ++ (codes "\nsubject " ++ (subject_text p.subject
    ++ (codes "\nkey " ++ (encode_lower p.spki ++ codes "\n")))))))))))

-- A cosigner's id as text, or in hexadecimal where it is no anchor id.
abbrev pub cosigner_text : Text → Result Text AnchorBytesError → Text
cosigner_text bytes (Ok id) = text_of_id id
cosigner_text bytes (Err why) = codes "hex:" ++ encode_lower bytes

-- The line of a signature: the cosigner, and how many bytes it has.
abbrev pub signature_line : SigParts → Text
signature_line s =
    codes "signature " ++ (cosigner_text s.cosigner (anchor_of s.cosigner)
    ++ (codes " " ++ (decimal (length s.signature) ++ codes "\n")))

-- The interval, and the length of the path.
abbrev pub interval_text : ProofParts → Text
interval_text p =
    codes "interval " ++ (decimal p.start
    ++ (codes " " ++ (decimal p.end
    ++ (codes "\npath " ++ (decimal (length p.path) ++ codes "\n")))))

-- These, and a line for each signature.
abbrev pub proof_lines : Result ProofParts ProofError → Text
proof_lines (Ok p) =
    interval_text p ++ flat_map signature_line (signatures_left (at p.signatures 0))
proof_lines (Err why) = codes "proof none\n"

-- A certificate of another algorithm has no proof.
abbrev pub proof_section : Parts → Text
proof_section p =
    if bytes_eq p.algorithm mtc_proof then proof_lines (proof_in p.proof)
    else codes "proof none\n"

-- The lines of a certificate: its fields, one for each dNSName, and the proof.
abbrev pub show_text : Parts → Text
show_text p = fields_text p ++ (flat_map name_line (dns_names_in p.extensions) ++ proof_section p)

-- The lines of the certificate in these bytes.
abbrev pub show_says : Text → Text → Outcome
show_says file bytes =
    with_form cert_fault_text file (parts_of bytes) (λ p. says Done (show_text p))

-- The outcome of `show CERT`: the file is read, at most 16 MiB of it.
abbrev pub show_outcome : Text → Files → Outcome
show_outcome file files = with_bytes 16777216 file (files file) (show_says file)
