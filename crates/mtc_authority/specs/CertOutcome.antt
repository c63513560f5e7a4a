-- The outcomes of `cert J INDEX START END SIGNATURES` and `light-cert J INDEX`.
use Rattle.std.specs.Prelude.{ℕ, [], slice_index_or, Option, Some, None, Result, Ok}
use Rattle.std.specs.Prelude.{Err}
use Rattle.byte_formats.specs.Offsets.{at}
use Rattle.byte_formats.specs.Readings.{◌>>=◌}
use Rattle.byte_formats.specs.Types.{HashFunction, Text}
use Rattle.mtc_proof.specs.Reasons.{proof_fault_text}
use Rattle.cert_fields.specs.Encoding.{certificate}
use Rattle.log_entry.specs.Entries.{TbsParts}
use Rattle.log_entry.specs.Reading.{entry_in}
use Rattle.log_entry.specs.declared.fault.EntryError.{EntryError}
use Rattle.mtc_proof.specs.Proofs.{proof_text}
use Rattle.mtc_proof.specs.Reading.{checked_signatures}
use Rattle.mtc_proof.specs.declared.fault.ProofError.{ProofError}
use Rattle.issuance_log.specs.Folds.{LogState, view_in}
use Rattle.authority_core.specs.Certificates.{cert_refusal, covering_in, light_refusal, parts_with}
use Rattle.authority_core.specs.Certificates.{proof_for}
use Rattle.authority_core.specs.Reasons.{write_fault_text}
use Rattle.authority_core.specs.declared.writing.error.WriteError.{WriteError}
use Rattle.authority_core.specs.declared.writing.error.WriteError.TheVariants as write_error
use Rattle.tree_core.specs.declared.spans.Span.{Span}
use Rattle.mtc_command.specs.declared.answer.Said.TheVariants.{Done}
use Rattle.mtc_command.specs.declared.answer.Stopped.TheVariants.{Beyond, BadForm}
use Rattle.mtc_command.specs.Answers.{Reply, Ending, replied, room_failed, no_memory, said}
use Rattle.mtc_command.specs.Answers.{refused, tiles_name}
use Rattle.mtc_authority.specs.LogOutcomes.{not_allowed}

-- What comes of a file that isn't signatures.
abbrev pub signatures_ending : Text → ProofError → Ending
signatures_ending file why = replied (refused BadForm (Some file) (proof_fault_text why))

-- The signatures that the bytes are, or the first fault.
abbrev pub signatures_in : Text → Result Text ProofError
signatures_in bytes = checked_signatures (at bytes 0) >>= λ done. Ok bytes

-- Why no certificate is written.
abbrev pub cert_refused : WriteError → Reply
cert_refused write_error.TooManySignatures =
    refused Beyond None (write_fault_text write_error.TooManySignatures)
cert_refused write_error.JournalFailed =
    refused Beyond None (write_fault_text write_error.JournalFailed)
cert_refused write_error.TilesFailed =
    refused Beyond None (write_fault_text write_error.TilesFailed)
cert_refused write_error.Memory = refused Beyond None (write_fault_text write_error.Memory)
cert_refused why = not_allowed (write_fault_text why)

-- What comes of it in a command on this journal: it is reported, unless a device failed or memory
-- was refused.
abbrev pub cert_ending : Text → WriteError → Ending
cert_ending journal write_error.JournalFailed = room_failed journal
cert_ending journal write_error.TilesFailed = room_failed (tiles_name journal)
cert_ending journal write_error.Memory = no_memory
cert_ending journal why = replied (cert_refused why)

-- The certificate of an entry that was read, with its key, index and proof. No log has an item
-- after the first one whose entry isn't of type 1.
abbrev pub certificate_with : ℕ → Text → Text → Result (Option TbsParts) EntryError → Text
certificate_with index key proof (Ok (Some fields)) =
    certificate (parts_with index fields key proof)
certificate_with index key proof (Ok None) = []
certificate_with index key proof (Err why) = []

-- The certificate of the log's entry at an index, in this subtree.
abbrev pub certificate_in : HashFunction → ℕ → ℕ → ℕ → Text → LogState → Text
certificate_in h index start end signatures s =
    certificate_with index (slice_index_or s.keys index [])
    (proof_text (proof_for h s index start end signatures))
    (entry_in (slice_index_or s.entries index []))

-- It is written, unless it is refused.
abbrev pub cert_replies : Option WriteError → Text → Reply
cert_replies None text = said Done text
cert_replies (Some why) text = cert_refused why

abbrev pub cert_reply : HashFunction → ℕ → ℕ → ℕ → Text → LogState → Reply
cert_reply h index start end signatures s =
    cert_replies (cert_refusal (view_in s) index start end signatures)
    (certificate_in h index start end signatures s)

-- The certificate of an entry without signatures, in the subtree that covers it, if one does.
abbrev pub light_text : HashFunction → ℕ → LogState → Option Span → Text
light_text h index s None = []
light_text h index s (Some span) = certificate_in h index span.start span.end [] s

abbrev pub light_reply : HashFunction → ℕ → LogState → Reply
light_reply h index s = cert_replies (light_refusal (view_in s) index)
    (light_text h index s (covering_in (view_in s) index))
