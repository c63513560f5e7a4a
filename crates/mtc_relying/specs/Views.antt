-- What contracts see of the code's values, and what is reported of them.
use Rattle.cert_fields.specs.Views.{parts}
use Rattle.mtc_command.specs.Answers.{Reply, said}
use Rattle.mtc_command.specs.declared.answer.Said.TheVariants.{Done, Against, Collided}
use Rattle.mtc_proof.specs.Views.{proof_parts}
use Rattle.quarrel_core.specs.declared.answer.Quarrel.{Quarrel}
use Rattle.quarrel_core.specs.declared.answer.Quarrel.TheVariants.{Agree, Pair as Shown}
use Rattle.world_core.specs.declared.answer.Audit.{Audit}
use Rattle.world_core.specs.declared.answer.Audit.TheVariants.{Foreign, Pair, Stands, Unrecorded}
use Rattle.mtc_relying.specs.AuditOutcome.{InputFile, AcceptedParts, collision_text, foreign_text}
use Rattle.mtc_relying.specs.AuditOutcome.{stands_text, unrecorded_text}
use Rattle.mtc_relying.specs.QuarrelOutcome.{agree_text, quarrel_text}
use Rattle.mtc_relying.specs.declared.accepted.AcceptedCert.{AcceptedCert}
use Rattle.mtc_relying.specs.declared.input.Input.{Input}

-- A certificate that was accepted.
abbrev pub accepted_parts : AcceptedCert → AcceptedParts
accepted_parts a =
    record { accepted = a.accepted; cert = parts a.cert; proof = proof_parts a.proof }

-- An input file.
abbrev pub input_file : Input → InputFile
input_file i = record { name = i.name.now; text = i.bytes.now }

-- The answer of an audit as a reply.
abbrev pub audit_reply : Audit → Reply
audit_reply (Foreign wanted found) = said Against (foreign_text (wanted, found))
audit_reply Unrecorded = said Against unrecorded_text
audit_reply (Stands index) = said Done (stands_text index)
audit_reply (Pair one other) = said Collided (collision_text one other)

-- What is found in an export, as a reply.
abbrev pub quarrel_reply : Quarrel → Reply
quarrel_reply Agree = said Done agree_text
quarrel_reply (Shown first second one other) =
    said Collided (quarrel_text (first, second) one other)
