-- The outcome of `audit CERT STORE NOW ENTRIES EXPORT`: what is judged of the certificate, and
-- where it is accepted what an audit finds.
use Rattle.std.specs.Prelude.{ℕ, Bool, true, false, pos, ℤ, [], ◌++◌, codes, Option, None}
use Rattle.std.specs.Prelude.{Some, Result, Ok, Err}
use Rattle.std.specs.Fmt.{decimal}
use Rattle.byte_formats.specs.Types.{Hash, HashFunction, Text}
use Rattle.byte_formats.specs.Readings.{◌>>=◌, lifted}
use Rattle.cert_fields.specs.Certificate.{Parts, parts_of}
use Rattle.cosigner_core.specs.ExportReading.{export_in}
use Rattle.cosigner_core.specs.declared.lists.Export.{Export}
use Rattle.entry_list.specs.Items.{ItemLists}
use Rattle.entry_list.specs.Reading.{items_in}
use Rattle.hex.specs.Hex.{encode_lower}
use Rattle.mtc_proof.specs.Proofs.{ProofParts}
use Rattle.mtc_proof.specs.Reading.{proof_in}
use Rattle.policy_core.specs.Files.{store_of}
use Rattle.policy_core.specs.Judgement.{judgement}
use Rattle.policy_core.specs.declared.answer.Accepted.{Accepted}
use Rattle.policy_core.specs.declared.refusal.Refusal.{Refusal}
use Rattle.policy_core.specs.declared.refusal.Refusal.TheVariants.{Grammar, ProofGrammar}
use Rattle.policy_core.specs.declared.store.Store.{Store}
use Rattle.world_core.specs.Audit.{AuditCase, firsts_of, foreign_of, has_own, is_supported}
use Rattle.world_core.specs.Audit.{seconds_of}
use Rattle.mtc_command.specs.Steps.{Outcome, Files, says, with_bytes, with_form}
use Rattle.mtc_command.specs.Wanted.{pair_of}
use Rattle.mtc_command.specs.declared.answer.Said.TheVariants.{Done, Against, Collided}
use Rattle.cosigner_core.specs.Reasons.{export_fault_text}
use Rattle.entry_list.specs.Reasons.{items_fault_text}
use Rattle.policy_core.specs.Reasons.{store_fault_text}
use Rattle.mtc_relying.specs.VerifyOutcome.{verdict_says}

-- ---- what is audited

-- What was accepted, of a certificate with these parts, by a proof with these.
pub record AcceptedParts : Type 0 where
  pub accepted : Accepted
  pub cert : Parts
  pub proof : ProofParts

-- The judgement of a certificate's bytes, and the parts of one that is accepted.
abbrev pub accepted_in : HashFunction → Text → Store → ℤ → Result AcceptedParts Refusal
accepted_in h bytes store unix_time =
    judgement h bytes store unix_time >>= λ a.
    lifted Grammar (parts_of bytes) >>= λ c.
    lifted ProofGrammar (proof_in c.proof) >>= λ p.
    Ok (record { accepted = a; cert = c; proof = p })

-- The same as a case of an audit, against these items and the export of a cosigner.
abbrev pub case_of : Store → ItemLists → Option Export → AcceptedParts → AuditCase
case_of store items kept j = record {
  accepted = j.accepted;
  cert = j.cert;
  proof = j.proof;
  store = store;
  items = items;
  kept = kept;
}

-- ---- what it prints of that

abbrev pub foreign_text : Hash × Hash → Text
foreign_text hashes = codes "foreign " ++ (encode_lower hashes.0 ++ (codes " "
    ++ (encode_lower hashes.1 ++ codes "\n")))

abbrev pub unrecorded_text : Text
unrecorded_text = codes "unrecorded\n"

abbrev pub stands_text : ℕ → Text
stands_text index = codes "stands " ++ (decimal index ++ codes "\n")

-- Two strings, in hexadecimal on lines of their own.
abbrev pub collision_text : Text → Text → Text
collision_text one other = codes "collision\n" ++ (encode_lower one ++ (codes "\n"
    ++ (encode_lower other ++ codes "\n")))

-- The hash that is wanted of the list and the one that it has, where they aren't the same; or else
-- that no export supports the acceptance; or that the entry and the key stand at the
-- index; or any two different strings with one hash, the first from the list, the second from the
-- certificate or the cosigner.
abbrev pub audit_by : HashFunction → AuditCase → Option (Hash × Hash) → Bool → Bool → Outcome
audit_by h x (Some hashes) supported own = says Against (foreign_text hashes)
audit_by h x None false own = says Against unrecorded_text
audit_by h x None true true = says Done (stands_text x.accepted.index)
audit_by h x None true false = record {
  answer = pair_of Collided h collision_text (firsts_of h x) (seconds_of h x);
  journals = [];
}

abbrev pub audit_says : HashFunction → AuditCase → Outcome
audit_says h x =
    audit_by h x (foreign_of h x) (is_supported x) (has_own h x.store x.items x.accepted x.cert)

-- ---- the command

-- A file of the command: its name, and what it holds.
pub record InputFile : Type 0 where
  pub name : Text
  pub text : Text

-- A refused certificate is reported as by `verify`.
abbrev pub audit_accepted_says : HashFunction → Text → Store → ItemLists → Option Export
    → Result AcceptedParts Refusal → Outcome
audit_accepted_says h cert store items kept (Ok j) = audit_says h (case_of store items kept j)
audit_accepted_says h cert store items kept (Err why) = verdict_says cert (Err why)

-- The certificate is judged, which is the last step.
abbrev pub audit_cert_says : HashFunction → InputFile → ℕ → Store → ItemLists → Option Export
    → Outcome
audit_cert_says h cert unix_time store items kept =
    audit_accepted_says h cert.name store items kept (accepted_in h cert.text store (pos unix_time))

-- The export is read before it.
abbrev pub audit_export_says : HashFunction → InputFile → ℕ → InputFile → Store → ItemLists
    → Outcome
audit_export_says h cert unix_time export store items =
    with_form export_fault_text export.name (export_in h export.text)
    (audit_cert_says h cert unix_time store items)

-- The entries are read before that.
abbrev pub audit_items_say : HashFunction → InputFile → ℕ → InputFile → InputFile → Store → Outcome
audit_items_say h cert unix_time entries export store =
    with_form items_fault_text entries.name (items_in h entries.text)
    (audit_export_says h cert unix_time export store)

-- And the store before all of these.
abbrev pub audit_store_says : HashFunction → InputFile → InputFile → ℕ → InputFile → InputFile
    → Outcome
audit_store_says h cert store unix_time entries export =
    with_form store_fault_text store.name (store_of store.text)
    (audit_items_say h cert unix_time entries export)

-- An input file of at most so many bytes.
abbrev pub with_input : ℕ → Text → Files → (InputFile → Outcome) → Outcome
with_input limit name files next =
    with_bytes limit name (files name) (λ text. next (record { name = name; text = text }))

-- The outcome of `audit CERT STORE NOW ENTRIES EXPORT`: the four files are read in this order,
-- certificate and store at most 16 MiB each, entries and the export 8 GiB each.
abbrev pub audit_outcome : HashFunction → Text → Text → ℕ → Text → Text → Files → Outcome
audit_outcome h cert store unix_time entries export files =
    with_input 16777216 cert files
    (λ c. with_input 16777216 store files
    (λ s. with_input 8589934592 entries files
    (λ e. with_input 8589934592 export files
    (λ x. audit_store_says h c s unix_time e x))))
