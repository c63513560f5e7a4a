-- The judgement of a certificate by a relying party (the draft on Merkle Tree Certificates, where
-- it verifies certificates): the first refusal that holds, or what is known of the certificate.
use Rattle.std.specs.Prelude.{ℕ, ◌&&◌, ◌==◌, Bool, not, nat_lt, nat_le, int_lt, ℤ, Option}
use Rattle.std.specs.Prelude.{Some, None, Result, Ok, Err, if◌then◌else◌}
use Rattle.std.specs.List.{list_any, find}
use Rattle.std.specs.Str.{bytes_eq}
use Rattle.byte_formats.specs.Types.{Text, Hash, HashFunction}
use Rattle.byte_formats.specs.Readings.{◌>>=◌, lifted}
use Rattle.cert_fields.specs.Certificate.{Parts, parts_of}
use Rattle.cert_fields.specs.Extensions.{has_unknown_critical}
use Rattle.cert_fields.specs.Given.{mtc_proof}
use Rattle.tree_core.specs.Evaluation.{evaluation}
use Rattle.tree_core.specs.Tree.{leaf_hash}
use Rattle.tree_core.specs.declared.spans.Span.{Span}
use Rattle.log_entry.specs.EntryOf.{entry_of}
use Rattle.log_entry.specs.Forms.{form_at}
use Rattle.log_entry.specs.declared.entry.Form.{Form}
use Rattle.mtc_proof.specs.Proofs.{ProofParts}
use Rattle.mtc_proof.specs.Reading.{proof_in}
use Rattle.policy_core.specs.declared.answer.Accepted.{Accepted}
use Rattle.policy_core.specs.declared.answer.By.{By}
use Rattle.policy_core.specs.declared.answer.By.TheVariants.{Landmark, Cosigners}
use Rattle.policy_core.specs.declared.lists.Trusted.{Trusted}
use Rattle.policy_core.specs.declared.store.Store.{Store}
use Rattle.policy_core.specs.declared.refusal.Refusal.{Refusal}
use Rattle.policy_core.specs.declared.refusal.Refusal.TheVariants.{Grammar, Algorithm, UnknownLog}
use Rattle.policy_core.specs.declared.refusal.Refusal.TheVariants.{NotYet, Expired, UnknownCritical}
use Rattle.policy_core.specs.declared.refusal.Refusal.TheVariants.{Revoked, ProofGrammar}
use Rattle.policy_core.specs.declared.refusal.Refusal.TheVariants.{ProofShape, LandmarkDiffers}
use Rattle.policy_core.specs.declared.refusal.Refusal.TheVariants.{TooFewCosigners}
use Rattle.policy_core.specs.Counting.{counted, first_unmet}

-- The form that the store gives the entry at an index.
abbrev pub form_by : Store → ℕ → Form
form_by store index = form_at store.algorithm_from index

-- The entry of a certificate, in the form that the store gives its index.
abbrev pub entry_by : HashFunction → Store → Parts → Text
entry_by h store c = entry_of h (form_by store c.serial) c

-- A range holds its start and not its end.
abbrev pub is_in : ℕ → Span → Bool
is_in serial range = nat_le range.start serial && nat_lt serial range.end

-- What is asked of the fields of a certificate: its algorithm is that of Merkle tree proofs without
-- parameters, its issuer is the log, the time lies in its validity, each critical extension is
-- known, and its serial number isn't revoked.
unfoldable pub admitted : Store → ℤ → Parts → Result (Unit {0}) Refusal
admitted store now c =
    if not (bytes_eq c.algorithm mtc_proof) then Err Algorithm
    else (if not (bytes_eq c.issuer store.name) then Err UnknownLog
    else (if int_lt now c.validity.not_before then Err NotYet
    else (if int_lt c.validity.not_after now then Err Expired
    else (if has_unknown_critical c.extensions then Err UnknownCritical
    else (if list_any (λ range. is_in c.serial range) store.revoked then Err Revoked
    else Ok tt)))))

-- A trusted subtree with this interval.
abbrev pub is_of : ℕ → ℕ → Trusted → Bool
is_of start end t = (t.start == start) && (t.end == end)

-- What is known of a certificate that was accepted.
abbrev pub accepted : By → ℕ → ProofParts → Hash → Accepted
accepted by index p hash =
    record { index = index; start = p.start; end = p.end; hash = hash; by = by }

-- The answer where these cosigners count, and this is the first rule that isn't met.
abbrev pub by_rules : ℕ → ProofParts → Hash → ℕ → Option ℕ → Result Accepted Refusal
by_rules index p hash set None = Ok (accepted (Cosigners set) index p hash)
by_rules index p hash set (Some rule) = Err (TooFewCosigners rule)

-- The cosigners decide by the rules.
unfoldable pub by_cosigners : Store → ℕ → ProofParts → Hash → Result Accepted Refusal
by_cosigners store index p hash =
    let set = counted store p hash in
    by_rules index p hash set (first_unmet set store.rules)

-- A trusted hash decides alone; without one the cosigners decide.
abbrev pub by_trust : Store → ℕ → ProofParts → Hash → Option Trusted → Result Accepted Refusal
by_trust store index p hash None = by_cosigners store index p hash
by_trust store index p hash (Some t) =
    if bytes_eq t.hash hash then Ok (accepted Landmark index p hash) else Err LandmarkDiffers

-- The decision on the hash that the path of a proof gives the interval.
unfoldable pub decided : Store → ℕ → ProofParts → Hash → Result Accepted Refusal
decided store index p hash =
    by_trust store index p hash (find (is_of p.start p.end) store.subtrees)

-- The judgement of a certificate that has these parts, under the hash function h. The certificate's
-- entry, in the form that the store gives it, stands in the log at its serial number, and the
-- proof's path is evaluated there, in the proof's interval.
unfoldable pub judged : HashFunction → Store → ℤ → Parts → Result Accepted Refusal
judged h store now c =
    admitted store now c >>= λ done.
    lifted ProofGrammar (proof_in c.proof) >>= λ p.
    lifted ProofShape
    (evaluation h (leaf_hash h (entry_by h store c)) c.serial p.start p.end p.path) >>= λ hash.
    decided store c.serial p hash

-- The judgement of bytes: that of the certificate which they are.
unfoldable pub judgement : HashFunction → Text → Store → ℤ → Result Accepted Refusal
judgement h bytes store now = lifted Grammar (parts_of bytes) >>= judged h store now
