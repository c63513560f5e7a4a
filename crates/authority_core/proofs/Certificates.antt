-- Certificates of the entries of a log.
use Rattle.std.proofs.Common.{◌≡◌, ℕ, zero, suc, ◌+◌, ◌*◌, ◌^◌, ◌<◌, ◌≤◌, ◌&&◌, true, List, []}
use Rattle.std.proofs.Common.{◌∷◌, length, slice_index_or, Option, Some, None, IfOk, Result, Ok}
use Rattle.std.proofs.Common.{Err, refl, sym, ap, ◌∙◌, subst, arith}
use Rattle.std.specs.List.{AllByRecursion, concat}
use Rattle.std.proofs.lemmas.Grind.{common_steps}
use Rattle.std.proofs.lemmas.List.{length-append}
use Rattle.byte_formats.specs.Offsets.{IsBytes}
use Rattle.byte_formats.specs.Types.{Text, HashFunction}
use Rattle.tls_wire.specs.Encoding.{AreHashes}
use Rattle.cert_fields.specs.Certificate.{Parts}
use Rattle.cert_fields.specs.Given.{given, size_of}
use Rattle.cert_fields.specs.Grammar.{IsCertificate, IsPublicKey}
use Rattle.cert_fields.specs.Keys.{is_public_key}
use Rattle.cert_fields.specs.Encoding.{certificate, certificate_fields}
use Rattle.cert_fields.specs.declared.parts.CertParts.{CertParts}
use Rattle.cert_fields.proofs.Sizes.{given-short}
use Rattle.mtc_proof.specs.Proofs.{ProofParts, IsProof, proof_text}
use Rattle.log_entry.specs.Entries.{TbsParts, tbs_text, entry_text, IsTbs}
use Rattle.log_entry.specs.Forms.{form_at}
use Rattle.log_entry.specs.Matching.{holds, matches}
use Rattle.log_entry.specs.Reading.{entry_in}
use Rattle.log_entry.specs.Views.{entry_parts, tbs_parts}
use Rattle.log_entry.specs.declared.entry.Entry.{Entry}
use Rattle.log_entry.specs.declared.entry.Entry.TheVariants.{Tbs}
use Rattle.log_entry.specs.declared.entry.TbsEntry.{TbsEntry}
use Rattle.log_entry.specs.declared.fault.EntryError.{EntryError}
use Rattle.log_entry.proofs.EntryForm.{entries_again, entries_only}
use Rattle.log_entry.proofs.Matches.{IsOfKey, made_encoded, matches_only}
use Rattle.issuance_log.specs.Folds.{LogState}
use Rattle.issuance_log.specs.Refusals.{item_at}
use Rattle.issuance_log.specs.Sound.{IsItem, IsSound}
use Rattle.authority_core.specs.Certificates.{IsCertificateOf, IsWritten, parts_with, proof_for}
use Rattle.authority_core.proofs.Identifiers.{proof_algorithm}

-- ---- the item of a log

pub item_is : (s : LogState) (index : ℕ) (entry key : Text) → index < length s.entries
    → item_at s index ≡ Ok (entry, key)
    → (slice_index_or s.entries index [] ≡ entry) × (slice_index_or s.keys index [] ≡ key)
unfolding item_at
item_is s index entry key below is = grind (arith, common_steps)

-- Each entry and each key fits a length of two bytes.
pub items_short : (h : HashFunction) (s : LogState) (index : ℕ) → IsSound h s
    → index < length s.entries
    → (length (slice_index_or s.entries index []) < 65536)
    × (length (slice_index_or s.keys index []) < 65536)
items_short h s zero sound below =
    (rw sound.first_entry (omega arith), rw sound.first_key (omega arith))
items_short h s (suc i) sound below =
    let item = sound.items (suc i) (omega arith) below in (item.short_entry, item.short_key)

pub item_given : (h : HashFunction) (s : LogState) (index : ℕ) (entry key : Text) → IsSound h s
    → 1 ≤ index → index < length s.entries → item_at s index ≡ Ok (entry, key)
    → IsItem h (form_at s.switched index) entry key
item_given h s index entry key sound some below is =
    let same = item_is s index entry key below is in
    let form = form_at s.switched index in
    subst (λ (k : Text). IsItem h form entry k) same.1
    (subst (λ (e : Text). IsItem h form e (slice_index_or s.keys index [])) same.0
    (sound.items index some below))

-- ---- an entry to which a key belongs is one of type 1

pub no_null : (h : HashFunction) (entry key : Text) → matches h entry key ≡ true
    → entry_in entry ≡ Ok None → ⊥
unfolding matches
no_null h entry key is none =
    let wrong = subst (λ (r : Result (Option TbsParts) EntryError).
    (holds h key r && is_public_key key) ≡ true) none is in
    absurd cc

pub no_fault : (h : HashFunction) (entry key : Text) (why : EntryError)
    → matches h entry key ≡ true → entry_in entry ≡ Err why → ⊥
unfolding matches
no_fault h entry key why is none =
    let wrong = subst (λ (r : Result (Option TbsParts) EntryError).
    (holds h key r && is_public_key key) ≡ true) none is in
    absurd cc

-- ---- sizes

within : (p : TbsParts)
    → length p.issuer + length p.subject + length p.extensions ≤ length (tbs_text p)
unfolding tbs_text
within p = simp length-append (omega arith)

fields_within : (entry : Text) (e : Entry) (t : TbsEntry) → e ≡ Tbs t
    → entry ≡ entry_text (entry_parts e)
    → length t.issuer.now + length t.subject.now + length t.extensions.now ≤ length entry
fields_within entry e t one is =
    let size : length entry ≡ length (tbs_text (tbs_parts t)) = ap length (is
    ∙ ap (λ (x : Entry). entry_text (entry_parts x)) one) in
    let fields = within (tbs_parts t) in
    omega arith

-- what such a certificate says is short enough
pub parts_few : (index : ℕ) (entry key proof : Text) (e : Entry) (t : TbsEntry) (p : CertParts)
    → e ≡ Tbs t → entry ≡ entry_text (entry_parts e)
    → given p ≡ parts_with index (tbs_parts t) key proof → length entry < 65536
    → length key < 65536 → length proof ≤ 200000 → size_of p ≤ 16000000
parts_few index entry key proof e t p one is same short_entry short_key short_proof =
    let fields = fields_within entry e t one is in
    let issuer = ap (λ (x : Parts). length x.issuer) same in
    let subject = ap (λ (x : Parts). length x.subject) same in
    let spki = ap (λ (x : Parts). length x.spki) same in
    let extensions = ap (λ (x : Parts). length x.extensions) same in
    let last = ap (λ (x : Parts). length x.proof) same in
    omega (
      arith,
      fields,
      issuer,
      subject,
      spki,
      extensions,
      last,
      short_entry,
      short_key,
      short_proof,
    )

length-hashes : (items : List Text) → AllByRecursion (λ hash. length hash ≡ 32) items
    → length (concat items) ≡ length items * 32
length-hashes [] all = refl
length-hashes (hash ∷ items) all =
    let rest = length-hashes items all.1 in simp length-append (omega (arith, all.0))

pub proof_within : (p : ProofParts) → AreHashes p.path → length p.signatures < 2 ^ 16
    → length (proof_text p) ≤ 200000
proof_within p hashes short =
    let size = length-hashes p.path hashes.0 in simp length-append (omega (arith, hashes.1))

pub short_so : {E : Type 0} (r : Result Text E) (p : ProofParts)
    → IfOk r (λ bytes. bytes ≡ proof_text p) → length (proof_text p) ≤ 200000
    → IfOk r (λ bytes. length bytes ≤ 200000)
short_so {E} (Ok bytes) p is few = subst (λ (b : Text). length b ≤ 200000) (sym is) few
short_so {E} (Err e) p is few = tt

pub fits_so : {E : Type 0} (r : Result Text E) (p : ProofParts) → IsProof p
    → IfOk r (λ bytes. IsProof p)
fits_so {E} (Ok bytes) p is = is
fits_so {E} (Err e) p is = tt

-- ---- a certificate that is written is one, and the entry is its entry

made_of : (h : HashFunction) (entry key : Text) (t : TbsParts) → IsBytes entry → IsBytes key
    → matches h entry key ≡ true → entry_in entry ≡ Ok (Some t)
    → IsTbs t × (IsPublicKey key × ((h key ≡ t.key_hash) × IsOfKey t.algorithm key))
made_of h entry key t of_entry of_key belongs read =
    let m = matches_only h entry key of_entry of_key belongs in
    let again : entry_in entry ≡ Ok (Some m.parts) = ap entry_in m.encoded
    ∙ entries_again (Some m.parts) m.fits in
    let same : m.parts ≡ t = cc in (
      (entries_only entry (Some t) of_entry read).1,
      (
        m.key,
        (
          sym m.hash ∙ ap (λ (x : TbsParts). x.key_hash) same,
          subst (λ (x : TbsParts). IsOfKey x.algorithm key) same m.algorithm,
        ),
      ),
    )

pub certified : (h : HashFunction) (index : ℕ) (entry key proof bytes : Text) (t : TbsParts)
    (p : CertParts) → IsBytes entry → IsBytes key → matches h entry key ≡ true
    → entry_in entry ≡ Ok (Some t) → 1 ≤ index → index < 2 ^ 64
    → given p ≡ parts_with index t key proof → size_of p ≤ 16000000 → bytes ≡ certificate (given p)
    → IsCertificateOf h index entry key proof bytes
certified h index entry key proof bytes t p of_entry of_key belongs read some below same few is =
    let q : Parts = parts_with index t key proof in
    let facts = made_of h entry key t of_entry of_key belongs read in
    let tbs = facts.0 in
    let serial : p.serial < 2 ^ 64 =
    subst (λ (n : ℕ). n < 2 ^ 64) (sym (ap (λ (x : Parts). x.serial) same)) below in
    let short = given-short p serial few in
    let fits : IsCertificate q = record {
      positive = omega (arith, some);
      serial = below;
      algorithm = proof_algorithm;
      issuer = tbs.issuer;
      validity = record { period = tbs.validity.period; encoded = refl };
      subject = tbs.subject;
      spki = facts.1.0;
      extensions = tbs.extensions;
      short = subst (λ (x : Parts). length (certificate_fields x) < 2 ^ 24) same short.whole;
    } in
    record {
      fields = t;
      read = read;
      fits = fits;
      made = made_encoded h t q tbs fits (record {
        issuer = refl;
        validity = refl;
        subject = refl;
        algorithm = facts.1.1.1;
        key = facts.1.1.0;
        extensions = refl;
      }) ∙ sym (entries_only entry (Some t) of_entry read).0;
      written = is ∙ ap certificate same;
    }

pub certified_so : {E : Type 0} (r : Result Text E) (h : HashFunction) (index : ℕ)
    (entry key proof : Text) (t : TbsParts) (p : CertParts) → IsBytes entry → IsBytes key
    → matches h entry key ≡ true → entry_in entry ≡ Ok (Some t) → 1 ≤ index → index < 2 ^ 64
    → given p ≡ parts_with index t key proof → size_of p ≤ 16000000
    → IfOk r (λ bytes. bytes ≡ certificate (given p))
    → IfOk r (IsCertificateOf h index entry key proof)
certified_so {E} (Ok bytes) h index entry key proof t p of_entry of_key belongs read some below same
    few is =
    certified h index entry key proof bytes t p of_entry of_key belongs read some below same few is
certified_so {E} (Err e) h index entry key proof t p of_entry of_key belongs read some below same
    few is = tt

-- ---- the certificate of an item that was given

pub written_of : (h : HashFunction) (s : LogState) (index start end : ℕ)
    (signatures entry key proof bytes : Text)
    → entry ≡ slice_index_or s.entries index [] → key ≡ slice_index_or s.keys index []
    → proof ≡ proof_text (proof_for h s index start end signatures)
    → IsCertificateOf h index entry key proof bytes
    → IsWritten h s index start end signatures bytes
written_of h s index start end signatures entry key proof bytes one two three is =
    subst (λ (p : Text). IsCertificateOf h index (slice_index_or s.entries index [])
    (slice_index_or s.keys index []) p bytes) three
    (subst (λ (k : Text). IsCertificateOf h index (slice_index_or s.entries index []) k proof bytes)
    two (subst (λ (e : Text). IsCertificateOf h index e key proof bytes) one is))
