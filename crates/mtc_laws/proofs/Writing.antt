-- The certificate of an issued entry is accepted. It should stand in authority_core.
use Rattle.std.proofs.Common.{◌≡◌, ℕ, ◌+◌, ◌-◌, ◌^◌, ◌<◌, ◌≤◌, true, List, []}
use Rattle.std.proofs.Common.{length, drop, slice_index_or, Some, Ok, refl, sym, ap, subst}
use Rattle.std.proofs.Common.{◌∙◌, arith}
use Rattle.std.specs.Prelude.{map}
use Rattle.std.proofs.lemmas.List.{length-append, length-take}
use Rattle.byte_formats.specs.Types.{Hash, HashFunction, Text}
use Rattle.tls_wire.specs.Encoding.{AreHashes}
use Rattle.tree_core.specs.Path.{part_of}
use Rattle.tree_core.specs.Subtree.{is_subtree}
use Rattle.tree_core.specs.Tree.{leaf_hash}
use Rattle.cert_time.specs.Calendar.{IsPeriod}
use Rattle.cert_fields.specs.Certificate.{Parts}
use Rattle.cert_fields.specs.Encoding.{certificate, certificate_fields}
use Rattle.cert_fields.specs.Given.{given, size_of}
use Rattle.cert_fields.specs.Grammar.{IsCertificate, IsPublicKey}
use Rattle.cert_fields.specs.declared.parts.CertParts.{CertParts}
use Rattle.cert_fields.proofs.Sizes.{given-short}
use Rattle.mtc_proof.specs.Proofs.{AreSignatures, IsProof, proof_text}
use Rattle.log_entry.specs.Entries.{IsTbs, TbsParts, tbs_text}
use Rattle.log_entry.specs.Reading.{entry_in}
use Rattle.log_entry.specs.declared.entry.Form.{Form}
use Rattle.log_entry.proofs.Matches.{IsOfKey, algorithm_own, made_encoded}
use Rattle.issuance_log.specs.Folds.{LogState}
use Rattle.authority_core.specs.Acceptance.{StoresAccept}
use Rattle.authority_core.specs.Certificates.{IsWritten, parts_with, proof_for}
use Rattle.authority_core.specs.Issuing.{entry_for, tbs_for}
use Rattle.authority_core.specs.Requests.{CanBeIssued, RequestParts}
use Rattle.authority_core.proofs.Accepted.{accepts}
use Rattle.authority_core.proofs.Certificates.{proof_within}
use Rattle.authority_core.proofs.Identifiers.{proof_algorithm}
use Rattle.authority_core.proofs.Issued.{entry_read, fields_are}
use Rattle.mtc_laws.proofs.PathHashes.{all_drop, all_take, leaves_are, path_hashes}
use Rattle.mtc_laws.proofs.SoundLogs.{IsSoundLog}

-- ---- sizes

-- three of the fields of an entry
fields_within : (t : TbsParts)
    → length t.issuer + length t.subject + length t.extensions ≤ length (tbs_text t)
unfolding tbs_text
fields_within t = simp length-append (omega arith)

-- a certificate of few bytes is short enough
short_parts : (index : ℕ) (t : TbsParts) (key proof : Text) → IsPeriod t.validity → index < 2 ^ 64
    → length (tbs_text t) + length key ≤ 131070 → length proof ≤ 200000
    → length (certificate_fields (parts_with index t key proof)) < 2 ^ 24
short_parts index t key proof period below few short =
    let p : CertParts = record {
      serial = index;
      issuer = t.issuer;
      validity = record {
        not_before = t.validity.not_before;
        not_after = t.validity.not_after;
        begins = period.not_before;
        ends = period.not_after;
      };
      subject = t.subject;
      spki = key;
      extensions = t.extensions;
      proof = proof;
    } in
    let same : given p ≡ parts_with index t key proof = refl in
    let size : size_of p ≤ 16000000 = omega (arith, fields_within t, few, short) in
    subst (λ (x : Parts). length (certificate_fields x) < 2 ^ 24) same
    (given-short p below size).whole

-- ---- the proof

module _ (h : HashFunction) (sized : (bytes : Text) → length (h bytes) ≡ 32) (s : LogState)
    (sound : IsSoundLog h s) (index start end : ℕ) (signatures : Text) (from : start ≤ index)
    (below : index < end) (within : end ≤ length s.entries) (are : AreSignatures signatures)
    (short : length signatures < 2 ^ 16) where
  abbrev leaves : List Hash
  leaves = part_of (map (leaf_hash h) s.entries) start end

  few_leaves : length leaves ≤ 2 ^ 24
  few_leaves = omega (
    arith,
    length-take (end - start) (drop start (map (leaf_hash h) s.entries)),
    within,
    sound.is.numbers.few,
    sound.is.numbers.allowed.few,
  )

  path_is : AreHashes (proof_for h s index start end signatures).path
  path_is = path_hashes h sized (index - start) leaves few_leaves
      (all_take (λ hash. length hash ≡ 32) (end - start) (drop start (map (leaf_hash h) s.entries))
      (all_drop (λ hash. length hash ≡ 32) start (map (leaf_hash h) s.entries)
      (leaves_are h sized s.entries)))

  proof_is : IsProof (proof_for h s index start end signatures)
  proof_is = record {
    start = omega (arith, from, below, within, sound.is.numbers.few, sound.is.numbers.allowed.few);
    end = omega (arith, within, sound.is.numbers.few, sound.is.numbers.allowed.few);
    path = path_is;
    short = short;
    signatures = are;
  }

  module _ (form : Form) (r : RequestParts) (can : CanBeIssued r)
      (entry_is : slice_index_or s.entries index [] ≡ entry_for h form s.settings.id r)
      (key_is : slice_index_or s.keys index [] ≡ r.key)
      (few : length (entry_for h form s.settings.id r) + length r.key ≤ 131070)
      (some : 1 ≤ index) where
    abbrev fields : TbsParts
    fields = tbs_for h form s.settings.id r

    abbrev parts : Parts
    parts = parts_with index fields (slice_index_or s.keys index [])
        (proof_text (proof_for h s index start end signatures))

    tbs_is : IsTbs fields
    tbs_is = fields_are h form s.settings.id r sized sound.anchor can

    pub issued_read : entry_in (slice_index_or s.entries index []) ≡ Ok (Some fields)
    issued_read = ap entry_in entry_is ∙ entry_read h form s.settings.id r sized sound.anchor can

    text_is : tbs_text fields ≡ entry_for h form s.settings.id r
    unfolding entry_for
    text_is = refl

    index_fits : index < 2 ^ 64
    index_fits = omega (arith, below, within, sound.is.numbers.few, sound.is.numbers.allowed.few)

    certificate_is : IsCertificate parts
    certificate_is = record {
      positive = omega (arith, some);
      serial = index_fits;
      algorithm = proof_algorithm;
      issuer = tbs_is.issuer;
      validity = tbs_is.validity;
      subject = tbs_is.subject;
      spki = subst IsPublicKey (sym key_is) can.key;
      extensions = tbs_is.extensions;
      short = short_parts index fields (slice_index_or s.keys index [])
          (proof_text (proof_for h s index start end signatures)) can.validity index_fits
          (omega (arith, few, ap length text_is, ap length key_is))
          (proof_within (proof_for h s index start end signatures) path_is short);
    }

    written_is : IsWritten h s index start end signatures (certificate parts)
    written_is = record {
      fields = fields;
      read = issued_read;
      fits = certificate_is;
      made = made_encoded h fields parts tbs_is certificate_is (record {
        issuer = refl;
        validity = refl;
        subject = refl;
        algorithm = subst (IsOfKey fields.algorithm) (sym key_is) (algorithm_own form r.key);
        key = ap h key_is;
        extensions = refl;
      }) ∙ text_is ∙ sym entry_is;
      written = refl;
    }

    -- each store that is set up for it accepts it
    pub issued_accepted : is_subtree start end ≡ true
        → StoresAccept h s index start end signatures (certificate parts)
    issued_accepted valid =
        accepts h s index start end signatures (certificate parts) valid from below within proof_is
        written_is
