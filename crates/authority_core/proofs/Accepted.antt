-- A certificate that is written is accepted by each store that is set up for it.
use Rattle.std.proofs.Common.{◌≡◌, ℕ, ◌-◌, ◌<◌, ◌≤◌, true, [], List, Some, Ok}
use Rattle.std.proofs.Common.{refl, sym}
use Rattle.std.proofs.Common.{ap, subst, ◌∙◌, take, drop, length, slice_index_or}
use Rattle.std.specs.Prelude.{◌≤ℤ◌, map}
use Rattle.std.proofs.lemmas.List.{drop-map, take-map}
use Rattle.byte_formats.specs.Types.{Text, Hash, HashFunction}
use Rattle.tls_wire.specs.Anchors.{text_of}
use Rattle.tree_core.specs.Evaluation.{evaluation}
use Rattle.tree_core.specs.Path.{part_of, path_of}
use Rattle.tree_core.specs.Subtree.{is_subtree}
use Rattle.tree_core.specs.Tree.{leaf_hash, tree_hash}
use Rattle.tree_core.proofs.Paths.{SubtreePathsEvaluate_always}
use Rattle.tree_core.proofs.Subtrees.{is_subtree_iff}
use Rattle.cert_fields.specs.Certificate.{Parts}
use Rattle.cert_fields.specs.Extensions.{has_unknown_critical}
use Rattle.cert_names.specs.LogNames.{name_with}
use Rattle.mtc_proof.specs.Proofs.{ProofParts, IsProof, proof_text}
use Rattle.log_entry.specs.EntryOf.{entry_of}
use Rattle.log_entry.specs.Entries.{TbsParts}
use Rattle.log_entry.specs.Forms.{form_of}
use Rattle.log_entry.specs.declared.entry.Form.{Form}
use Rattle.log_entry.specs.Reading.{entry_in}
use Rattle.policy_core.specs.Judgement.{entry_by, form_by}
use Rattle.policy_core.proofs.Judgements.{accepted_so}
use Rattle.issuance_log.specs.Folds.{LogState}
use Rattle.authority_core.specs.Acceptance.{StoresAccept}
use Rattle.authority_core.specs.Certificates.{IsWritten, parts_with, proof_for}

-- the path of the proof gives its interval the tree hash of the entries there
evaluated : (h : HashFunction) (s : LogState) (index start end : ℕ) (signatures : Text)
    → is_subtree start end ≡ true → start ≤ index → index < end → end ≤ length s.entries
    → evaluation h (leaf_hash h (slice_index_or s.entries index [])) index start end
    (proof_for h s index start end signatures).path
    ≡ Ok (tree_hash h (part_of s.entries start end))
evaluated h s index start end signatures valid from below within =
    let same : map (leaf_hash h) (part_of s.entries start end)
    ≡ part_of (map (leaf_hash h) s.entries) start end =
    sym (take-map (leaf_hash h) (end - start) (drop start s.entries))
    ∙ ap (take (end - start)) (sym (drop-map (leaf_hash h) start s.entries)) in
    ap (λ (leaves : List Hash). evaluation h (leaf_hash h (slice_index_or s.entries index [])) index
    start end (path_of h (index - start) leaves)) (sym same)
    ∙ SubtreePathsEvaluate_always h s.entries index start end
    ((is_subtree_iff start end).0 valid) within from below

-- an entry reads in one way
fields_same : (entry : Text) (t u : TbsParts) → entry_in entry ≡ Ok (Some t)
    → entry_in entry ≡ Ok (Some u) → t ≡ u
fields_same entry t u one two = cc

pub accepts : (h : HashFunction) (s : LogState) (index start end : ℕ) (signatures bytes : Text)
    → is_subtree start end ≡ true → start ≤ index → index < end → end ≤ length s.entries
    → IsProof (proof_for h s index start end signatures)
    → IsWritten h s index start end signatures bytes
    → StoresAccept h s index start end signatures bytes
accepts h s index start end signatures bytes valid from below within fits is own store now set begun
    lasting =
    let p : ProofParts = proof_for h s index start end signatures in
    let hash : Hash = tree_hash h (part_of s.entries start end) in
    let c : Parts = parts_with index is.fields (slice_index_or s.keys index []) (proof_text p) in
    let same : own.fields ≡ is.fields = fields_same (slice_index_or s.entries index []) own.fields
    is.fields own.read is.read in
    let issuer : is.fields.issuer ≡ store.name =
    ap (λ (t : TbsParts). t.issuer) (sym same) ∙ own.issuer
    ∙ (ap (λ (id : Text). name_with (text_of id)) (sym set.log) ∙ sym set.valid.name) in
    let form : form_by store index ≡ form_of is.fields = set.form ∙ ap form_of same in
    let evaluates : evaluation h (leaf_hash h (entry_by h store c)) index start end p.path
    ≡ Ok hash =
    ap (λ (f : Form). evaluation h (leaf_hash h (entry_of h f c)) index start end p.path) form
    ∙ ap (λ (e : Text). evaluation h (leaf_hash h e) index start end p.path) is.made
    ∙ evaluated h s index start end signatures valid from below within in
    accepted_so h bytes store now c p hash set.valid is.fits is.written
    (record {
      algorithm = refl;
      issuer = issuer;
      begun = subst (λ (t : TbsParts). t.validity.not_before ≤ℤ now) same begun;
      lasting = subst (λ (t : TbsParts). now ≤ℤ t.validity.not_after) same lasting;
      extensions =
          ap (λ (t : TbsParts). has_unknown_critical t.extensions) (sym same) ∙ own.known;
      not_revoked = set.not_revoked;
    })
    fits refl evaluates set.no_other set.enough
