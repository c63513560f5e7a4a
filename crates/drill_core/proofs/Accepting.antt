-- Stores accept the certificates of the entries of a drill.
use Rattle.std.proofs.Common.{◌≡◌, ◌∙◌, ℕ, [], false, length, slice_index_or, Some, Ok, refl, ap}
use Rattle.std.proofs.Common.{subst, sym, arith}
use Rattle.std.specs.Prelude.{pos}
use Rattle.byte_formats.specs.Types.{Hash, HashFunction, Text}
use Rattle.tls_wire.specs.Anchors.{text_of}
use Rattle.tls_wire.specs.Arcs.{IsAnchorId}
use Rattle.tree_core.specs.Path.{part_of}
use Rattle.tree_core.specs.Tree.{tree_hash}
use Rattle.cert_fields.specs.Extensions.{has_unknown_critical}
use Rattle.cert_names.specs.LogNames.{name_with}
use Rattle.log_entry.specs.Entries.{TbsParts}
use Rattle.log_entry.specs.Forms.{form_of}
use Rattle.log_entry.specs.Reading.{entry_in}
use Rattle.log_entry.specs.declared.entry.Form.{Form}
use Rattle.log_entry.specs.declared.entry.Form.TheVariants.{One}
use Rattle.policy_core.specs.Acceptance.{accepted_by}
use Rattle.policy_core.specs.Judgement.{accepted, judgement}
use Rattle.policy_core.specs.declared.store.Store.{Store}
use Rattle.issuance_log.specs.Folds.{LogState}
use Rattle.authority_core.specs.Acceptance.{IsSetUpFor, StoresAccept}
use Rattle.authority_core.specs.Certificates.{proof_for}
use Rattle.authority_core.specs.Issuing.{entry_for, tbs_for}
use Rattle.authority_core.specs.Requests.{CanBeIssued, RequestParts}
use Rattle.authority_core.proofs.Issued.{entry_read}
use Rattle.drill_parties.specs.Ids.{drill_log_id}
use Rattle.drill_core.specs.Entries.{request_for}
use Rattle.drill_core.specs.LightStores.{IsDueEntry}
use Rattle.drill_core.specs.Stores.{IsDrillEntry, StoresAcceptNow}
use Rattle.drill_core.proofs.FirstEntries.{all_of}

-- entries are read as what was asked for
abbrev AreRead : HashFunction → Type 0
AreRead h = (k : HashFunction) (form : Form) (id : Text) (r : RequestParts)
    → ((bytes : Text) → length (k bytes) ≡ 32) → IsAnchorId id → CanBeIssued r
    → entry_in (entry_for k form id r) ≡ Ok (Some (tbs_for k form id r))

-- and have no critical extension that is unknown
abbrev AreKnown : HashFunction → Type 0
AreKnown h = (k : HashFunction) (form : Form) (id : Text) (r : RequestParts) → CanBeIssued r
    → has_unknown_critical (tbs_for k form id r).extensions ≡ false

-- what stores accept whose log has so many entries
abbrev AcceptsWith : HashFunction → LogState → ℕ → ℕ → Text → Hash → Text → Type 0
AcceptsWith h s index size signatures hash bytes =
    (store : Store)
    → IsSetUpFor s.settings.id index One (proof_for h s index 0 size signatures) hash store
    → judgement h bytes store (pos 1767225600)
    ≡ Ok (accepted (accepted_by store (proof_for h s index 0 size signatures) hash) index
    (proof_for h s index 0 size signatures) hash)

-- the entry of a drill is read
is_read : (h : HashFunction) (s : LogState) (index : ℕ) → ((b : Text) → length (h b) ≡ 32)
    → AreRead h → IsDrillEntry h s index
    → entry_in (slice_index_or s.entries index [])
    ≡ Ok (Some (tbs_for h One s.settings.id (request_for index)))
is_read h s index sized read is =
    ap entry_in is.entry ∙ read h One s.settings.id (request_for index) sized is.id is.can

-- and is due
pub due_entry : (h : HashFunction) (s : LogState) (index : ℕ) → ((b : Text) → length (h b) ≡ 32)
    → AreRead h → AreKnown h → s.settings.id ≡ drill_log_id → IsDrillEntry h s index
    → IsDueEntry (slice_index_or s.entries index [])
due_entry h s index sized read known id is = record {
  own = record {
    fields = tbs_for h One s.settings.id (request_for index);
    read = is_read h s index sized read is;
    issuer = ap (λ (x : Text). name_with (text_of x)) id;
    known = known h One s.settings.id (request_for index) is.can;
  };
  form = refl;
  begun = omega arith;
  lasting = omega arith;
}

-- an entry reads in one way
same_fields : (entry : Text) (t u : TbsParts) → entry_in entry ≡ Ok (Some t)
    → entry_in entry ≡ Ok (Some u) → t ≡ u
same_fields entry t u one two = cc

-- the entry of a drill has form one
pub form_one : (h : HashFunction) (s : LogState) (index : ℕ) (t : TbsParts)
    → ((b : Text) → length (h b) ≡ 32) → IsDrillEntry h s index
    → entry_in (slice_index_or s.entries index []) ≡ Ok (Some t) → form_of t ≡ One
form_one h s index t sized is read =
    ap form_of (sym (same_fields (slice_index_or s.entries index [])
    (tbs_for h One s.settings.id (request_for index)) t
    (is_read h s index sized entry_read is) read))

-- the time lies in the validity of the entry
at_now : (h : HashFunction) (s : LogState) (index size : ℕ) (signatures bytes : Text)
    → ((b : Text) → length (h b) ≡ 32) → AreRead h → AreKnown h
    → StoresAccept h s index 0 size signatures bytes → IsDrillEntry h s index
    → AcceptsWith h s index size signatures (tree_hash h (part_of s.entries 0 size)) bytes
at_now h s index size signatures bytes sized read known accepts is =
    λ store set.
    accepts (record {
      fields = tbs_for h One s.settings.id (request_for index);
      read = is_read h s index sized read is;
      issuer = refl;
      known = known h One s.settings.id (request_for index) is.can;
    }) store (pos 1767225600) set (omega arith) (omega arith)

pub accepts_now : (h : HashFunction) (s : LogState) (index size : ℕ) (signatures bytes : Text)
    → ((b : Text) → length (h b) ≡ 32) → AreRead h → AreKnown h → size ≡ length s.entries
    → StoresAccept h s index 0 size signatures bytes
    → StoresAcceptNow h s index signatures bytes
accepts_now h s index size signatures bytes sized read known all accepts is =
    subst (λ (hash : Hash). AcceptsWith h s index (length s.entries) signatures hash bytes)
    (ap (tree_hash h) (all_of s.entries))
    (subst (λ (n : ℕ). AcceptsWith h s index n signatures
    (tree_hash h (part_of s.entries 0 n)) bytes) all
    (at_now h s index size signatures bytes sized read known accepts is))
