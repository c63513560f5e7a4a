-- What a relying party of a drill holds, and the certificates that it accepts.
use Rattle.std.specs.Prelude.{◌≡◌, ℕ, pos, List, [], ◌∷◌, length, slice_index_or, Ok, Err, Result}
use Rattle.std.specs.Prelude.{◌==◌, if◌then◌else◌, None}
use Rattle.byte_formats.specs.Types.{HashFunction, Text}
use Rattle.tls_wire.specs.Anchors.{text_of}
use Rattle.tls_wire.specs.Arcs.{IsAnchorId}
use Rattle.tree_core.specs.Tree.{tree_hash}
use Rattle.cert_names.specs.LogNames.{name_with}
use Rattle.hss_keys.specs.Keys.{public_of, signing_key}
use Rattle.lmots_core.specs.declared.parameters.OtsType.TheVariants.{W4}
use Rattle.lms_core.specs.declared.heights.LmsType.TheVariants.{H5}
use Rattle.issuance_log.specs.Folds.{LogState}
use Rattle.policy_core.specs.Acceptance.{accepted_by}
use Rattle.policy_core.specs.Judgement.{accepted, judgement}
use Rattle.policy_core.specs.declared.answer.Accepted.{Accepted}
use Rattle.policy_core.specs.declared.answer.By.{By}
use Rattle.policy_core.specs.declared.answer.By.TheVariants.{Cosigners, Landmark}
use Rattle.policy_core.specs.declared.cosigners.Known.{Known}
use Rattle.policy_core.specs.declared.refusal.Refusal.{Refusal}
use Rattle.policy_core.specs.declared.store.Store.{Store}
use Rattle.log_entry.specs.declared.entry.Form.TheVariants.{One}
use Rattle.authority_core.specs.Acceptance.{IsSetUpFor}
use Rattle.authority_core.specs.Certificates.{proof_for}
use Rattle.authority_core.specs.Issuing.{entry_for}
use Rattle.authority_core.specs.Requests.{CanBeIssued}
use Rattle.cosigner_core.specs.Folds.{CosignerState}
use Rattle.drill_parties.specs.CosignerParties.{secret_of}
use Rattle.drill_parties.specs.Ids.{drill_log_id, id_of}
use Rattle.drill_core.specs.Entries.{entries_to, request_for}

-- what is known of the cosigner 32473.N that has this public key
abbrev pub known_with : ℕ → Text → Known
known_with last key = record { id = id_of last; key = key }

-- what is known of a cosigner by its id and its public key
abbrev pub known_as : CosignerState → Known
known_as s = record { id = s.id; key = public_of s.key.key }

-- The store of the log that knows these cosigners, of whom there are three. Two of them have to
-- have signed; no subtree is trusted, and nothing revoked.
abbrev pub store_with : List Known → Store
store_with cosigners = record {
  log = drill_log_id;
  name = name_with (text_of drill_log_id);
  algorithm_from = None;
  cosigners = cosigners;
  rules = record { count = 2; cosigners = 0 ∷ 1 ∷ 2 ∷ [] } ∷ [];
  subtrees = [];
  revoked = [];
}

-- the public key of the cosigner 32473.N in the drill with a number
abbrev pub drill_public : ℕ → ℕ → Text
drill_public last number = public_of (signing_key H5 None W4 (secret_of last number))

-- what is known of the cosigner 32473.N of the drill with a number
abbrev pub drill_known : ℕ → ℕ → Known
drill_known number last = known_with last (drill_public last number)

-- The store of the drill with a number: the cosigners 32473.2 to 32473.4.
abbrev pub drill_store : ℕ → Store
drill_store number =
    store_with (drill_known number 2 ∷ drill_known number 3 ∷ drill_known number 4 ∷ [])

-- The bytes are accepted at 2026-01-01, as the certificate of this index in the subtree of so many
-- entries, by all three cosigners.
abbrev pub IsAcceptedByAll : HashFunction → ℕ → ℕ → ℕ → Text → Type 0
IsAcceptedByAll h number index size bytes =
    judgement h bytes (drill_store number) (pos 1767225600) ≡ Ok (record {
      index = index;
      start = 0;
      end = size;
      hash = tree_hash h (entries_to h size);
      by = Cosigners 7;
    })

-- 1 where all three cosigners have signed, or else 0
abbrev pub one_by_three : By → ℕ
one_by_three Landmark = 0
one_by_three (Cosigners set) = if set == 7 then 1 else 0

-- 1 where it is accepted by all three cosigners, or else 0
abbrev pub one_accepted : Result Accepted Refusal → ℕ
one_accepted (Ok a) = one_by_three a.by
one_accepted (Err why) = 0

-- The log's entry at an index is that of a drill, in form one, and can be issued.
pub record IsDrillEntry (h : HashFunction) (s : LogState) (index : ℕ) : Type 0 where
  pub id : IsAnchorId s.settings.id
  pub can : CanBeIssued (request_for index)
  pub entry : slice_index_or s.entries index []
      ≡ entry_for h One s.settings.id (request_for index)

-- Each store that is set up for the entry of a drill, in the subtree of all entries of the log,
-- accepts the bytes at 2026-01-01.
abbrev pub StoresAcceptNow : HashFunction → LogState → ℕ → Text → Text → Type 0
StoresAcceptNow h s index signatures bytes =
    let p = proof_for h s index 0 (length s.entries) signatures in
    IsDrillEntry h s index → (store : Store)
    → IsSetUpFor s.settings.id index One p (tree_hash h s.entries) store
    → judgement h bytes store (pos 1767225600)
    ≡ Ok (accepted (accepted_by store p (tree_hash h s.entries)) index p (tree_hash h s.entries))
