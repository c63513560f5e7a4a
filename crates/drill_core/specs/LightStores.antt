-- The store that trusts the active subtrees of a drill's log, by which certificates need no
-- signature.
use Rattle.std.specs.Prelude.{◌≡◌, ◌-◌, ◌<◌, ◌≤◌, ◌≤ℤ◌, ℕ, pos, List, [], ◌∷◌, Option, Some, None}
use Rattle.std.specs.Prelude.{IfSome, Ok, length}
use Rattle.std.specs.List.{AllByRecursion, IsDistinct}
use Rattle.byte_formats.specs.Types.{HashFunction, Text}
use Rattle.tls_wire.specs.Anchors.{text_of}
use Rattle.tree_core.specs.Laws.{IsSubtree}
use Rattle.tree_core.specs.Path.{part_of}
use Rattle.tree_core.specs.Tree.{tree_hash}
use Rattle.tree_core.specs.declared.spans.Cover.{Cover}
use Rattle.tree_core.specs.declared.spans.Span.{Span}
use Rattle.landmarks.specs.Landmarks.{LandmarkList, active_of, landmark_size, landmarks_of}
use Rattle.landmarks.specs.Landmarks.{subtrees_of}
use Rattle.cert_names.specs.LogNames.{name_with}
use Rattle.policy_core.specs.Acceptance.{IsAmong}
use Rattle.policy_core.specs.Judgement.{judgement}
use Rattle.policy_core.specs.Stores.{has_same_interval}
use Rattle.policy_core.specs.declared.answer.Accepted.{Accepted}
use Rattle.policy_core.specs.declared.lists.Trusted.{Trusted}
use Rattle.policy_core.specs.declared.store.Store.{Store}
use Rattle.issuance_log.specs.Folds.{LogState}
use Rattle.log_entry.specs.Forms.{form_of}
use Rattle.log_entry.specs.declared.entry.Form.TheVariants.{One}
use Rattle.authority_core.specs.Acceptance.{IsOwnEntry}
use Rattle.authority_core.specs.Certificates.{IsLightlyWritten}
use Rattle.drill_parties.specs.Ids.{drill_log_id}
use Rattle.drill_core.specs.Stores.{IsDrillEntry}

-- a subtree with the tree hash of its entries
abbrev pub with_hash : HashFunction → List Text → Span → Trusted
with_hash h entries span = record {
  start = span.start;
  end = span.end;
  hash = tree_hash h (part_of entries span.start span.end);
}

-- those of a cover
abbrev pub second_with : HashFunction → List Text → Option Span → List Trusted
second_with h entries None = []
second_with h entries (Some span) = with_hash h entries span ∷ []

abbrev pub cover_with : HashFunction → List Text → Cover → List Trusted
cover_with h entries cover =
    with_hash h entries cover.first ∷ second_with h entries cover.second

-- The interval is that of a subtree, and the hash is that of its entries.
pub record IsOwnSubtree (h : HashFunction) (entries : List Text) (t : Trusted) : Type 0 where
  pub subtree : IsSubtree t.start t.end
  pub hash : t.hash ≡ tree_hash h (part_of entries t.start t.end)

-- These are different subtrees with their hashes, and none ends after this index.
pub record AreOwn (h : HashFunction) (entries : List Text) (place : ℕ) (list : List Trusted)
    : Type 0 where
  pub own : AllByRecursion (IsOwnSubtree h entries) list
  pub ends : AllByRecursion (λ t. t.end ≤ place) list
  pub different : IsDistinct has_same_interval list

-- The subtrees of a cover are among these.
pub record HasCover (h : HashFunction) (entries : List Text) (cover : Cover) (list : List Trusted)
    : Type 0 where
  pub first : IsAmong (with_hash h entries cover.first) list
  pub second : IfSome cover.second (λ span. IsAmong (with_hash h entries span) list)

-- These are the subtrees of the landmarks from one number up to another one, without it.
pub record AreOfLandmarks (h : HashFunction) (entries : List Text) (l : LandmarkList)
    (from to : ℕ) (list : List Trusted) : Type 0 where
  pub are : AreOwn h entries (landmark_size l (to - 1)) list
  pub has : (number : ℕ) → from ≤ number → number < to
      → HasCover h entries (subtrees_of l number) list

-- The store for the log that trusts these subtrees, and no cosigner.
abbrev pub light_store : List Trusted → Store
light_store list = record {
  log = drill_log_id;
  name = name_with (text_of drill_log_id);
  algorithm_from = None;
  cosigners = [];
  rules = [];
  subtrees = list;
  revoked = [];
}

-- The store trusts the subtrees of the active landmarks of a log.
pub record TrustsActive (h : HashFunction) (s : LogState) (store : Store) : Type 0 where
  pub list : List Trusted
  pub made : store ≡ light_store list
  pub active :
      let l = landmarks_of s.marks s.settings.max_active in
      AreOfLandmarks h s.entries l (active_of l).start (active_of l).end list

-- The entry reads as one of the drill's log, in form one, and 2026-01-01 lies in its validity.
pub record IsDueEntry (entry : Text) : Type 0 where
  pub own : IsOwnEntry drill_log_id entry
  pub form : form_of own.fields ≡ One
  pub begun : own.fields.validity.not_before ≤ℤ pos 1767225600
  pub lasting : pos 1767225600 ≤ℤ own.fields.validity.not_after

-- The log has the drill's id, and its newest entry is that of a drill.
pub record IsDue (h : HashFunction) (s : LogState) : Type 0 where
  pub id : s.settings.id ≡ drill_log_id
  pub newest : IsDrillEntry h s (length s.entries - 1)

-- A certificate without signatures of the newest entry is accepted at 2026-01-01 by a store that
-- trusts the subtrees of the active landmarks, and no cosigner.
pub record IsLit (h : HashFunction) (s : LogState) : Type 0 where
  pub cert : Text
  pub written : IsLightlyWritten h s (length s.entries - 1) cert
  pub store : Store
  pub trusts : TrustsActive h s store
  pub accepted : Accepted
  pub judged : judgement h cert store (pos 1767225600) ≡ Ok accepted
