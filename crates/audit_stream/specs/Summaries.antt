-- What an audit asks of a list, and its answer from that.
use Rattle.std.specs.Prelude.{◌≡◌, ℕ, ◌&&◌, ◌||◌, not, nat_lt, List, Bool, true, false, [], ◌∷◌}
use Rattle.std.specs.Prelude.{length, slice_index_or, Option, Some, None, if◌then◌else◌}
use Rattle.std.specs.Str.{bytes_eq}
use Rattle.byte_formats.specs.Types.{Hash, HashFunction, Text}
use Rattle.cert_fields.specs.Certificate.{Parts}
use Rattle.tree_core.specs.Path.{part_of}
use Rattle.tree_core.specs.Tree.{tree_hash}
use Rattle.policy_core.specs.Judgement.{entry_by}
use Rattle.policy_core.specs.declared.store.Store.{Store}
use Rattle.entry_list.specs.Items.{ItemLists}
use Rattle.world_core.specs.Audit.{AuditCase, IsAudit, foreign_of, has_own, is_supported}
use Rattle.world_core.specs.Audit.{wanted_hash}
use Rattle.world_core.specs.declared.answer.Audit.{Audit}
use Rattle.world_core.specs.declared.answer.Audit.TheVariants.{Foreign, Pair, Stands, Unrecorded}
use Rattle.world_core.specs.declared.wanted.WantedHash.{WantedHash}
use Rattle.audit_stream.specs.declared.asking.Summary.{Summary}

-- How many entries a list has, the tree hash of a part of them, and the item at an index.
pub record SummaryParts : Type 0 where
  pub count : ℕ
  pub part_hash : Hash
  pub entry : Text
  pub spki : Text

abbrev pub summary_parts : Summary → SummaryParts
summary_parts s = record {
  count = s.count;
  part_hash = s.part_hash;
  entry = s.entry.now;
  spki = s.spki.now;
}

-- What a list is asked for: where the part that is wanted begins and ends, and the index.
abbrev pub asked_for : Option WantedHash → ℕ → List ℕ
asked_for None index = 0 ∷ 0 ∷ index ∷ []
asked_for (Some w) index = w.start ∷ w.end ∷ index ∷ []

-- This is the summary of a list, for the part that is wanted, if any, and for an index.
pub record IsSummaryOf (h : HashFunction) (items : ItemLists) (wanted : Option WantedHash)
    (index : ℕ) (s : SummaryParts) : Type 0 where
  pub count : s.count ≡ length items.entries
  pub part_hash : (w : WantedHash) → wanted ≡ Some w
      → s.part_hash ≡ tree_hash h (part_of items.entries w.start w.end)
  pub entry : s.entry ≡ slice_index_or items.entries index []
  pub spki : s.spki ≡ slice_index_or items.keys index []

-- The hash that is wanted and the one that is there, where the list is too short or they differ.
abbrev pub foreign_by : SummaryParts → Option WantedHash → Option (Hash × Hash)
foreign_by s None = None
foreign_by s (Some w) =
    if nat_lt s.count w.end || not (bytes_eq s.part_hash w.hash) then Some (w.hash, s.part_hash)
    else None

-- The item at the index is the certificate's entry, in the form that the store gives it, with its
-- key.
abbrev pub own_by : HashFunction → Store → SummaryParts → Parts → Bool
own_by h store s c = bytes_eq s.entry (entry_by h store c) && bytes_eq s.spki c.spki

-- The answer, if it isn't a pair: what is foreign, whether the acceptance is supported, and whether
-- the list has the item.
abbrev pub answer_from : Option (Hash × Hash) → Bool → Bool → ℕ → Option Audit
answer_from (Some hashes) supported own index = Some (Foreign hashes.0 hashes.1)
answer_from None false own index = Some Unrecorded
answer_from None true true index = Some (Stands index)
answer_from None true false index = None

-- What is wanted of the list of a case.
abbrev pub wanted_of_case : HashFunction → AuditCase → Option WantedHash
wanted_of_case h x = wanted_hash h x.accepted x.kept x.accepted.by

-- The answer of the case by a summary of its list.
abbrev pub answer_by : HashFunction → AuditCase → SummaryParts → Option Audit
answer_by h x s =
    answer_from (foreign_by s (wanted_of_case h x)) (is_supported x) (own_by h x.store s x.cert)
    x.accepted.index

-- The answer is two strings.
abbrev pub IsTwoStrings : Audit → Type 0
IsTwoStrings (Foreign wanted found) = ⊥
IsTwoStrings Unrecorded = ⊥
IsTwoStrings (Stands index) = ⊥
IsTwoStrings (Pair one other) = Unit {0}

-- The answers of an audit, by a summary of its list.
pub record FollowsFrom (h : HashFunction) (x : AuditCase) (s : SummaryParts) : Type 0 where
  pub foreign : foreign_of h x ≡ foreign_by s (wanted_of_case h x)
  pub own : has_own h x.store x.items x.accepted x.cert ≡ own_by h x.store s x.cert
  pub answer : (answer : Audit) → answer_by h x s ≡ Some answer → IsAudit h x answer
  pub pair : (answer : Audit) → answer_by h x s ≡ None → IsAudit h x answer → IsTwoStrings answer

abbrev pub AuditsAreOfSummaries : HashFunction → Type 0
AuditsAreOfSummaries h = (x : AuditCase) (s : SummaryParts)
    → IsSummaryOf h x.items (wanted_of_case h x) x.accepted.index s → FollowsFrom h x s
