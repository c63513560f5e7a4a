-- The store that trusts the active subtrees accepts the certificate without signatures.
use Rattle.std.proofs.Common.{◌≡◌, ◌∙◌, ◌+◌, ◌-◌, ◌<◌, ◌≤◌, ℕ, Bool, true, false, List}
use Rattle.std.proofs.Common.{[], ◌∷◌, length, Option, Some, None, Ok, inl, refl, sym, ap, subst}
use Rattle.std.proofs.Common.{arith, eqb-true, cond}
use Rattle.std.proofs.Common.{slice_index_or}
use Rattle.std.proofs.lemmas.Bool.{and_parts, eqb-false, or_parts}
use Rattle.std.proofs.lemmas.List.Sums.{count_by-le-length}
use Rattle.std.specs.Prelude.{◌==◌, ◌||◌, ◌≤ℤ◌, ℤ, IfSome, nat_lt, option_map, pos}
use Rattle.std.specs.List.{AllByRecursion, IsDistinct}
use Rattle.byte_formats.specs.Types.{Hash, HashFunction, Text}
use Rattle.tree_core.specs.Path.{part_of}
use Rattle.tree_core.specs.Tree.{tree_hash}
use Rattle.tree_core.specs.declared.spans.Cover.{Cover}
use Rattle.tree_core.specs.declared.spans.Span.{Span}
use Rattle.landmarks.specs.Landmarks.{LandmarkList, above_count, active_of, least_of}
use Rattle.landmarks.specs.Landmarks.{landmarks_of, or_second, part_with, subtrees_of}
use Rattle.log_entry.specs.Forms.{form_of}
use Rattle.policy_core.specs.Acceptance.{IsAmong, accepted_by}
use Rattle.policy_core.specs.Judgement.{accepted as accepted_as, is_of, judgement}
use Rattle.policy_core.specs.Stores.{IsOfSubtree, IsValid}
use Rattle.policy_core.specs.declared.answer.Accepted.{Accepted}
use Rattle.policy_core.specs.declared.lists.Trusted.{Trusted}
use Rattle.policy_core.specs.declared.store.Store.{Store}
use Rattle.issuance_log.specs.Folds.{LogState}
use Rattle.authority_core.specs.Acceptance.{AcceptsIn, IsOwnEntry, IsSetUpFor}
use Rattle.authority_core.specs.Acceptance.{StoresAcceptLightly}
use Rattle.authority_core.specs.Certificates.{proof_for}
use Rattle.drill_parties.specs.Ids.{drill_log_id}
use Rattle.drill_core.specs.LightStores.{AreOwn, HasCover, IsDueEntry, IsOwnSubtree}
use Rattle.drill_core.specs.LightStores.{TrustsActive, light_store, with_hash}

-- ---- the store

all_subtrees : (h : HashFunction) (entries : List Text) (list : List Trusted)
    → AllByRecursion (IsOwnSubtree h entries) list → AllByRecursion IsOfSubtree list
all_subtrees h entries [] own = tt
all_subtrees h entries (t ∷ ts) own = (own.0.subtree, all_subtrees h entries ts own.1)

is_valid_light : (h : HashFunction) (entries : List Text) (place : ℕ) (list : List Trusted)
    → AreOwn h entries place list → IsValid (light_store list)
unfolding IsDistinct
is_valid_light h entries place list are = record {
  name = refl;
  few = omega arith;
  cosigners = tt;
  rules = tt;
  subtrees = all_subtrees h entries list are.own;
  different = are.different;
  revoked = tt;
}

same_hash : (h : HashFunction) (entries : List Text) (start end : ℕ) (t : Trusted)
    → IsOwnSubtree h entries t → is_of start end t ≡ true
    → t.hash ≡ tree_hash h (part_of entries start end)
same_hash h entries start end t own is =
    let both = and_parts (t.start == start) (t.end == end) is in
    own.hash ∙ ap (λ (n : ℕ). tree_hash h (part_of entries n t.end)) (eqb-true t.start start both.0)
    ∙ ap (λ (n : ℕ). tree_hash h (part_of entries start n)) (eqb-true t.end end both.1)

no_other : (h : HashFunction) (entries : List Text) (start end : ℕ) (list : List Trusted)
    → AllByRecursion (IsOwnSubtree h entries) list
    → AllByRecursion (λ t. is_of start end t ≡ true
    → t.hash ≡ tree_hash h (part_of entries start end)) list
no_other h entries start end [] own = tt
no_other h entries start end (t ∷ ts) own =
    (same_hash h entries start end t own.0, no_other h entries start end ts own.1)

-- ---- the subtree of the newest landmark

trusts_second : (h : HashFunction) (entries : List Text) (first : Span) (second : Option Span)
    (list : List Trusted) → IsAmong (with_hash h entries first) list
    → IfSome second (λ span. IsAmong (with_hash h entries span) list)
    → IsAmong (with_hash h entries (or_second second first)) list
trusts_second h entries first None list one two = one
trusts_second h entries first (Some span) list one two = two

trusts_part : (h : HashFunction) (entries : List Text) (cover : Cover) (index : ℕ)
    (list : List Trusted) → HasCover h entries cover list
    → IsAmong (with_hash h entries (part_with cover index)) list
trusts_part h entries cover index list has = go (nat_lt index cover.first.end)
  where
    go : (b : Bool) → IsAmong (with_hash h entries
        (cond b cover.first (or_second cover.second cover.first))) list
    go true = has.first
    go false = trusts_second h entries cover.first cover.second list has.first has.second

-- the landmark that is found is active
found_active : (l : LandmarkList) (index number : ℕ) → least_of l index ≡ Some number
    → ((active_of l).start ≤ number) × (number < (active_of l).end)
unfolding least_of
found_active l index number is =
    go ((above_count l index == 0) || (above_count l index == length l.sizes)) refl is
  where
    go : (b : Bool)
        → ((above_count l index == 0) || (above_count l index == length l.sizes)) ≡ b
        → cond b None (Some (l.last + 1 - above_count l index)) ≡ Some number
        → ((active_of l).start ≤ number) × (number < (active_of l).end)
    go true tests is = let wrong : None ≡ Some number = is in cc
    go false tests is =
        let both = or_parts (above_count l index == 0) (above_count l index == length l.sizes)
        tests in
        let some = eqb-false (above_count l index) 0 both.0 in
        let other = eqb-false (above_count l index) (length l.sizes) both.1 in
        let few = count_by-le-length (λ (size : ℕ). nat_lt index size) l.sizes in
        let same : l.last + 1 - above_count l index ≡ number = cc in
        (omega (arith, some, other, few, same), omega (arith, some, other, few, same))

-- ---- the certificate

-- a store accepts the log's certificate in this subtree, if it is set up for it
abbrev Accepts : HashFunction → LogState → ℕ → Span → Text → Text → Type 0
Accepts h s index span cert id =
    let p = proof_for h s index span.start span.end [] in
    let hash = tree_hash h (part_of s.entries span.start span.end) in
    (own : IsOwnEntry id (slice_index_or s.entries index [])) (store : Store) (now : ℤ)
    → IsSetUpFor id index (form_of own.fields) p hash store
    → own.fields.validity.not_before ≤ℤ now → now ≤ℤ own.fields.validity.not_after
    → judgement h cert store now ≡ Ok (accepted_as (accepted_by store p hash) index p hash)

abbrev IsTaken : HashFunction → Text → Store → Type 0
IsTaken h cert store = (a : Accepted) × (judgement h cert store (pos 1767225600) ≡ Ok a)

pub accepted_lightly : (h : HashFunction) (s : LogState) (index : ℕ) (cert : Text) (store : Store)
    → TrustsActive h s store → s.settings.id ≡ drill_log_id
    → IsDueEntry (slice_index_or s.entries index []) → StoresAcceptLightly h s index cert
    → IsTaken h cert store
accepted_lightly h s index cert store trusts id due accepts =
    subst (λ (x : Store). IsTaken h cert x) (sym trusts.made)
    (go (least_of l index) refl accepts)
  where
    l : LandmarkList
    l = landmarks_of s.marks s.settings.max_active

    go : (o : Option ℕ) → least_of l index ≡ o
        → AcceptsIn h s index cert
        (option_map (λ number. part_with (subtrees_of l number) index) o)
        → IsTaken h cert (light_store trusts.list)
    go None is accepts = absurd accepts
    go (Some number) is accepts =
        let span : Span = part_with (subtrees_of l number) index in
        let p = proof_for h s index span.start span.end [] in
        let hash : Hash = tree_hash h (part_of s.entries span.start span.end) in
        let list : List Trusted = trusts.list in
        let active = found_active l index number is in
        let has = trusts.active.has number active.0 active.1 in
        let here : Accepts h s index span cert drill_log_id =
        subst (λ (x : Text). Accepts h s index span cert x) id accepts in (
          accepted_as (accepted_by (light_store list) p hash) index p hash,
          here due.own (light_store list) (pos 1767225600)
              (record {
                valid = is_valid_light h s.entries _ list trusts.active.are;
                log = refl;
                form = sym due.form;
                not_revoked = tt;
                no_other = no_other h s.entries span.start span.end list trusts.active.are.own;
                enough = inl (trusts_part h s.entries (subtrees_of l number) index list has);
              }) due.begun due.lasting,
        )
