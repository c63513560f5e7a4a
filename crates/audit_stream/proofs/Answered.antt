-- The answers of an audit by a summary of its list.
use Rattle.std.proofs.Common.{◌≡◌, ℕ, Bool, true, false, Option, Some, None, refl, sym, ap, ◌∙◌}
use Rattle.std.specs.Prelude.{[], ◌&&◌, length, slice_index_or}
use Rattle.std.specs.Str.{bytes_eq}
use Rattle.byte_formats.specs.Types.{Hash, HashFunction, Text}
use Rattle.tree_core.specs.Path.{part_of}
use Rattle.tree_core.specs.Tree.{tree_hash}
use Rattle.entry_list.specs.Items.{ItemLists}
use Rattle.policy_core.specs.Judgement.{entry_by}
use Rattle.world_core.specs.Audit.{AuditCase, IsAudit, foreign_in, foreign_of, has_own}
use Rattle.world_core.specs.Audit.{is_supported}
use Rattle.world_core.specs.declared.answer.Audit.{Audit}
use Rattle.world_core.specs.declared.answer.Audit.TheVariants.{Foreign, Pair, Stands, Unrecorded}
use Rattle.world_core.specs.declared.wanted.WantedHash.{WantedHash}
use Rattle.audit_stream.specs.Summaries.{AuditsAreOfSummaries, IsSummaryOf, IsTwoStrings}
use Rattle.audit_stream.specs.Summaries.{SummaryParts, answer_from, foreign_by, own_by}
use Rattle.audit_stream.specs.Summaries.{wanted_of_case}

part_is : (h : HashFunction) (items : ItemLists) (w : WantedHash) (s : SummaryParts)
    → s.count ≡ length items.entries
    → s.part_hash ≡ tree_hash h (part_of items.entries w.start w.end)
    → foreign_by (record {
      count = length items.entries;
      part_hash = tree_hash h (part_of items.entries w.start w.end);
      entry = s.entry;
      spki = s.spki;
    }) (Some w) ≡ foreign_by s (Some w)
part_is h items w s count there =
    λ i. foreign_by (record {
      count = sym count i;
      part_hash = sym there i;
      entry = s.entry;
      spki = s.spki;
    }) (Some w)

foreign_is : (h : HashFunction) (items : ItemLists) (wanted : Option WantedHash)
    (index : ℕ) (s : SummaryParts) → IsSummaryOf h items wanted index s
    → foreign_in h items.entries wanted ≡ foreign_by s wanted
foreign_is h items None index s is = refl
foreign_is h items (Some w) index s is = part_is h items w s is.count (is.part_hash w refl)

module _ (h : HashFunction) (x : AuditCase) where
  answers : (there : Option (Hash × Hash)) (supported own : Bool) (answer : Audit)
      → foreign_of h x ≡ there → is_supported x ≡ supported
      → has_own h x.store x.items x.accepted x.cert ≡ own
      → answer_from there supported own x.accepted.index ≡ Some answer → IsAudit h x answer
  answers (Some hashes) supported own (Foreign wanted found) f s o e =
      let one : hashes.0 ≡ wanted = cc in
      let two : hashes.1 ≡ found = cc in
      f ∙ (λ i. Some (one i, two i))
  answers (Some hashes) supported own Unrecorded f s o e = absurd cc
  answers (Some hashes) supported own (Stands index) f s o e = absurd cc
  answers (Some hashes) supported own (Pair one other) f s o e = absurd cc
  answers None false own (Foreign wanted found) f s o e = absurd cc
  answers None false own Unrecorded f s o e = record { list = f; lacks = s }
  answers None false own (Stands index) f s o e = absurd cc
  answers None false own (Pair one other) f s o e = absurd cc
  answers None true true (Foreign wanted found) f s o e = absurd cc
  answers None true true Unrecorded f s o e = absurd cc
  answers None true true (Stands index) f s o e =
      record { list = f; supported = s; decides = (o, cc) }
  answers None true true (Pair one other) f s o e = absurd cc
  answers None true false answer f s o e = absurd cc

  pairs : (there : Option (Hash × Hash)) (supported own : Bool) (answer : Audit)
      → foreign_of h x ≡ there → is_supported x ≡ supported
      → has_own h x.store x.items x.accepted x.cert ≡ own
      → answer_from there supported own x.accepted.index ≡ None → IsAudit h x answer
      → IsTwoStrings answer
  pairs (Some hashes) supported own answer f s o e is = absurd cc
  pairs None false own answer f s o e is = absurd cc
  pairs None true true answer f s o e is = absurd cc
  pairs None true false (Foreign wanted found) f s o e is = absurd (cc (is, f))
  pairs None true false Unrecorded f s o e is = let lacks = is.lacks in absurd (cc (lacks, s))
  pairs None true false (Stands index) f s o e is =
      let has = is.decides.0 in absurd (cc (has, o))
  pairs None true false (Pair one other) f s o e is = tt

pub AuditsAreOfSummaries_always : (h : HashFunction) → AuditsAreOfSummaries h
AuditsAreOfSummaries_always h x s is =
    let f = foreign_is h x.items (wanted_of_case h x) x.accepted.index s is in
    let o : has_own h x.store x.items x.accepted x.cert ≡ own_by h x.store s x.cert =
    ap (λ (entry : Text). bytes_eq entry (entry_by h x.store x.cert)
    && bytes_eq (slice_index_or x.items.keys x.accepted.index []) x.cert.spki) (sym is.entry)
    ∙ ap (λ (spki : Text). bytes_eq s.entry (entry_by h x.store x.cert)
    && bytes_eq spki x.cert.spki)
    (sym is.spki) in
    record {
      foreign = f;
      own = o;
      answer = λ answer e. answers h x _ _ _ answer f refl o e;
      pair = λ answer e. pairs h x _ _ _ answer f refl o e;
    }
