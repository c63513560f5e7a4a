-- The records of a mirror, each by its own rule; and the items that they determine.
use Rattle.std.proofs.Common.{◌≡◌, inl, inr, ℕ, ◌+◌, ◌%◌, ◌^◌, ◌==◌, ◌&&◌, nat_le}
use Rattle.std.proofs.Common.{nat_lt, not, Bool, true, false, List, [], ◌∷◌, ◌++◌, length, Option}
use Rattle.std.proofs.Common.{Some, None, Ok, option_map, refl, ap, sym, ◌∙◌}
use Rattle.std.proofs.Common.{arith, if◌then◌else◌}
use Rattle.std.specs.List.{AllByRecursion, list_all}
use Rattle.std.proofs.lemmas.Bool.{and_parts, eqb-true, le-ltb, leb-true, ltb-true}
use Rattle.std.proofs.lemmas.Option.{same_Some}
use Rattle.byte_formats.specs.Offsets.{IsBytes}
use Rattle.byte_formats.specs.Readings.{some_or}
use Rattle.byte_formats.specs.Types.{HashFunction, Text}
use Rattle.byte_formats.proofs.Steps.{bind_ok, some_or_ok}
use Rattle.byte_formats.proofs.Values.{when_some}
use Rattle.entry_list.specs.Items.{is_key_of}
use Rattle.issuance_log.specs.Records.{tiled_in, tiles_tag}
use Rattle.issuance_log.specs.Settings.{most_item}
use Rattle.issuance_log.proofs.Encoded.{size_takes}
use Rattle.journal_core.specs.Folds.{state_after, taken_from}
use Rattle.mirror_core.specs.Folds.{MirrorState, MirrorStep, begun_mirror, is_mirrorable}
use Rattle.mirror_core.specs.Folds.{mirror_by_step, mirror_fold, mirror_of, mirror_step}
use Rattle.mirror_core.specs.Folds.{mirror_step_in, mirror_with, mirrors_items, mirrors_tiles}
use Rattle.mirror_core.specs.Folds.{new_mirror, next_mirror, no_mirror_step, takes_mirror_step}
use Rattle.mirror_core.specs.Folds.{view_in_mirror}
use Rattle.mirror_core.specs.Records.{all_mirrored, mirror_log_in}
use Rattle.mirror_core.specs.Records.{mirrored_by, mirrored_in}
use Rattle.mirror_core.specs.Rules.{IsFirstOfMirror, IsMirrorItem}
use Rattle.mirror_core.specs.Rules.{IsNextOfMirror}
use Rattle.mirror_core.proofs.After.{following_more, no_mirror}
use Rattle.mirror_core.proofs.Changes.{all_taken}
use Rattle.mirror_core.proofs.Encoded.{batch_takes, mirror_again, mirror_no_batch, mirror_takes}
use Rattle.mirror_core.proofs.Keeping.{no_items, rebuilt}
use Rattle.mirror_core.proofs.Sound.{each_item}
use Rattle.mirror_core.proofs.Views.{next_batched, next_tiled, says_items, says_tiles}

-- ---- the first record

pub is_first : (body : Text) (s : MirrorState) → IsFirstOfMirror body s
    → begun_mirror body ≡ Some s
unfolding begun_mirror
is_first body s is =
    ap (λ (b : Text). option_map new_mirror (mirror_log_in b)) is.encoded
    ∙ ap (option_map new_mirror) (mirror_again is.log is.id) ∙ ap Some (sym is.made)

pub first_is : (body : Text) (s : MirrorState) → IsBytes body → begun_mirror body ≡ Some s
    → IsFirstOfMirror body s
unfolding begun_mirror
first_is body s bytes is = go (mirror_log_in body) refl is
  where
    go : (o : Option Text) → mirror_log_in body ≡ o → option_map new_mirror o ≡ Some s
        → IsFirstOfMirror body s
    go None was e = let wrong : None ≡ Some s = e in absurd cc
    go (Some log) was e =
        let took = mirror_takes body log bytes was in
        record {
          log = log;
          encoded = took.0;
          id = took.1;
          made = sym (same_Some (new_mirror log) s e);
        }

-- ---- a later record

test_of_item : (h : HashFunction) (x : Text × Text) → IsMirrorItem h x
    → is_mirrorable h x ≡ true
test_of_item h x is =
    ap (λ (b : Bool). not b && is_key_of h x.0 x.1)
    (le-ltb most_item (length x.0 + length x.1) is.few) ∙ is.own

each_test : (h : HashFunction) (items : List (Text × Text))
    → AllByRecursion (IsMirrorItem h) items → list_all (is_mirrorable h) items ≡ true
each_test h [] is = refl
each_test h (x ∷ items) is =
    ap (λ (b : Bool). b && list_all (is_mirrorable h) items) (test_of_item h x is.0)
    ∙ each_test h items is.1

pub is_next : (h : HashFunction) (s : MirrorState) (body : Text) (t : MirrorState)
    → IsNextOfMirror h s body t → next_mirror h s body ≡ Some t
is_next h s body t (inl is) =
    ap (next_mirror h s) is.encoded
    ∙ next_batched h s is.items is.batch
    (all_taken h (view_in_mirror s) is.items is.few (each_test h is.items is.each))
    ∙ ap Some (sym is.made)
is_next h s body t (inr is) =
    ap (next_mirror h s) is.encoded
    ∙ next_tiled h s is.size is.fits is.multiple is.above is.within ∙ ap Some (sym is.made)

-- by what the record says
by_step : (h : HashFunction) (s t : MirrorState) (body : Text) (x : MirrorStep)
    → mirror_step_in body ≡ x → next_mirror h s body ≡ Some t
    → (takes_mirror_step h (view_in_mirror s) x ≡ true) × (mirror_by_step x s ≡ t)
unfolding next_mirror
by_step h s t body x says is =
    let made = when_some (takes_mirror_step h (view_in_mirror s) x) (Some (mirror_by_step x s)) t
    (sym (ap (λ (y : MirrorStep). if takes_mirror_step h (view_in_mirror s) y
    then Some (mirror_by_step y s) else None) says) ∙ is) in
    (made.0, same_Some (mirror_by_step x s) t made.1)

pub next_is : (h : HashFunction) (s : MirrorState) (body : Text) (t : MirrorState)
    → IsBytes body → next_mirror h s body ≡ Some t → IsNextOfMirror h s body t
next_is h s body t bytes is = go (mirrored_in body) (tiled_in body) refl refl
  where
    go : (items : Option (List (Text × Text))) (size : Option ℕ) → mirrored_in body ≡ items
        → tiled_in body ≡ size → IsNextOfMirror h s body t
    go (Some items) size one two =
        let took = batch_takes body items bytes one in
        let made = by_step h s t body (mirrors_items items) (says_items body items one) is in
        let both = and_parts (nat_lt (length s.items + length items) (2 ^ 32))
        (list_all (is_mirrorable h) items) made.0 in
        inl (record {
          items = items;
          encoded = took.0;
          batch = took.1;
          few = ltb-true (length s.items + length items) (2 ^ 32) both.0;
          each = each_item h items both.1;
          made = sym made.1;
        })
    go None (Some size) one two =
        let took = size_takes tiles_tag (omega arith) body size bytes two in
        let made = by_step h s t body (mirrors_tiles size) (says_tiles body size one two) is in
        let tests = and_parts (size % 256 == 0)
        (nat_lt s.tiled size && nat_le size (length s.items)) made.0 in
        let both = and_parts (nat_lt s.tiled size) (nat_le size (length s.items)) tests.1 in
        inr (record {
          size = size;
          encoded = took.0;
          fits = took.1;
          multiple = eqb-true (size % 256) 0 tests.0;
          above = ltb-true s.tiled size both.0;
          within = leb-true size (length s.items) both.1;
          made = sym made.1;
        })
    go None None one two =
        let says = ap (λ o. mirror_step o (tiled_in body)) one ∙ ap (mirror_step None) two in
        let made = by_step h s t body no_mirror_step says is in
        let wrong : false ≡ true = made.0 in absurd cc

-- ---- the items of all records

-- the first record has none
begun_none : (body : Text) (s : MirrorState) (o : Option Text) → mirror_log_in body ≡ o
    → option_map new_mirror o ≡ Some s → (s.items ≡ []) × (mirrored_by body ≡ [])
begun_none body s None was is = let wrong : None ≡ Some s = is in absurd cc
begun_none body s (Some log) was is = (
  sym (ap (λ (u : MirrorState). u.items) (same_Some (new_mirror log) s is)),
  no_items body (mirror_no_batch body log was),
)

all_items : (h : HashFunction) (list : List Text) (t : MirrorState) → mirror_of h list ≡ Ok t
    → all_mirrored list ≡ t.items
unfolding state_after begun_mirror
all_items h [] t is = absurd (no_mirror 0 t is)
all_items h (first ∷ bodies) t is =
    let step = bind_ok (some_or 0 (begun_mirror first))
    (λ (u : MirrorState). taken_from (mirror_fold h) 1 u bodies) t is in
    let none = begun_none first step.0 (mirror_log_in first) refl
    (some_or_ok 0 (begun_mirror first) step.0 step.1) in
    ap (λ (l : List (Text × Text)). l ++ all_mirrored bodies) (none.1 ∙ sym none.0)
    ∙ sym (following_more h 1 step.0 t bodies step.2).items

pub shown_so : (h : HashFunction) (list : List Text) (s : MirrorState) → mirror_of h list ≡ Ok s
    → mirror_with (view_in_mirror s) list ≡ s
shown_so h list s is = rebuilt s (all_mirrored list) (all_items h list s is)
