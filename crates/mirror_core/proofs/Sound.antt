-- A mirror that records make is sound.
use Rattle.std.proofs.Common.{◌≡◌, ℕ, ◌+◌, ◌%◌, ◌^◌, ◌==◌, ◌&&◌, nat_le, nat_lt, not, Bool}
use Rattle.std.proofs.Common.{true, false, List, [], ◌∷◌, ◌++◌, length, Option, Some, None}
use Rattle.std.proofs.Common.{Ok, option_map, refl, subst, arith}
use Rattle.std.specs.List.{AllByRecursion, list_all}
use Rattle.std.proofs.lemmas.Bool.{and_parts, eqb-true, leb-true, ltb-false, ltb-true}
use Rattle.std.proofs.lemmas.List.{length-append}
use Rattle.std.proofs.lemmas.Option.{same_Some}
use Rattle.byte_formats.specs.Readings.{some_or}
use Rattle.byte_formats.specs.Types.{HashFunction, Text}
use Rattle.byte_formats.proofs.Steps.{bind_ok, ok_is, some_or_ok}
use Rattle.byte_formats.proofs.Values.{when_some}
use Rattle.entry_list.specs.Items.{is_key_of}
use Rattle.issuance_log.specs.Batches.{is_large}
use Rattle.issuance_log.specs.Settings.{most_item}
use Rattle.journal_core.specs.Folds.{state_after, taken_from}
use Rattle.mirror_core.specs.Folds.{MirrorState, MirrorStep, begun_mirror, is_mirrorable}
use Rattle.mirror_core.specs.Folds.{mirror_by_step, mirror_fold, mirror_of, mirror_step_in}
use Rattle.mirror_core.specs.Folds.{mirrors_items, mirrors_tiles, new_mirror, next_mirror}
use Rattle.mirror_core.specs.Folds.{no_mirror_step, takes_mirror_step, view_in_mirror}
use Rattle.mirror_core.specs.Records.{mirror_log_in}
use Rattle.mirror_core.specs.Rules.{IsMirrorItem, IsSoundMirror}
use Rattle.mirror_core.proofs.After.{no_mirror}

item_of_test : (h : HashFunction) (x : Text × Text) → is_mirrorable h x ≡ true
    → IsMirrorItem h x
item_of_test h x is =
    let both = and_parts (not (is_large x)) (is_key_of h x.0 x.1) is in
    record {
      few = ltb-false most_item (length x.0 + length x.1) (no_test (is_large x) both.0);
      own = both.1;
    }
  where
    no_test : (b : Bool) → not b ≡ true → b ≡ false
    no_test true e = let wrong : false ≡ true = e in absurd cc
    no_test false e = refl

pub each_item : (h : HashFunction) (items : List (Text × Text))
    → list_all (is_mirrorable h) items ≡ true → AllByRecursion (IsMirrorItem h) items
each_item h [] is = tt
each_item h (x ∷ items) is =
    let both = and_parts (is_mirrorable h x) (list_all (is_mirrorable h) items) is in
    (item_of_test h x both.0, each_item h items both.1)

and_more : (h : HashFunction) (xs ys : List (Text × Text)) → AllByRecursion (IsMirrorItem h) xs
    → AllByRecursion (IsMirrorItem h) ys → AllByRecursion (IsMirrorItem h) (xs ++ ys)
and_more h [] ys one two = two
and_more h (x ∷ xs) ys one two = (one.0, and_more h xs ys one.1 two)

sound_step : (h : HashFunction) (s : MirrorState) (x : MirrorStep) → IsSoundMirror h s
    → takes_mirror_step h (view_in_mirror s) x ≡ true → IsSoundMirror h (mirror_by_step x s)
sound_step h s (mirrors_items items) sound takes =
    let both = and_parts (nat_lt (length s.items + length items) (2 ^ 32))
    (list_all (is_mirrorable h) items) takes in
    let few = ltb-true (length s.items + length items) (2 ^ 32) both.0 in
    let sum = length-append s.items items in
    let tiled = sound.numbers.tiled in
    record {
      numbers = record {
        few = omega (arith, few, sum);
        multiple = sound.numbers.multiple;
        tiled = omega (arith, tiled, sum);
      };
      each = and_more h s.items items sound.each (each_item h items both.1);
    }
sound_step h s (mirrors_tiles size) sound takes =
    let tests = and_parts (size % 256 == 0) (nat_lt s.tiled size && nat_le size (length s.items))
    takes in
    let both = and_parts (nat_lt s.tiled size) (nat_le size (length s.items)) tests.1 in
    record {
      numbers = record {
        few = sound.numbers.few;
        multiple = eqb-true (size % 256) 0 tests.0;
        tiled = leb-true size (length s.items) both.1;
      };
      each = sound.each;
    }
sound_step h s no_mirror_step sound takes = let wrong : false ≡ true = takes in absurd cc

pub sound_next : (h : HashFunction) (s t : MirrorState) (body : Text) → IsSoundMirror h s
    → next_mirror h s body ≡ Some t → IsSoundMirror h t
unfolding next_mirror
sound_next h s t body sound is =
    let x = mirror_step_in body in
    let made = when_some (takes_mirror_step h (view_in_mirror s) x) (Some (mirror_by_step x s)) t is
    in
    subst (IsSoundMirror h) (same_Some (mirror_by_step x s) t made.1)
    (sound_step h s x sound made.0)

sound_taken : (h : HashFunction) (k : ℕ) (s t : MirrorState) (bodies : List Text)
    → IsSoundMirror h s → taken_from (mirror_fold h) k s bodies ≡ Ok t → IsSoundMirror h t
unfolding taken_from
sound_taken h k s t [] sound is = subst (IsSoundMirror h) (ok_is ℕ s t is) sound
sound_taken h k s t (body ∷ bodies) sound is =
    let step = bind_ok (some_or k (next_mirror h s body))
    (λ (u : MirrorState). taken_from (mirror_fold h) (k + 1) u bodies) t is in
    sound_taken h (k + 1) step.0 t bodies
    (sound_next h s step.0 body sound (some_or_ok k (next_mirror h s body) step.0 step.1)) step.2

sound_new : (h : HashFunction) (log : Text) → IsSoundMirror h (new_mirror log)
sound_new h log = record {
  numbers = record { few = omega arith; multiple = refl; tiled = omega arith };
  each = tt;
}

sound_begun : (h : HashFunction) (s : MirrorState) (o : Option Text)
    → option_map new_mirror o ≡ Some s → IsSoundMirror h s
sound_begun h s None is = let wrong : None ≡ Some s = is in absurd cc
sound_begun h s (Some log) is =
    subst (IsSoundMirror h) (same_Some (new_mirror log) s is) (sound_new h log)

pub sound_of : (h : HashFunction) (list : List Text) (t : MirrorState) → mirror_of h list ≡ Ok t
    → IsSoundMirror h t
unfolding state_after begun_mirror
sound_of h [] t is = absurd (no_mirror 0 t is)
sound_of h (first ∷ bodies) t is =
    let step = bind_ok (some_or 0 (begun_mirror first))
    (λ (u : MirrorState). taken_from (mirror_fold h) 1 u bodies) t is in
    sound_taken h 1 step.0 t bodies
    (sound_begun h step.0 (mirror_log_in first)
    (some_or_ok 0 (begun_mirror first) step.0 step.1)) step.2
