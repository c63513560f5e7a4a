-- The Sign records of a journal count up, and so do its Child records.
use Rattle.std.proofs.Common.{◌≡◌, ℕ, zero, suc, ◌+◌, ◌/◌, ◌^◌, ◌<◌, true, List, []}
use Rattle.std.proofs.Common.{◌∷◌, ◌++◌, length, get_or, slice_get, Option, Some, None, IfSome, Ok}
use Rattle.std.proofs.Common.{option_map, option_and_then, refl, sym, ap, ◌∙◌, subst, arith}
use Rattle.std.proofs.lemmas.Option.{same_Some, slice_get-get_or}
use Rattle.std.proofs.Math.Nat.{div-lt_iff_lt-mul}
use Rattle.byte_formats.specs.Types.{Hash, HashFunction, Text}
use Rattle.byte_formats.specs.Readings.{some_or}
use Rattle.byte_formats.proofs.Steps.{bind_ok, ok_is, some_or_ok}
use Rattle.byte_formats.proofs.Values.{when_some}
use Rattle.hss_keys.specs.Keys.{CountsKeys, SigningKey, SigningState, keys_there}
use Rattle.hss_keys.proofs.Newest.{some_keys}
use Rattle.journal_core.specs.Folds.{state_after, taken_from}
use Rattle.lms_core.specs.Heights.{height}
use Rattle.lms_core.specs.declared.heights.LmsType.{LmsType}
use Rattle.cosigner_core.specs.Counts.{AreCounted, AreNumbered, CountsUp, FollowsItsTree}
use Rattle.cosigner_core.specs.Counts.{child_before, children_in, children_of}
use Rattle.cosigner_core.specs.Counts.{index_before, indices_in, indices_of}
use Rattle.cosigner_core.specs.Folds.{CosignerState, after_step, begun_cosigner, cosigner_fold}
use Rattle.cosigner_core.specs.Folds.{cosigner_of, new_cosigner, next_state}
use Rattle.cosigner_core.specs.Folds.{progress_of, terms_by, with_progress}
use Rattle.cosigner_core.specs.Progress.{is_allowed, with_step}
use Rattle.cosigner_core.specs.Records.{cosigner_in, step_in}
use Rattle.cosigner_core.specs.declared.step.Step.{Step}
use Rattle.cosigner_core.specs.declared.step.Step.TheVariants.{Advance, Child, Sign}
use Rattle.cosigner_core.specs.declared.settings.CosignerSettings.{CosignerSettings}
use Rattle.cosigner_core.proofs.Brought.{child_takes}
use Rattle.cosigner_core.proofs.FirstRecords.{begins_counting}
use Rattle.cosigner_core.proofs.KeySteps.{counts_after, sign_is}

-- after a key: these numbers of one-time keys and of lower trees, and then this key
pub record CountsFrom (s : SigningState) (indices children : List ℕ) (t : SigningState)
    : Type 0 where
  pub each : (i index : ℕ) → slice_get indices i ≡ Some index → index ≡ s.next + i
  pub count : t.next ≡ s.next + length indices
  pub each_child : (i child : ℕ) → slice_get children i ≡ Some child → child ≡ s.children + i
  pub made : t.children ≡ s.children + length children
  pub key : t.key ≡ s.key
  pub sound : CountsKeys s → CountsKeys t

-- no number
counts_none : (s t : SigningState) → s ≡ t → CountsFrom s [] [] t
counts_none s t same =
    subst (CountsFrom s [] []) same (record {
      each = λ i index none. let wrong : None ≡ Some index = none in absurd cc;
      count = omega arith;
      each_child = λ i child none. let wrong : None ≡ Some child = none in absurd cc;
      made = omega arith;
      key = refl;
      sound = λ counts. counts;
    })

-- one number before others, the first of which is the next one
one_before : (first : ℕ) (numbers : List ℕ) → ((i number : ℕ)
    → slice_get numbers i ≡ Some number → number ≡ first + 1 + i) → (i number : ℕ)
    → slice_get (first ∷ numbers) i ≡ Some number → number ≡ first + i
one_before first numbers rest zero number is =
    let same = same_Some first number is in omega arith
one_before first numbers rest (suc i) number is =
    let next = rest i number is in omega arith

counts_on : (h : HashFunction) (s : CosignerState) (t : SigningState) (step : Step)
    (indices children : List ℕ) → is_allowed h (terms_by s) (progress_of s) step ≡ true
    → CountsFrom (with_progress s (with_step (progress_of s) step)).key indices children t
    → CountsFrom s.key (index_before (Some step) indices) (child_before (Some step) children) t
counts_on h s t (Advance size root proof) indices children is counts = counts
counts_on h s t (Sign index start end hash proof) indices children is counts =
    let next = (sign_is h s index start end hash proof is).next in
    let count = counts.count in record {
      each = subst (λ (n : ℕ). (i number : ℕ) → slice_get (index ∷ indices) i ≡ Some number
          → number ≡ n + i) next (one_before index indices
          (subst (λ (n : ℕ). (i number : ℕ) → slice_get indices i ≡ Some number
          → number ≡ n + 1 + i) (sym next) counts.each));
      count = omega arith;
      each_child = counts.each_child;
      made = counts.made;
      key = counts.key;
      sound = λ sound. counts.sound
          (counts_after h s (Sign index start end hash proof) sound is);
    }
counts_on h s t (Child child low) indices children is counts =
    let next = (child_takes s child low is).number in
    let made = counts.made in record {
      each = counts.each;
      count = counts.count;
      each_child = subst (λ (n : ℕ). (i number : ℕ) → slice_get (child ∷ children) i ≡ Some number
          → number ≡ n + i) next (one_before child children
          (subst (λ (n : ℕ). (i number : ℕ) → slice_get children i ≡ Some number
          → number ≡ n + 1 + i) (sym next) counts.each_child));
      made = omega arith;
      key = counts.key;
      sound = λ sound. counts.sound (counts_after h s (Child child low) sound is);
    }

counts_step : (h : HashFunction) (s u : CosignerState) (t : SigningState) (said : Option Step)
    (indices children : List ℕ) → option_and_then (after_step h s) said ≡ Some u
    → CountsFrom u.key indices children t
    → CountsFrom s.key (index_before said indices) (child_before said children) t
counts_step h s u t None indices children is counts =
    let wrong : None ≡ Some u = is in absurd cc
counts_step h s u t (Some step) indices children is counts =
    let next = with_progress s (with_step (progress_of s) step) in
    let made = when_some (is_allowed h (terms_by s) (progress_of s) step) (Some next) u is in
    counts_on h s t step indices children made.0
    (subst (λ (v : CosignerState). CountsFrom v.key indices children t)
    (sym (same_Some next u made.1)) counts)

pub counts_from : (h : HashFunction) (k : ℕ) (s : CosignerState) (bodies : List Text)
    (t : CosignerState) → taken_from (cosigner_fold h) k s bodies ≡ Ok t
    → CountsFrom s.key (indices_in bodies) (children_in bodies) t.key
unfolding taken_from indices_in children_in next_state
counts_from h k s [] t is =
    counts_none s.key t.key (ap (λ (u : CosignerState). u.key) (ok_is ℕ s t is))
counts_from h k s (body ∷ bodies) t is =
    let step = bind_ok (some_or k (next_state h s body))
    (λ (u : CosignerState). taken_from (cosigner_fold h) (k + 1) u bodies) t is in
    counts_step h s step.0 t.key (step_in body) (indices_in bodies) (children_in bodies)
    (some_or_ok k (next_state h s body) step.0 step.1)
    (counts_from h (k + 1) step.0 bodies t step.2)

-- a first record begins with nothing counted
record BeginsCounting (s : SigningState) : Type 0 where
  pub next : s.next ≡ 0
  pub children : s.children ≡ 0
  pub sound : CountsKeys s

begun : (h : HashFunction) (first : Text) (s : CosignerState)
    → begun_cosigner h first ≡ Some s → BeginsCounting s.key
unfolding begun_cosigner
begun h first s is = go (cosigner_in first) refl is
  where
    go : (o : Option (CosignerSettings × Text)) → cosigner_in first ≡ o
        → option_map (λ x. new_cosigner h x.0 x.1) o ≡ Some s → BeginsCounting s.key
    go None read is = let wrong : None ≡ Some s = is in absurd cc
    go (Some x) read is =
        subst (λ (v : CosignerState). BeginsCounting v.key)
        (same_Some (new_cosigner h x.0 x.1) s is)
        (record { next = refl; children = refl; sound = begins_counting first x.0 x.1 read })

from_none : (first : ℕ) (numbers : List ℕ) → first ≡ 0 → ((i number : ℕ)
    → slice_get numbers i ≡ Some number → number ≡ first + i) → AreNumbered numbers
from_none first numbers none each = λ i number is. let e = each i number is in omega arith

-- A cosigner that records make has a key that counts, and its records count up.
pub counts_up : (h : HashFunction) (list : List Text) (s : CosignerState)
    → cosigner_of h list ≡ Ok s → CountsUp list s × CountsKeys s.key
unfolding state_after indices_of children_of
counts_up h [] s is = cc
counts_up h (first ∷ bodies) s is =
    let step = bind_ok (some_or 0 (begun_cosigner h first))
    (λ (u : CosignerState). taken_from (cosigner_fold h) 1 u bodies) s is in
    let counts = counts_from h 1 step.0 bodies s step.2 in
    let start = begun h first step.0 (some_or_ok 0 (begun_cosigner h first) step.0 step.1) in
    let sound = counts.sound start.sound in
    let next = start.next in
    let none = start.children in
    let count = counts.count in
    let made = counts.made in (
      record {
        each = from_none step.0.key.next (indices_in bodies) next counts.each;
        count = omega arith;
        few = sound.to;
        each_child = from_none step.0.key.children (children_in bodies) none counts.each_child;
        children = omega arith;
      },
      sound,
    )

-- So do those of the records after a new cosigner.
pub records_count_up : (h : HashFunction) (s : CosignerSettings) (secret : Text)
    (bodies : List Text) (t : CosignerState)
    → taken_from (cosigner_fold h) 1 (new_cosigner h s secret) bodies ≡ Ok t → AreCounted bodies
records_count_up h s secret bodies t is =
    let new : CosignerState = new_cosigner h s secret in
    let counts = counts_from h 1 new bodies t is in record {
      signs = from_none new.key.next (indices_in bodies) refl counts.each;
      children = from_none new.key.children (children_in bodies) refl counts.each_child;
    }

-- ---- a Sign among them

-- a record among others was taken
record IsTaken (h : HashFunction) (s : CosignerState) (before : List Text) (body : Text)
    : Type 0 where
  pub old : CosignerState
  pub new : CosignerState
  pub counts : CountsFrom s.key (indices_in before) (children_in before) old.key
  pub takes : option_and_then (after_step h old) (step_in body) ≡ Some new

taken_among : (h : HashFunction) (k : ℕ) (s : CosignerState) (before : List Text) (body : Text)
    (after : List Text) (t : CosignerState)
    → taken_from (cosigner_fold h) k s (before ++ body ∷ after) ≡ Ok t → IsTaken h s before body
unfolding taken_from indices_in children_in next_state
taken_among h k s [] body after t is =
    let step = bind_ok (some_or k (next_state h s body))
    (λ (u : CosignerState). taken_from (cosigner_fold h) (k + 1) u after) t is in
    record {
      old = s;
      new = step.0;
      counts = counts_none s.key s.key refl;
      takes = some_or_ok k (next_state h s body) step.0 step.1;
    }
taken_among h k s (one ∷ before) body after t is =
    let step = bind_ok (some_or k (next_state h s one))
    (λ (u : CosignerState). taken_from (cosigner_fold h) (k + 1) u (before ++ body ∷ after)) t is in
    let rest = taken_among h (k + 1) step.0 before body after t step.2 in
    record {
      old = rest.old;
      new = rest.new;
      counts = counts_step h s step.0 rest.old.key (step_in one) (indices_in before)
          (children_in before) (some_or_ok k (next_state h s one) step.0 step.1) rest.counts;
      takes = rest.takes;
    }

-- each number below the length of such a list stands in it
stands : (numbers : List ℕ) (n : ℕ) → AreNumbered numbers → n < length numbers
    → slice_get numbers n ≡ Some n
stands numbers n each there =
    let found = slice_get-get_or numbers n 0 there in
    found ∙ ap Some (each n (get_or numbers n 0) found)

has_tree : (lms : LmsType) (low : Option LmsType) (numbers : List ℕ) (index : ℕ)
    → AreNumbered numbers → index < keys_there lms low (length numbers)
    → IfSome low (λ l. slice_get numbers (index / 2 ^ height l) ≡ Some (index / 2 ^ height l))
has_tree lms None numbers index each there = tt
has_tree lms (Some l) numbers index each there =
    stands numbers (index / 2 ^ height l) each ((div-lt_iff_lt-mul (some_keys l)).1 there)

pub follows_tree : (h : HashFunction) (s : CosignerSettings) (secret : Text)
    (before : List Text) (body : Text) (after : List Text) (t : CosignerState)
    (index start end : ℕ) (hash : Hash) (proof : List Hash)
    → taken_from (cosigner_fold h) 1 (new_cosigner h s secret) (before ++ body ∷ after) ≡ Ok t
    → step_in body ≡ Some (Sign index start end hash proof)
    → FollowsItsTree s.lms s.low before index
follows_tree h s secret before body after t index start end hash proof is said =
    let new : CosignerState = new_cosigner h s secret in
    let taken = taken_among h 1 new before body after t is in
    let old = taken.old in
    let step : Step = Sign index start end hash proof in
    let takes : option_and_then (after_step h old) (Some step) ≡ Some taken.new =
    ap (option_and_then (after_step h old)) (sym said) ∙ taken.takes in
    let made = when_some (is_allowed h (terms_by old) (progress_of old) step)
    (Some (with_progress old (with_step (progress_of old) step))) taken.new takes in
    let signs = sign_is h old index start end hash proof made.0 in
    let count = taken.counts.count in
    let trees = taken.counts.made in
    let some : old.key.children ≡ length (children_in before) = omega arith in
    let there : index < keys_there s.lms s.low (length (children_in before)) =
    subst (λ (n : ℕ). index < keys_there s.lms s.low n) some
    (subst (λ (k : SigningKey). index < keys_there k.top.lms k.low old.key.children)
    taken.counts.key signs.there) in
    let next = signs.next in
    record {
      next = omega arith;
      there = there;
      tree = has_tree s.lms s.low (children_in before) index
          (from_none new.key.children (children_in before) refl taken.counts.each_child) there;
    }
