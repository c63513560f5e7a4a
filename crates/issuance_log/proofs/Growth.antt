-- A log with one item, one landmark or other tiles more is sound.
use Rattle.std.proofs.Common.{◌≡◌, ◌⊎◌, inl, inr, ℕ, suc, ◌+◌, ◌-◌, ◌%◌, ◌^◌, ◌<◌, ◌≤◌, List, []}
use Rattle.std.proofs.Common.{◌∷◌, ◌++◌, length, get_or, Option, Some, None, IfSome, Bool, true}
use Rattle.std.proofs.Common.{false, refl, subst, ap, sym, ◌∙◌, arith}
use Rattle.std.specs.Prelude.{if◌then◌else◌, is_none, nat_le}
use Rattle.std.proofs.lemmas.Bool.Decides.{nat_tests}
use Rattle.std.proofs.lemmas.List.{length-append, length_push, get_or_append_left}
use Rattle.std.proofs.Math.Seq.{get_or-append_seam}
use Rattle.byte_formats.specs.Types.{Text, HashFunction}
use Rattle.log_entry.specs.Forms.{form_at}
use Rattle.log_entry.specs.declared.entry.Form.{Form}
use Rattle.log_entry.specs.declared.entry.Form.TheVariants.{One, Two}
use Rattle.issuance_log.specs.Folds.{LogState, LogView, log_form, more_entries, one_item_more}
use Rattle.issuance_log.specs.Folds.{one_mark_more}
use Rattle.issuance_log.specs.Folds.{switched_now, tiled_to, view_in, with_item, with_switch}
use Rattle.issuance_log.specs.Marks.{last_mark, AreRising}
use Rattle.issuance_log.specs.Sound.{HasSoundNumbers, IsItem, IsSound}

last_after : (mark other : ℕ) (marks : List ℕ)
    → last_mark (mark ∷ other ∷ marks) ≡ last_mark (other ∷ marks)
last_after mark other marks =
    let place : length (mark ∷ other ∷ marks) - 1 ≡ suc (length (other ∷ marks) - 1) =
    omega arith in
    ap (λ (n : ℕ). get_or (mark ∷ other ∷ marks) n 0) place

-- the landmarks rise up to any greater size
rising_on : (from to later : ℕ) (marks : List ℕ) → to ≤ later → AreRising from to marks
    → AreRising from later marks
rising_on from to later [] more is = omega (arith, is)
rising_on from to later (mark ∷ marks) more is = (is.0, rising_on mark to later marks more is.1)

rises : (from to : ℕ) (marks : List ℕ) → AreRising from to marks → from ≤ to
rises from to [] is = is
rises from to (mark ∷ marks) is = let rest = rises mark to marks is.1 in omega (arith, is.0)

-- and so they do with one more at a size above the last
rising_with : (from to : ℕ) (marks : List ℕ) → AreRising from to marks → from < to
    → last_mark marks < to → AreRising from to (marks ++ to ∷ [])
rising_with from to [] is above last = (above, omega arith)
rising_with from to (mark ∷ []) is above last = (is.0, (last, omega arith))
rising_with from to (mark ∷ other ∷ marks) is above last =
    let rest = rises other to marks is.1.1 in (
      is.0,
      rising_with mark to (other ∷ marks) is.1 (omega (arith, is.1.0))
          (subst (λ (n : ℕ). n < to) (last_after mark other marks) last),
    )

last_within : (from to : ℕ) (marks : List ℕ) → AreRising from to marks → last_mark marks ≤ to
last_within from to [] is = omega arith
last_within from to (mark ∷ []) is = is.1
last_within from to (mark ∷ other ∷ marks) is =
    subst (λ (n : ℕ). n ≤ to) (sym (last_after mark other marks))
    (last_within mark to (other ∷ marks) is.1)

-- the last landmark is no larger than the log, whose size fits eight bytes
pub last_in : (v : LogView) → HasSoundNumbers v → last_mark v.marks ≤ v.size
last_in v is = last_within 0 v.size v.marks is.marks

pub size_fits : (v : LogView) → HasSoundNumbers v → v.size < 2 ^ 32
size_fits v is =
    let few = is.few in
    let limit = is.allowed.few in
    omega arith

-- a size that a log had is one that it had before one more entry too
within_later : (switched : Option ℕ) (size : ℕ) → IfSome switched (λ index. index ≤ size)
    → IfSome switched (λ index. index ≤ size + 1)
within_later None size is = tt
within_later (Some index) size is = omega (arith, is)

pub none_is : {A : Type 0} (o : Option A) → is_none o ≡ true → o ≡ None
none_is None is = refl
none_is (Some x) is = let wrong : false ≡ true = is in absurd cc

pub numbers_marked : (v : LogView) → HasSoundNumbers v → last_mark v.marks < v.size
    → HasSoundNumbers (one_mark_more v)
numbers_marked v is above = record {
  allowed = is.allowed;
  some = is.some;
  few = is.few;
  marks = rising_with 0 v.size v.marks is.marks is.some above;
  multiple = is.multiple;
  tiled = is.tiled;
  switched = is.switched;
}

pub numbers_with : (v : LogView) → HasSoundNumbers v → v.size < v.settings.limit
    → HasSoundNumbers (one_item_more v)
numbers_with v is capacity = record {
  allowed = is.allowed;
  some = omega (arith, is.some);
  few = omega (arith, capacity);
  marks = rising_on 0 v.size (v.size + 1) v.marks (omega arith) is.marks;
  multiple = is.multiple;
  tiled = omega (arith, is.tiled);
  switched = within_later v.switched v.size is.switched;
}

pub numbers_more : (v : LogView) (count : ℕ) → HasSoundNumbers v
    → v.size + count ≤ v.settings.limit → HasSoundNumbers (more_entries count v)
numbers_more v count is capacity = record {
  allowed = is.allowed;
  some = omega (arith, is.some);
  few = capacity;
  marks = rising_on 0 v.size (v.size + count) v.marks (omega arith) is.marks;
  multiple = is.multiple;
  tiled = omega (arith, is.tiled);
  switched = within_more v.switched v.size count is.switched;
}
  where
    within_more : (switched : Option ℕ) (size more : ℕ) → IfSome switched (λ index. index ≤ size)
        → IfSome switched (λ index. index ≤ size + more)
    within_more None size more within = tt
    within_more (Some index) size more within = omega (arith, within)

pub numbers_tiled : (v : LogView) (size : ℕ) → HasSoundNumbers v → size % 256 ≡ 0
    → size ≤ v.size → HasSoundNumbers (tiled_to size v)
numbers_tiled v size is multiple within = record {
  allowed = is.allowed;
  some = is.some;
  few = is.few;
  marks = is.marks;
  multiple = multiple;
  tiled = within;
  switched = is.switched;
}

pub numbers_switched : (v : LogView) → HasSoundNumbers v → HasSoundNumbers (switched_now v)
numbers_switched v is = record {
  allowed = is.allowed;
  some = is.some;
  few = is.few;
  marks = is.marks;
  multiple = is.multiple;
  tiled = is.tiled;
  switched = omega arith;
}

-- a log with one item more is sound, and one with other numbers
pub sound_with : (h : HashFunction) (s : LogState) (entry key : Text) → IsSound h s
    → length s.entries < s.settings.limit → IsItem h (log_form (view_in s)) entry key
    → IsSound h (with_item entry key s)
sound_with h s entry key is few item = record {
  numbers = subst HasSoundNumbers
      (ap (λ (n : ℕ). record {
        settings = s.settings;
        size = n;
        marks = s.marks;
        tiled = s.tiled;
        switched = s.switched;
      }) (sym (length_push s.entries entry)))
      (numbers_with (view_in s) is.numbers few);
  even = simp length-append (omega (arith, is.even));
  first_entry = get_or_append_left s.entries (entry ∷ []) [] 0 (omega (arith, is.numbers.some))
      ∙ is.first_entry;
  first_key = get_or_append_left s.keys (key ∷ []) [] 0 (omega (arith, is.numbers.some, is.even))
      ∙ is.first_key;
  items = λ i one below. at i one (here i below);
}
  where
    here : (i : ℕ) → i < length (s.entries ++ entry ∷ [])
        → (i < length s.entries) ⊎ (i ≡ length s.entries)
    here i below = let size = length-append s.entries (entry ∷ []) in grind (arith, size)

    at : (i : ℕ) → 1 ≤ i → (i < length s.entries) ⊎ (i ≡ length s.entries)
        → IsItem h (form_at s.switched i) (get_or (s.entries ++ entry ∷ []) i [])
        (get_or (s.keys ++ key ∷ []) i [])
    at i one (inl before) =
        rw (
          get_or_append_left s.entries (entry ∷ []) [] i before,
          get_or_append_left s.keys (key ∷ []) [] i (omega (arith, is.even)),
        )
        (is.items i one before)
    at i one (inr last) =
        let entry_is : get_or (s.entries ++ entry ∷ []) i [] ≡ entry =
        ap (λ (n : ℕ). get_or (s.entries ++ entry ∷ []) n []) last
        ∙ get_or-append_seam s.entries entry [] [] in
        let end : i ≡ length s.keys = omega (arith, is.even) in
        let key_is : get_or (s.keys ++ key ∷ []) i [] ≡ key =
        ap (λ (n : ℕ). get_or (s.keys ++ key ∷ []) n []) end
        ∙ get_or-append_seam s.keys key [] [] in
        let form : log_form (view_in s) ≡ form_at s.switched i =
        ap (form_at s.switched) (sym last) in
        rw (entry_is, key_is) (subst (λ (f : Form). IsItem h f entry key) form item)

-- ---- a log that was switched

-- Before the index at which a log is switched entries have form one.
form_before : (index i : ℕ) → i < index → form_at (Some index) i ≡ One
form_before index i below =
    ap (λ (b : Bool). if b then Two else One) (lt-leb index i below)
  where
    lt-leb : (a b : ℕ) → b < a → nat_le a b ≡ false
    lt-leb a b less = grind (arith, nat_tests)

-- The entries of a log that is switched have the form that they had.
pub sound_switched : (h : HashFunction) (s : LogState) → IsSound h s → s.switched ≡ None
    → IsSound h (with_switch s)
sound_switched h s is first = record {
  numbers = numbers_switched (view_in s) is.numbers;
  even = is.even;
  first_entry = is.first_entry;
  first_key = is.first_key;
  items = λ i one below.
      let before : form_at s.switched i ≡ One = ap (λ o. form_at o i) first in
      subst (λ (f : Form). IsItem h f (get_or s.entries i []) (get_or s.keys i []))
      (before ∙ sym (form_before (length s.entries) i below)) (is.items i one below);
}
