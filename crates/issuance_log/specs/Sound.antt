-- What holds of every log.
use Rattle.std.specs.Prelude.{◌≡◌, ℕ, ◌<◌, ◌≤◌, ◌%◌, true, List, [], ◌∷◌, length, slice_index_or}
use Rattle.std.specs.Prelude.{Option, Some, None, IfSome}
use Rattle.std.proofs.Props.{props}
use Rattle.byte_formats.specs.Types.{Text, HashFunction}
use Rattle.log_entry.specs.Forms.{form_at}
use Rattle.log_entry.specs.Matching.{has_form, matches}
use Rattle.log_entry.specs.declared.entry.Form.{Form}
use Rattle.issuance_log.specs.Folds.{LogState, LogView, view_in, null_entry}
use Rattle.issuance_log.specs.Marks.{AreRising}
use Rattle.issuance_log.specs.Records.{IsShort}
use Rattle.issuance_log.specs.Settings.{AreAllowed}

-- Over any disk. Its numbers are allowed, its entries are within its limit, and there is one at
-- least. Its landmarks rise up to its size at most, its tiles are those of a multiple of 256 up to
-- its size, and if it was switched, then at a size that it had.
pub record HasSoundNumbers (v : LogView) : Type 0 where
  pub allowed : AreAllowed v.settings.max_active v.settings.limit
  pub some : 1 ≤ v.size
  pub few : v.size ≤ v.settings.limit
  pub marks : AreRising 0 v.size v.marks
  pub multiple : v.tiled % 256 ≡ 0
  pub tiled : v.tiled ≤ v.size
  pub switched : IfSome v.switched (λ index. index ≤ v.size)

-- An item of a log after the first: the entry reads as one of type 1 in this form, to which the key
-- belongs, and the length of each fits two bytes.
pub record IsItem (h : HashFunction) (form : Form) (entry key : Text) : Type 0 where
  pub form_is : has_form form entry ≡ true
  pub belongs : matches h entry key ≡ true
  pub short_entry : IsShort entry
  pub short_key : IsShort key

-- If the model knows the records on its disk: in addition to the numbers, there are as many keys as
-- entries, the first entry is the null entry, without a key, and each later one has the form of its
-- index, and the key that belongs to it.
pub record IsSound (h : HashFunction) (s : LogState) : Type 0 where
  pub numbers : HasSoundNumbers (view_in s)
  pub even : length s.keys ≡ length s.entries
  pub first_entry : slice_index_or s.entries 0 [] ≡ null_entry
  pub first_key : slice_index_or s.keys 0 [] ≡ []
  pub items : (i : ℕ) → 1 ≤ i → i < length s.entries
      → IsItem h (form_at s.switched i) (slice_index_or s.entries i []) (slice_index_or s.keys i [])

-- each has one proof at most
AreRising-prop : (from to : ℕ) (marks : List ℕ) → IsProp (AreRising from to marks)
AreRising-prop from to [] = hlevel props
AreRising-prop from to (mark ∷ marks) = hlevel (props, AreRising-prop mark to marks)

is_within-prop : (switched : Option ℕ) (size : ℕ)
    → IsProp (IfSome switched (λ index. index ≤ size))
is_within-prop None size = hlevel props
is_within-prop (Some index) size = hlevel props

pub HasSoundNumbers-prop : (v : LogView) → IsProp (HasSoundNumbers v)
HasSoundNumbers-prop v =
    hlevel (props, AreRising-prop 0 v.size v.marks, is_within-prop v.switched v.size)

IsItem-prop : (h : HashFunction) (form : Form) (entry key : Text)
    → IsProp (IsItem h form entry key)
IsItem-prop h form entry key = hlevel props

pub IsSound-prop : (h : HashFunction) (s : LogState) → IsProp (IsSound h s)
IsSound-prop h s = hlevel (props, HasSoundNumbers-prop (view_in s), IsItem-prop)
