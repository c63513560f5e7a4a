-- Items that a log takes, one after the other.
use Rattle.std.proofs.Common.{◌≡◌, ℕ, ◌+◌, ◌<◌, ◌≤◌, ◌&&◌, List, [], ◌∷◌, length, Bool}
use Rattle.std.proofs.Common.{true}
use Rattle.std.proofs.Common.{false, Option, Some, None, IfSome, refl, ap, sym, subst, ◌∙◌, arith}
use Rattle.std.proofs.Common.{Result, Ok, Err, OnOk}
use Rattle.std.specs.Prelude.{IfErr, if◌then◌else◌}
use Rattle.std.proofs.lemmas.Bool.{le-leb, lt-ltb}
use Rattle.byte_formats.specs.Offsets.{IsBytes}
use Rattle.byte_formats.specs.Types.{HashFunction, Text}
use Rattle.log_entry.specs.Forms.{form_at}
use Rattle.log_entry.specs.declared.entry.Form.{Form}
use Rattle.log_entry.specs.declared.entry.Form.TheVariants.{One, Two}
use Rattle.issuance_log.specs.Batches.{AreOfForm, leading_item, leading_items}
use Rattle.issuance_log.specs.Folds.{LogView, log_form, more_entries, next_view, of_size}
use Rattle.issuance_log.specs.Folds.{one_item_more, takes_entry, takes_items}
use Rattle.issuance_log.specs.Records.{added_in}
use Rattle.issuance_log.specs.Results.{LogTakes}
use Rattle.issuance_log.specs.Sound.{HasSoundNumbers}
use Rattle.issuance_log.specs.declared.error.RecordError.{RecordError}
use Rattle.issuance_log.specs.declared.error.RecordError.TheVariants.{Unfit, Memory}
use Rattle.issuance_log.proofs.Growth.{numbers_with}
use Rattle.issuance_log.proofs.Leading.{begins, leading_none, leading_on}
use Rattle.issuance_log.proofs.Views.{items_refused, items_taken, taken_capacity}

-- ---- as they begin the bytes that are left

-- Whether all are taken is whether those in the bytes that are left are, after so many entries.
pub record AreTested (h : HashFunction) (v : LogView) (items : Text) (size : ℕ) (rest : Text)
    : Type 0 where
  pub left : IsBytes rest
  pub takes : takes_items h (of_size size v) (leading_items rest)
      ≡ takes_items h v (leading_items items)
  pub counted : size + length (leading_items rest) ≡ v.size + length (leading_items items)
  pub within : size ≤ v.settings.limit

pub tested_first : (h : HashFunction) (v : LogView) (items : Text) (size : ℕ) → IsBytes items
    → size ≡ v.size → v.size ≤ v.settings.limit → AreTested h v items size items
tested_first h v items size bytes same few = record {
  left = bytes;
  takes = ap (λ (n : ℕ). takes_items h (of_size n v) (leading_items items)) same;
  counted = omega (arith, same);
  within = omega (arith, same, few);
}

module _ (h : HashFunction) (v : LogView) (items : Text) (size : ℕ) (rest : Text)
    (so_far : AreTested h v items size rest) where
  module _ (x : Text × Text) (later : Text)
      (is : leading_item rest ≡ Some (x, later)) where
    on : takes_items h (of_size size v) (leading_items rest)
        ≡ (takes_entry h (of_size size v) x
        && takes_items h (of_size (size + 1) v) (leading_items later))
    on = ap (takes_items h (of_size size v)) (leading_on rest x later so_far.left is)

    pub tested_on : takes_entry h (of_size size v) x ≡ true → AreTested h v items (size + 1) later
    tested_on takes =
        let count = ap length (leading_on rest x later so_far.left is) in
        let capacity = taken_capacity h (of_size size v) x takes in
        record {
          left = (begins rest x later so_far.left is).left;
          takes = sym (on ∙ ap (λ (b : Bool). b
              && takes_items h (of_size (size + 1) v) (leading_items later)) takes) ∙ so_far.takes;
          counted = omega (arith, so_far.counted, count);
          within = omega (arith, capacity);
        }

    pub tested_not : takes_entry h (of_size size v) x ≡ false
        → takes_items h v (leading_items items) ≡ false
    tested_not takes =
        sym so_far.takes ∙ on ∙ ap (λ (b : Bool). b
        && takes_items h (of_size (size + 1) v) (leading_items later)) takes

  pub tested_all : leading_item rest ≡ None → takes_items h v (leading_items items) ≡ true
  tested_all none =
      sym so_far.takes ∙ ap (takes_items h (of_size size v)) (leading_none rest none)

  pub tested_within : leading_item rest ≡ None
      → v.size + length (leading_items items) ≤ v.settings.limit
  tested_within none =
      let nothing = ap length (leading_none rest none) in
      omega (arith, so_far.counted, so_far.within, nothing)

-- ---- together

-- after numbers that are sound the entry after the next one has the form of the next
form_stays : (switched : Option ℕ) (size : ℕ) → IfSome switched (λ index. index ≤ size)
    → form_at switched (size + 1) ≡ form_at switched size
form_stays None size is = refl
form_stays (Some index) size is =
    ap (λ (b : Bool). if b then Two else One) (le-leb index (size + 1) (omega (arith, is)))
    ∙ sym (ap (λ (b : Bool). if b then Two else One) (le-leb index size is))

-- Items of the form of the next entry are taken together, if the limit allows so many.
pub taken_together : (h : HashFunction) (v : LogView) (items : List (Text × Text))
    → HasSoundNumbers v → v.size + length items ≤ v.settings.limit
    → AreOfForm h (log_form v) items → takes_items h v items ≡ true
taken_together h v [] sound within each = refl
taken_together h v (x ∷ items) sound within each =
    let capacity : v.size < v.settings.limit = omega (arith, within) in
    let form : log_form (one_item_more v) ≡ log_form v = form_stays v.switched v.size sound.switched
    in
    let rest = taken_together h (one_item_more v) items (numbers_with v sound capacity)
    (omega (arith, within))
    (subst (λ (f : Form). AreOfForm h f items) (sym form) each.1) in
    rw (lt-ltb v.size v.settings.limit capacity, each.0.0, each.0.1) rest

-- What a call answers that takes the items of a record.
pub takes_so : (h : HashFunction) (v w : LogView) (body : Text) (items : List (Text × Text))
    (count : ℕ) → added_in body ≡ Some items → count ≡ length items
    → (result : Result (Unit {0}) RecordError)
    → OnOk result ((takes_items h v items ≡ true) × (w ≡ more_entries count v))
    → IfErr result (λ why. (why ≡ Unfit) × (takes_items h v items ≡ false) × (w ≡ v))
    → LogTakes (next_view h v body) v result w
takes_so h v w body items count adds counted (Ok done) ok err =
    items_taken h v body items adds ok.0
    ∙ ap Some (ap (λ (n : ℕ). more_entries n v) (sym counted) ∙ sym ok.1)
takes_so h v w body items count adds counted (Err Unfit) ok err =
    (items_refused h v body items adds err.1, err.2)
takes_so h v w body items count adds counted (Err Memory) ok err =
    let wrong : Memory ≡ Unfit = err.0 in absurd cc
