-- What is found on a disk that represents the records of a cosigner.
use Rattle.std.proofs.Common.{◌≡◌, List, Option, Some, None, Ok, option_map, sym, ap, ◌∙◌}
use Rattle.std.specs.Option.{IfSome}
use Rattle.byte_formats.specs.Types.{Text}
use Rattle.byte_formats.proofs.Steps.{ok_is}
use Rattle.journal_core.specs.Folds.{Fold, Found, read_by, state_after}
use Rattle.journal_core.specs.Format.{Represents, records_of}
use Rattle.journal_core.proofs.Found.{read_standing}

module _ {S E : Type 0} (fold : Fold S E) where
  same_found : (a b : Found S) → a ≡ b → (Some a.records ≡ Some b.records) × (a.state ≡ b.state)
  same_found a b e = (ap (λ (f : Found S). Some f.records) e, ap (λ (f : Found S). f.state) e)

  pub found_on : (contents : Option Text) (list : Option (List Text)) (s : S)
      → list ≡ option_map records_of contents
      → IfSome contents (λ b. IfSome list (λ found. read_by fold b
      ≡ Ok (record { records = found; state = s })))
      → IfSome contents (λ b. (wanted : List Text) (t : S) → Represents b wanted
      → state_after fold wanted ≡ Ok t → (list ≡ Some wanted) × (s ≡ t))
  found_on (Some b) (Some found) s same read = λ wanted t stands is.
      same_found (record { records = found; state = s }) (record { records = wanted; state = t })
      (ok_is E (record { records = found; state = s })
      (record { records = wanted; state = t })
      (sym read ∙ read_standing fold b wanted t stands is))
  found_on (Some b) None s same read = λ wanted t stands is. absurd cc
  found_on None list s same read = tt
