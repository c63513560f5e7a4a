-- What is found on a disk that represents the records of a log.
use Rattle.std.proofs.Common.{◌≡◌, List, Option, Some, None, Ok, option_map, sym, ap, ◌∙◌}
use Rattle.std.specs.Option.{IfSome}
use Rattle.byte_formats.specs.Types.{Text}
use Rattle.byte_formats.proofs.Steps.{ok_is}
use Rattle.journal_core.specs.Folds.{Fold, Found, read_by, state_after}
use Rattle.journal_core.specs.Format.{Represents, records_of}
use Rattle.journal_core.proofs.Found.{read_standing}

module _ {S E : Type 0} (fold : Fold S E) where
  same_found : (a b : Found S) → a ≡ b → (Some a.records ≡ Some b.records) × (a.state ≡ b.state)
  same_found a b e = (ap (λ (f : Found S). Some f.records) e, ap (λ (f : Found S). f.state) e)

  -- the records determine the state
  pub found_modelled : (contents : Option Text) (list : Option (List Text)) (state : List Text → S)
      → list ≡ option_map records_of contents
      → IfSome contents (λ b. IfSome list (λ found. read_by fold b
      ≡ Ok (record { records = found; state = state found })))
      → IfSome contents (λ b. (wanted : List Text) (t : S) → Represents b wanted
      → state_after fold wanted ≡ Ok t → (list ≡ Some wanted) × (option_map state list ≡ Some t))
  found_modelled (Some b) (Some found) state same read = λ wanted t stands is.
      let both = same_found (record { records = found; state = state found })
      (record { records = wanted; state = t })
      (ok_is E (record { records = found; state = state found })
      (record { records = wanted; state = t })
      (sym read ∙ read_standing fold b wanted t stands is)) in
      (both.0, ap Some both.1)
  found_modelled (Some b) None state same read = λ wanted t stands is. absurd cc
  found_modelled None list state same read = tt
