-- What comes of opening and making the journals of a command.
use Rattle.std.proofs.Common.{◌≡◌, inl, inr, ℕ, List, [], ◌∷◌, Option, None, Some, codes, refl}
use Rattle.journal_core.specs.Folds.{read_by}
use Rattle.mtc_command.specs.Endings.{IsNamed}
use Rattle.mtc_command.specs.Steps.{Files, Outcome, held_in, stops_at}
use Rattle.mtc_command.specs.declared.answer.Stopped.TheVariants.{BadForm, Missing}
use Rattle.command_plans.specs.Found.{AnyIsRefused, AreFound, LacksNothing}
use Rattle.command_plans.specs.Kinds.{Kinds}
use Rattle.command_plans.specs.Names.{made_names, opened_names}
use Rattle.command_plans.specs.Outcomes.{open_from, with_beside}
use Rattle.command_plans.specs.Plans.{Finds, Journal, makes, opens}
use Rattle.command_plans.proofs.Steps.{file_comes, form_comes, fresh_comes, lacking_comes}

module _ (k : Kinds) (P : Outcome → Type 0) (files : Files) where
  beside_comes : (kind : k.Kind) (state : k.State kind) (file : Option (List ℕ)) (next : Outcome)
      → ((name reason : List ℕ) → file ≡ Some name
      → k.lacks kind state (held_in (files name)) ≡ Some reason → P (stops_at BadForm name reason))
      → (LacksNothing k files kind state file → P next)
      → P (with_beside k kind state file files next)
  beside_comes kind state None next lacking whole = whole tt
  beside_comes kind state (Some name) next lacking whole =
      lacking_comes P name (k.lacks kind state (held_in (files name))) next
      (λ reason. lacking name reason refl) whole

module _ {k : Kinds} (P : Outcome → Type 0) (files : Files) where
  pub open_comes : (journals : List (Journal k)) (next : Finds journals → Outcome)
      → ((file : List ℕ) → IsNamed (opened_names journals) file → files file ≡ None
      → P (stops_at Missing file (codes "Absent")))
      → ((file bytes : List ℕ) → IsNamed (made_names journals) file → files file ≡ Some bytes
      → P (stops_at Missing file (codes "Exists")))
      → ((file reason : List ℕ) → AnyIsRefused k files journals file reason
      → P (stops_at BadForm file reason))
      → ((founds : Finds journals) → AreFound k files journals founds → P (next founds))
      → P (open_from journals files next)
  open_comes [] next none there refused done = done tt tt
  open_comes (opens kind beside name ∷ rest) next none there refused done =
      file_comes P name (files name) _ (none name (inl refl))
      (λ bytes is. form_comes P (k.fault_text kind) name (read_by (k.fold kind) bytes) _
      (λ why fault. refused name (k.fault_text kind why) (inl (inl (record {
        bytes = bytes;
        there = is;
        why = why;
        is = fault;
        named = refl;
        says = refl;
      }))))
      (λ found form. beside_comes k P files kind found.state (k.beside kind name) _
      (λ file reason has lacks. refused file reason (inl (inr (record {
        bytes = bytes;
        there = is;
        found = found;
        is = form;
        beside = has;
        lacks = lacks;
      }))))
      (λ whole. open_comes rest (λ founds. next (found, founds))
      (λ file named. none file (inr named)) there
      (λ file reason any. refused file reason (inr any))
      (λ founds are. done (found, founds)
      (record { bytes = bytes; there = is; is = form; whole = whole }, are)))))
  open_comes (makes kind name ∷ rest) next none there refused done =
      fresh_comes P name (files name) _ (λ bytes. there name bytes (inl refl))
      (λ is. open_comes rest next none (λ file bytes named. there file bytes (inr named)) refused
      (λ founds are. done founds (is, are)))
