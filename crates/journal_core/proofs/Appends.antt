-- What an append leaves, as the layer above says it: every crash state represents the old
-- records and the new one, or the call left the journal's disk alone.
use Rattle.std.proofs.Common.{◌≡◌, inl, ℕ, List, [], ◌∷◌, ◌++◌, Option, Some, None, IfSome}
use Rattle.std.proofs.Common.{option_map, sym, ap, ◌∙◌, subst}
use Rattle.std.proofs.lemmas.Option.{same_Some}
use Rattle.disk_core.specs.Times.{LeavesOnly}
use Rattle.disk_core.specs.declared.disk.Disk.{Ghosts}
use Rattle.disk_core.proofs.Times.{started}
use Rattle.journal_core.specs.Format.{Represents, RepresentsEither, records_of}
use Rattle.journal_core.specs.Durable.{IsDurable}
use Rattle.journal_core.specs.Words.{AllRepresent}
use Rattle.journal_core.proofs.Modelled.{of_records}

-- every crash state represents the old records and the new one
pub all_kept : {D : Type 0} (g : Ghosts D) (disk : D) (contents : Option (List ℕ))
    (old : Option (List (List ℕ))) (body other : List ℕ)
    → option_map records_of contents ≡ option_map (λ list. list ++ body ∷ []) old → body ≡ other
    → IfSome contents (λ b. AllRepresent g disk (records_of b))
    → IfSome old (λ list. AllRepresent g disk (list ++ other ∷ []))
all_kept {D} g disk contents None body other news is all = tt
all_kept {D} g disk None (Some list) body other news is all =
    let wrong : None ≡ Some (list ++ body ∷ []) = news in cc
all_kept {D} g disk (Some b) (Some list) body other news is all =
    subst (AllRepresent g disk) (same_Some _ _ news
    ∙ ap (λ (last : List ℕ). list ++ last ∷ []) is) all

-- a journal whose disk had no call
module _ {D : Type 0} (g : Ghosts D) (disk : D) (end : ℕ) (body : List ℕ)
    (is_durable : (b : List ℕ) → g.contents disk ≡ Some b
    → IsDurable b (g.may_leave disk) end) where
  stands_now : (b : List ℕ) → g.contents disk ≡ Some b → (c : List ℕ) → g.may_leave disk c
      → RepresentsEither (records_of b) body c
  stands_now b contents c left =
      let was = is_durable b contents in
      inl (subst (λ (bytes : List ℕ). Represents bytes (records_of b)) (sym (was.only c left))
      was.stands)

  pub untouched_time : ((c : List ℕ) → g.left_since disk (g.clock_at disk) c → g.may_leave disk c)
      → IfSome (option_map records_of (g.contents disk)) (λ list. LeavesOnly g disk disk
      (RepresentsEither list body))
  untouched_time only_now = of_records (λ list. LeavesOnly g disk disk
      (RepresentsEither list body)) (g.contents disk)
      (λ b contents. started g disk _ only_now (stands_now b contents))

  pub untouched_after : IfSome (option_map records_of (g.contents disk)) (λ list. (c : List ℕ)
      → g.may_leave disk c → RepresentsEither list body c)
  untouched_after = of_records (λ list. (c : List ℕ) → g.may_leave disk c
      → RepresentsEither list body c) (g.contents disk) stands_now
