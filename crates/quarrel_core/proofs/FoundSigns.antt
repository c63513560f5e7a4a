-- Two Signs of one interval with different hashes are found, wherever they stand among steps.
use Rattle.std.proofs.Common.{◌≡◌, ⊎_elim, ℕ, ◌<◌, ◌≤◌, List, length, None, Some, sym, ◌∙◌, ap}
use Rattle.std.proofs.Common.{refl, arith}
use Rattle.std.specs.Prelude.{Contains, Option, option_map, slice_get}
use Rattle.std.proofs.lemmas.Bool.{cases_lt}
use Rattle.std.proofs.lemmas.Option.{same_Some, slice_get_read}
use Rattle.byte_formats.specs.Types.{Hash}
use Rattle.cosigner_core.specs.declared.step.Step.{Step}
use Rattle.cosigner_core.specs.declared.step.Step.TheVariants.{Sign}
use Rattle.quarrel_core.proofs.InConflict.{ConflictsAreFirst_always}
use Rattle.quarrel_core.specs.ConflictLaws.{ConflictAt}
use Rattle.quarrel_core.specs.Conflicts.{conflict_in, keys_at, quarrel_of}

-- The keys of the first Signs in conflict.
abbrev pub HasQuarrel : List Step → Type 0
HasQuarrel steps = (keys : ℕ × ℕ) × (quarrel_of steps ≡ Some keys)

conflict_found : (steps : List Step) (i j : ℕ) → i < j → ConflictAt steps i j → HasQuarrel steps
conflict_found steps i j less at = by (conflict_in steps) refl
  where
    by : (o : Option (ℕ × ℕ)) → conflict_in steps ≡ o → HasQuarrel steps
    by (Some indices) is = (keys_at steps indices, ap (option_map (keys_at steps)) is)
    by None is = absurd (ConflictsAreFirst_always.none steps i j is less at)

pub signs_found : (steps : List Step) (a b start end : ℕ) (one other : Hash) (p q : List Hash)
    → Contains steps (Sign a start end one p) → Contains steps (Sign b start end other q)
    → (one ≡ other → ⊥) → HasQuarrel steps
signs_found steps a b start end one other p q first second differ =
    let x : Step = Sign a start end one p in
    let y : Step = Sign b start end other q in
    let at_first : slice_get steps first.0 ≡ Some x =
    slice_get_read steps (length steps) first.0 x refl first.1 (sym first.2) in
    let at_second : slice_get steps second.0 ≡ Some y =
    slice_get_read steps (length steps) second.0 y refl second.1 (sym second.2) in
    ⊎_elim
    (λ (less : first.0 < second.0).
    conflict_found steps first.0 second.0 less (record {
      one = x;
      other = y;
      first = at_first;
      second = at_second;
      conflict = (refl, refl, differ);
    }))
    (λ (not : second.0 ≤ first.0).
    ⊎_elim
    (λ (less : second.0 < first.0).
    conflict_found steps second.0 first.0 less (record {
      one = y;
      other = x;
      first = at_second;
      second = at_first;
      conflict = (refl, refl, λ same. differ (sym same));
    }))
    (λ (past : first.0 ≤ second.0).
    let here : first.0 ≡ second.0 = omega arith in
    let same : x ≡ y = same_Some x y (sym at_first ∙ ap (slice_get steps) here ∙ at_second) in
    let hashes : one ≡ other = cc in
    absurd (differ hashes))
    (cases_lt second.0 first.0))
    (cases_lt first.0 second.0)
