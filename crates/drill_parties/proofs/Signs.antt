-- How many Signs the journal of a cosigner has.
use Rattle.std.proofs.Common.{◌≡◌, ◌∙◌, ◌^◌, ◌≤◌, ℕ, List, [], ◌∷◌, length, drop, Option, Some}
use Rattle.std.proofs.Common.{None, Ok, cond, refl, sym, ap, arith, subst}
use Rattle.std.proofs.lemmas.Option.{same_Some}
use Rattle.std.specs.Prelude.{option_map}
use Rattle.std.specs.List.{count_by}
use Rattle.std.proofs.lemmas.List.Sums.{sum_by-cons}
use Rattle.byte_formats.specs.Types.{HashFunction, Text}
use Rattle.byte_formats.proofs.Steps.{ok_is}
use Rattle.byte_formats.proofs.Values.{map_some, then_some}
use Rattle.disk_core.specs.declared.memory.mem_disk.MemDisk.{MemDisk}
use Rattle.cosigner_core.specs.Counts.{index_before, indices_in, indices_of}
use Rattle.cosigner_core.specs.ExportReading.{export_in, export_of}
use Rattle.cosigner_core.specs.Folds.{CosignerState, cosigner_of}
use Rattle.cosigner_core.specs.Progress.{steps_in}
use Rattle.cosigner_core.specs.Records.{step_in}
use Rattle.cosigner_core.specs.declared.lists.Export.{Export}
use Rattle.cosigner_core.specs.declared.step.Step.{Step}
use Rattle.cosigner_core.specs.declared.step.Step.TheVariants.{Advance, Child, Sign}
use Rattle.cosigner_core.proofs.Counts.{counts_up}
use Rattle.cosigner_core.proofs.Keys.{few_keys}
use Rattle.drill_parties.specs.CosignerParties.{IsCosignerDisk}
use Rattle.drill_parties.specs.Disks.{is_sign}
use Rattle.drill_parties.specs.Disks.{records_on}
use Rattle.drill_parties.proofs.Exported.{steps_again}

-- a step before others
one_step : (step : Step) (said : Option Step) (rest : List Step) (indices : List ℕ)
    → said ≡ Some step → count_by is_sign rest ≡ length indices
    → count_by is_sign (step ∷ rest) ≡ length (index_before said indices)
one_step step None rest indices said more = let wrong : None ≡ Some step = said in cc
one_step (Advance a b c) (Some (Advance d e f)) rest indices said more = more
one_step (Sign a b c d e) (Some (Sign i j k l m)) rest indices said more =
    let one = sum_by-cons (λ (s : Step). cond (is_sign s) 1 0) (Sign a b c d e) rest in
    omega (arith, more, one)
one_step (Advance a b c) (Some (Sign i j k l m)) rest indices said more = cc
one_step (Sign a b c d e) (Some (Advance i j k)) rest indices said more = cc
one_step (Child a b) (Some (Child c d)) rest indices said more = more
one_step (Child a b) (Some (Advance i j k)) rest indices said more = cc
one_step (Child a b) (Some (Sign i j k l m)) rest indices said more = cc
one_step (Advance a b c) (Some (Child i j)) rest indices said more = cc
one_step (Sign a b c d e) (Some (Child i j)) rest indices said more = cc

-- the steps that records say have as many Signs as the records
pub signs_said : (bodies : List Text) (steps : List Step) → steps_in bodies ≡ Some steps
    → count_by is_sign steps ≡ length (indices_in bodies)
unfolding steps_in indices_in
signs_said [] steps said =
    let none : [] ≡ steps = cc in
    subst (λ (list : List Step). count_by is_sign list ≡ 0) none refl
signs_said (body ∷ bodies) steps said =
    let one = then_some (λ (s : Step). option_map (λ (rest : List Step). s ∷ rest)
    (steps_in bodies)) (step_in body) steps said in
    let two = map_some (λ (rest : List Step). one.0 ∷ rest) (steps_in bodies) steps one.2 in
    subst (λ (list : List Step). count_by is_sign list
    ≡ length (index_before (step_in body) (indices_in bodies))) two.2
    (one_step one.0 (step_in body) two.0 (indices_in bodies) one.1
    (signs_said bodies two.0 two.1))

pub following_first : (list : List Text)
    → length (indices_in (drop 1 list)) ≡ length (indices_of list)
unfolding indices_in indices_of
following_first [] = refl
following_first (first ∷ bodies) = refl

-- as many as one-time keys are used
pub signs_used : (h : HashFunction) (list : List Text) (s : CosignerState)
    → cosigner_of h list ≡ Ok s → s.key.next ≡ length (indices_of list)
signs_used h list s is = (counts_up h list s is).0.count

pub few_signs : (h : HashFunction) (list : List Text) (s : CosignerState)
    → cosigner_of h list ≡ Ok s → length (indices_of list) ≤ 2 ^ 25
few_signs h list s is =
    let up = (counts_up h list s is).0 in
    let few = up.few in
    let count = up.count in
    let keys = few_keys h list s is in
    omega (arith, few, count, keys)

-- What is read of the export of a cosigner has as many Signs as its disk.
pub signs_kept : (h : HashFunction) (s : CosignerState) (disk : MemDisk) (kept : Export)
    (file : Text) → IsCosignerDisk h s disk
    → ((steps : List Step) → steps_in (drop 1 (records_on disk)) ≡ Some steps
    → export_in h file ≡ Ok (Some (export_of s steps)))
    → export_in h file ≡ Ok (Some kept)
    → count_by is_sign kept.steps ≡ length (indices_of (records_on disk))
signs_kept h s disk kept file is reads read =
    let again = steps_again h s disk is in
    let same : Some (export_of s again.0) ≡ Some kept =
    ok_is _ (Some (export_of s again.0)) (Some kept) (sym (reads again.0 again.1) ∙ read) in
    let steps : again.0 ≡ kept.steps =
    ap (λ (e : Export). e.steps) (same_Some (export_of s again.0) kept same) in
    subst (λ (list : List Step). count_by is_sign list ≡ length (indices_of (records_on disk)))
    steps
    (signs_said (drop 1 (records_on disk)) again.0 again.1 ∙ following_first (records_on disk))
