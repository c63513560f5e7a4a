-- The records of a mirror and of a cosigner that agree.
use Rattle.std.proofs.Common.{◌≡◌, ℕ, ◌+◌, ◌-◌, ◌≤◌, ◌∙◌, List, [], ◌∷◌, ◌++◌}
use Rattle.std.proofs.Common.{length, take, drop, Option, Some, None, option_map, option_and_then}
use Rattle.std.proofs.Common.{Result, Ok, Err, refl, sym, ap, subst, arith}
use Rattle.std.specs.Prelude.{map}
use Rattle.std.specs.List.{AllByRecursion}
use Rattle.std.proofs.lemmas.List.{append-nil, drop-append-le, length-append, length-drop}
use Rattle.std.proofs.lemmas.List.{map-append, take-append-le}
use Rattle.std.proofs.lemmas.Option.{same_Some}
use Rattle.byte_formats.specs.Readings.{some_or}
use Rattle.byte_formats.specs.Types.{HashFunction, Text}
use Rattle.byte_formats.proofs.Steps.{bind_ok, ok_is, some_or_ok}
use Rattle.byte_formats.proofs.Values.{when_some}
use Rattle.journal_core.specs.Folds.{Fold, state_after, taken_from}
use Rattle.journal_core.proofs.Folds.{state_more}
use Rattle.tree_core.specs.Path.{part_of}
use Rattle.tree_core.specs.Tree.{tree_hash}
use Rattle.tree_core.proofs.Subtrees.{is_subtree_iff}
use Rattle.cosigner_core.specs.Folds.{CosignerState, after_step, begun_cosigner, cosigner_fold}
use Rattle.cosigner_core.specs.Folds.{cosigner_of, new_cosigner, next_state, progress_of, terms_by}
use Rattle.cosigner_core.specs.Folds.{with_progress}
use Rattle.cosigner_core.specs.Progress.{first_progress, is_allowed, progress_by, steps_in}
use Rattle.cosigner_core.specs.Progress.{with_step}
use Rattle.cosigner_core.specs.Records.{cosigner_in, step_in}
use Rattle.cosigner_core.specs.declared.progress.Progress.{Progress}
use Rattle.cosigner_core.specs.declared.settings.CosignerSettings.{CosignerSettings}
use Rattle.cosigner_core.specs.declared.step.Step.{Step}
use Rattle.cosigner_core.specs.declared.step.Step.TheVariants.{Advance, Child, Sign}
use Rattle.cosigner_core.specs.declared.terms.KeyTerms.{KeyTerms}
use Rattle.cosigner_core.proofs.After.{brings}
use Rattle.cosigner_steps.specs.Steps.{HasPrefix, IsOfList, IsWithin, held_by, with_steps}
use Rattle.cosigner_steps.proofs.Holding.{empty_prefix, held_at_last}
use Rattle.cosigner_steps.proofs.Steps.{sign_checks, step_first}
use Rattle.mirror_core.specs.Folds.{MirrorState, MirrorStep, entries_in_mirror, mirror_by_step}
use Rattle.mirror_core.specs.Folds.{mirror_fold, mirror_of, mirror_step_in, mirrors_items}
use Rattle.mirror_core.specs.Folds.{mirrors_tiles, next_mirror, no_mirror_step, takes_mirror_step}
use Rattle.mirror_core.specs.Folds.{view_in_mirror}
use Rattle.mirror_cosigner.specs.Agreement.{Agrees, IsStepOf}

-- ---- a list's last record

-- the state after one record more is what that record makes of the state before it
pub last_taken : {S E : Type 0} (fold : Fold S E) (list : List Text) (body : Text) (s t : S)
    → state_after fold list ≡ Ok s → state_after fold (list ++ body ∷ []) ≡ Ok t
    → fold.takes s body ≡ Some t
unfolding taken_from
last_taken {S} {E} fold list body s t was is =
    let here = sym (state_more fold list (body ∷ []) s was) ∙ is in
    let step = bind_ok (some_or (length list) (fold.takes s body))
    (λ (u : S). taken_from fold (length list + 1) u []) t here in
    some_or_ok (length list) (fold.takes s body) step.0 step.1
    ∙ ap (λ (u : S). Some u) (ok_is ℕ step.0 t step.2)

-- ---- the steps of a cosigner's records

-- They are steps, which lead to the cosigner.
pub record AreWalked (h : HashFunction) (list : List Text) (signer : CosignerState) : Type 0 where
  pub steps : List Step
  pub are : steps_in (drop 1 list) ≡ Some steps
  pub terms : KeyTerms
  pub leads : progress_by h terms (first_progress h) steps ≡ Some (progress_of signer)

steps_led : (h : HashFunction) (terms : KeyTerms) (q : Progress) (all : Option (List Step))
    → option_and_then (progress_by h terms (first_progress h)) all ≡ Some q
    → (steps : List Step) × ((all ≡ Some steps)
    × (progress_by h terms (first_progress h) steps ≡ Some q))
steps_led h terms q None is = absurd cc
steps_led h terms q (Some steps) is = (steps, (refl, is))

pub are_walked : (h : HashFunction) (list : List Text) (signer : CosignerState)
    → cosigner_of h list ≡ Ok signer → AreWalked h list signer
unfolding state_after begun_cosigner
are_walked h [] signer is = let wrong : Err 0 ≡ Ok signer = is in absurd cc
are_walked h (first ∷ bodies) signer is =
    let step = bind_ok (some_or 0 (begun_cosigner h first))
    (λ (u : CosignerState). taken_from (cosigner_fold h) 1 u bodies) signer is in
    go (cosigner_in first) step.0 (some_or_ok 0 (begun_cosigner h first) step.0 step.1) step.2
  where
    go : (o : Option (CosignerSettings × Text)) (u : CosignerState)
        → option_map (λ x. new_cosigner h x.0 x.1) o ≡ Some u
        → taken_from (cosigner_fold h) 1 u bodies ≡ Ok signer
        → AreWalked h (first ∷ bodies) signer
    go None u made rest = let wrong : None ≡ Some u = made in absurd cc
    go (Some x) u made rest =
        let new : CosignerState = new_cosigner h x.0 x.1 in
        let taken : taken_from (cosigner_fold h) 1 new bodies ≡ Ok signer =
        subst (λ (v : CosignerState). taken_from (cosigner_fold h) 1 v bodies ≡ Ok signer)
        (sym (same_Some new u made)) rest in
        let led = steps_led h (terms_by new) (progress_of signer) (steps_in bodies)
        (brings h 1 new bodies signer taken) in
        record { steps = led.0; are = led.1.0; terms = terms_by new; leads = led.1.1 }

push_after : (first : Option Step) (all more : Option (List Step)) (steps : List Step) (step : Step)
    → ((l : List Step) → all ≡ Some l → more ≡ Some (l ++ step ∷ []))
    → option_and_then (λ s. option_map (λ l. s ∷ l) all) first ≡ Some steps
    → option_and_then (λ s. option_map (λ l. s ∷ l) more) first ≡ Some (steps ++ step ∷ [])
push_after None all more steps step on made = let wrong : None ≡ Some steps = made in absurd cc
push_after (Some s) None more steps step on made =
    let wrong : None ≡ Some steps = made in absurd cc
push_after (Some s) (Some l) more steps step on made =
    ap (option_map (λ x. s ∷ x)) (on l refl)
    ∙ ap (λ (x : List Step). Some (x ++ step ∷ [])) (same_Some (s ∷ l) steps made)

-- one record more is one step more
steps_push : (bodies : List Text) (body : Text) (steps : List Step) (step : Step)
    → steps_in bodies ≡ Some steps → step_in body ≡ Some step
    → steps_in (bodies ++ body ∷ []) ≡ Some (steps ++ step ∷ [])
unfolding steps_in
steps_push [] body steps step are is =
    let none = same_Some [] steps are in
    ap (option_and_then (λ s. option_map (λ l. s ∷ l) (Some []))) is
    ∙ ap (λ (l : List Step). Some (l ++ step ∷ [])) none
steps_push (first ∷ bodies) body steps step are is =
    push_after (step_in first) (steps_in bodies) (steps_in (bodies ++ body ∷ [])) steps step
    (λ l read. steps_push bodies body l step read is) are

dropped : (list : List Text) (body : Text) (signer : CosignerState) (h : HashFunction)
    → cosigner_of h list ≡ Ok signer → drop 1 (list ++ body ∷ []) ≡ drop 1 list ++ body ∷ []
unfolding state_after
dropped [] body signer h is = let wrong : Err 0 ≡ Ok signer = is in absurd cc
dropped (first ∷ rest) body signer h is = refl

pub all_push : {A : Type 0} (P : A → Type 0) (xs : List A) (x : A) → AllByRecursion P xs → P x
    → AllByRecursion P (xs ++ x ∷ [])
all_push P [] x all one = (one, tt)
all_push P (y ∷ ys) x all one = (all.0, all_push P ys x all.1 one)

-- a step leaves the log's id as it was
step_log : (h : HashFunction) (s t : CosignerState) (o : Option Step)
    → option_and_then (after_step h s) o ≡ Some t → t.log ≡ s.log
step_log h s t None is = let wrong : None ≡ Some t = is in absurd cc
step_log h s t (Some step) is =
    let next = with_progress s (with_step (progress_of s) step) in
    let made = when_some (is_allowed h (terms_by s) (progress_of s) step) (Some next) t is in
    ap (λ (u : CosignerState). u.log) (sym (same_Some next t made.1))

ok_same : (s t : CosignerState) (r : Result CosignerState ℕ) → r ≡ Ok s → r ≡ Ok t → s ≡ t
ok_same s t r one other = ok_is ℕ s t (sym one ∙ other)

-- a step of the mirror's entries more
pub agrees_on : (h : HashFunction) (m list : List Text) (body : Text) (step : Step)
    (t : CosignerState) (agrees : Agrees h m list) → step_in body ≡ Some step
    → cosigner_of h (list ++ body ∷ []) ≡ Ok t
    → IsStepOf h (entries_in_mirror agrees.state) step → Agrees h m (list ++ body ∷ [])
unfolding next_state
agrees_on h m list body step t agrees said is of =
    let takes = last_taken (cosigner_fold h) list body agrees.signer t agrees.is_cosigner is in
    record {
      state = agrees.state;
      is_mirror = agrees.is_mirror;
      signer = t;
      is_cosigner = is;
      one_log = agrees.one_log ∙ sym (step_log h agrees.signer t (step_in body) takes);
      steps = agrees.steps ++ step ∷ [];
      are = ap steps_in (dropped list body agrees.signer h agrees.is_cosigner)
          ∙ steps_push (drop 1 list) body agrees.steps step agrees.are said;
      each = all_push (IsStepOf h (entries_in_mirror agrees.state)) agrees.steps step agrees.each
          of;
    }

-- ---- what is held is of the entries

held_with : (h : HashFunction) (entries : List Text) (p : Progress) (steps : List Step)
    → HasPrefix h entries p.held → AllByRecursion (IsStepOf h entries) steps
    → HasPrefix h entries (with_steps p steps).held
unfolding with_steps
held_with h entries p [] has each = has
held_with h entries p (Advance size root proof ∷ steps) has each =
    held_with h entries (with_step p (Advance size root proof)) steps each.0 each.1
held_with h entries p (Sign index start end hash proof ∷ steps) has each =
    held_with h entries (with_step p (Sign index start end hash proof)) steps has each.1
held_with h entries p (Child number low ∷ steps) has each =
    held_with h entries (with_step p (Child number low)) steps has each.1

pub signs_within : (h : HashFunction) (entries : List Text) (terms : KeyTerms) (p q : Progress)
    (steps : List Step) → p.held.size ≤ length entries
    → progress_by h terms p steps ≡ Some q → AllByRecursion (IsStepOf h entries) steps
    → AllByRecursion (IsWithin (length entries)) steps
unfolding progress_by
signs_within h entries terms p q [] few leads each = tt
signs_within h entries terms p q (Advance size root proof ∷ steps) few leads each =
    let s = Advance size root proof in
    let one = step_first (is_allowed h terms p s) (with_step p s) q
    (λ (r : Progress). progress_by h terms r steps) leads in
    (tt, signs_within h entries terms (with_step p s) q steps each.0.within one.1 each.1)
signs_within h entries terms p q (Sign index start end hash proof ∷ steps) few leads each =
    let s = Sign index start end hash proof in
    let one = step_first (is_allowed h terms p s) (with_step p s) q
    (λ (r : Progress). progress_by h terms r steps) leads in
    let checks = sign_checks h terms p index start end hash proof one.0 in
    let words = (is_subtree_iff start end).0 checks.valid in
    let order = words.inhabited in
    let inside = checks.within in (
      (omega arith, omega arith),
      signs_within h entries terms (with_step p s) q steps few one.1 each.1,
    )
signs_within h entries terms p q (Child number low ∷ steps) few leads each =
    let s = Child number low in
    let one = step_first (is_allowed h terms p s) (with_step p s) q
    (λ (r : Progress). progress_by h terms r steps) leads in
    (tt, signs_within h entries terms (with_step p s) q steps few one.1 each.1)

module _ (h : HashFunction) (m list : List Text) (agrees : Agrees h m list) where
  -- what a walk of the records finds is what agrees
  pub walked_here : (terms : KeyTerms)
      × (progress_by h terms (first_progress h) agrees.steps ≡ Some (progress_of agrees.signer))
  walked_here =
      let walked = are_walked h list agrees.signer agrees.is_cosigner in
      let same = same_Some walked.steps agrees.steps (sym walked.are ∙ agrees.are) in (
        walked.terms,
        subst (λ (steps : List Step). progress_by h walked.terms (first_progress h) steps
            ≡ Some (progress_of agrees.signer)) same walked.leads,
      )

  pub held_last : held_by h agrees.steps ≡ agrees.signer.held
  held_last = held_at_last h walked_here.0 (progress_of agrees.signer) agrees.steps walked_here.1

  pub held_prefix : HasPrefix h (entries_in_mirror agrees.state) agrees.signer.held
  unfolding held_by
  held_prefix =
      let entries = entries_in_mirror agrees.state in
      subst (HasPrefix h entries) held_last (held_with h entries (first_progress h) agrees.steps
      (empty_prefix h entries) agrees.each)

  pub all_within : AllByRecursion (IsWithin (length (entries_in_mirror agrees.state))) agrees.steps
  all_within =
      signs_within h (entries_in_mirror agrees.state) walked_here.0 (first_progress h)
      (progress_of agrees.signer) agrees.steps (omega arith) walked_here.1 agrees.each

each_of_list : (h : HashFunction) (entries : List Text) (steps : List Step)
    → AllByRecursion (IsStepOf h entries) steps → AllByRecursion (IsOfList h entries) steps
each_of_list h entries [] each = tt
each_of_list h entries (Advance size root proof ∷ steps) each =
    (tt, each_of_list h entries steps each.1)
each_of_list h entries (Sign index start end hash proof ∷ steps) each =
    (each.0, each_of_list h entries steps each.1)
each_of_list h entries (Child number low ∷ steps) each = (tt, each_of_list h entries steps each.1)

pub agreed_signs : (h : HashFunction) (m list : List Text) (agrees : Agrees h m list)
    → AllByRecursion (IsOfList h (entries_in_mirror agrees.state)) agrees.steps
agreed_signs h m list agrees =
    each_of_list h (entries_in_mirror agrees.state) agrees.steps agrees.each

-- ---- more items of the mirror

pub part_more : (xs more : List Text) (start end : ℕ) → start ≤ end → end ≤ length xs
    → part_of (xs ++ more) start end ≡ part_of xs start end
part_more xs more start end order within =
    ap (take (end - start)) (drop-append-le start xs more (omega arith))
    ∙ take-append-le (end - start) (drop start xs) more
    (omega (arith, length-drop start xs, order, within))

step_more : (h : HashFunction) (entries more : List Text) (step : Step) → IsStepOf h entries step
    → IsWithin (length entries) step → IsStepOf h (entries ++ more) step
step_more h entries more (Advance size root proof) is within = record {
  within = omega (arith, length-append entries more, is.within);
  root = ap (tree_hash h) (take-append-le size entries more is.within) ∙ is.root;
}
step_more h entries more (Sign index start end hash proof) is within =
    ap (tree_hash h) (part_more entries more start end within.0 within.1) ∙ is
step_more h entries more (Child number low) is within = tt

each_more : (h : HashFunction) (entries more : List Text) (steps : List Step)
    → AllByRecursion (IsStepOf h entries) steps
    → AllByRecursion (IsWithin (length entries)) steps
    → AllByRecursion (IsStepOf h (entries ++ more)) steps
each_more h entries more [] each within = tt
each_more h entries more (step ∷ steps) each within = (
  step_more h entries more step each.0 within.0,
  each_more h entries more steps each.1 within.1,
)

-- Items more in a record, none where it is none of a Batch.
pub record GrowsBy (s t : MirrorState) : Type 0 where
  pub more : List (Text × Text)
  pub items : t.items ≡ s.items ++ more
  pub log : t.log ≡ s.log

step_grows : (step : MirrorStep) (s : MirrorState) → GrowsBy s (mirror_by_step step s)
step_grows (mirrors_items items) s = record { more = items; items = refl; log = refl }
step_grows (mirrors_tiles size) s =
    record { more = []; items = sym (append-nil s.items); log = refl }
step_grows no_mirror_step s = record { more = []; items = sym (append-nil s.items); log = refl }

pub mirror_grows : (h : HashFunction) (m : List Text) (body : Text) (s t : MirrorState)
    → mirror_of h m ≡ Ok s → mirror_of h (m ++ body ∷ []) ≡ Ok t → GrowsBy s t
unfolding next_mirror
mirror_grows h m body s t was is =
    let takes = last_taken (mirror_fold h) m body s t was is in
    let step = mirror_step_in body in
    let made = when_some (takes_mirror_step h (view_in_mirror s) step)
    (Some (mirror_by_step step s)) t takes in
    subst (GrowsBy s) (same_Some (mirror_by_step step s) t made.1) (step_grows step s)

pub agrees_with_more : (h : HashFunction) (m list : List Text) (body : Text) (t : MirrorState)
    → Agrees h m list → mirror_of h (m ++ body ∷ []) ≡ Ok t → Agrees h (m ++ body ∷ []) list
agrees_with_more h m list body t agrees is =
    let grows = mirror_grows h m body agrees.state t agrees.is_mirror is in
    let entries = entries_in_mirror agrees.state in
    let more = map (λ item. item.0) grows.more in
    let all : entries_in_mirror t ≡ entries ++ more =
    ap (map (λ item. item.0)) grows.items
    ∙ map-append (λ item. item.0) agrees.state.items grows.more in
    record {
      state = t;
      is_mirror = is;
      signer = agrees.signer;
      is_cosigner = agrees.is_cosigner;
      one_log = grows.log ∙ agrees.one_log;
      steps = agrees.steps;
      are = agrees.are;
      each = subst (λ (l : List Text). AllByRecursion (IsStepOf h l) agrees.steps) (sym all)
          (each_more h entries more agrees.steps agrees.each (all_within h m list agrees));
    }
