-- What the commands do with their journals that have a cosigner take the steps of its mirror.
use Rattle.std.proofs.Common.{◌≡◌, ◌⊎◌, inl, inr, ℕ, ◌≤◌, Bool, true, false, List, []}
use Rattle.std.proofs.Common.{◌∷◌, Option, None, Some, IfSome, Ok, refl, sym, subst, ap, ◌∙◌, arith}
use Rattle.std.proofs.Common.{if◌then◌else◌}
use Rattle.std.proofs.lemmas.Bool.{false_from_ne_true}
use Rattle.std.proofs.lemmas.Option.{none-some}
use Rattle.byte_formats.specs.Types.{HashFunction, Text}
use Rattle.file_events.specs.Mirrors.{MayDo}
use Rattle.file_events.specs.Worlds.{done_to}
use Rattle.lms_core.specs.Heights.{IsSigningHeight}
use Rattle.lms_core.specs.declared.heights.LmsType.{LmsType}
use Rattle.hss_keys.specs.Keys.{CountsKeys, most_children}
use Rattle.cosigner_core.specs.Children.{child_refusal, child_refusal_with, child_refused}
use Rattle.cosigner_core.specs.Children.{child_text, next_child}
use Rattle.cosigner_core.specs.Folds.{CosignerState, cosigner_of}
use Rattle.cosigner_core.specs.Openings.{FoundCosigner, cosigner_read}
use Rattle.cosigner_core.specs.Records.{step_in}
use Rattle.cosigner_core.specs.declared.error.ChildError.TheVariants.{OneLevel}
use Rattle.cosigner_core.specs.declared.step.Step.TheVariants.{Child}
use Rattle.cosigner_core.proofs.Allowed.{none_first}
use Rattle.cosigner_core.proofs.Counts.{counts_up}
use Rattle.cosigner_core.proofs.Encoded.{step_again}
use Rattle.cosigner_core.proofs.Keys.{small_leaves}
use Rattle.mirror_core.specs.Openings.{FoundMirror}
use Rattle.mirror_cosigner.specs.Agreement.{Agrees, IsAskedStep, IsChildRecord}
use Rattle.mtc_room.specs.Places.{is_one_place, place_of}
use Rattle.mtc_room.proofs.Places.{one_place_is, one_place_of}
use Rattle.mtc_command.specs.Made.{Journaled, appended, reads, started, untouched}
use Rattle.mtc_command.specs.Served.{done_with}
use Rattle.mtc_command.specs.Steps.{Files, Outcome}
use Rattle.command_plans.specs.Comes.{Comes, absent, does, exists, misread, no_party, too_long}
use Rattle.command_plans.specs.Outcomes.{deed_outcome, opened_did, outcome_of}
use Rattle.command_plans.specs.Plans.{Deed, Judged, Plan, works}
use Rattle.command_plans.proofs.Coming.{outcomes_come}
use Rattle.mtc_plans.specs.CosignerPlans.{child_plan, child_reported}
use Rattle.mtc_plans.specs.Heard.{FindsBoth}
use Rattle.mtc_plans.specs.MirrorPlans.{both_plan, deed_on_first}
use Rattle.mtc_plans.specs.PartyKinds.{party_kinds}
use Rattle.mtc_plans.specs.Steps.{StepReport, added_by, deed_on}
use Rattle.mtc_plans.proofs.Heard.{same_work}

-- ---- a cosigner and a mirror

module _ (h : HashFunction) (files : Files) (signer journal : List ℕ)
    (reported : FoundCosigner → FoundMirror → StepReport) where
  abbrev plan : Plan (party_kinds h)
  plan = both_plan h signer journal reported

  -- both were found, and this was done with their journals
  pub record WorksOnBoth (outcome : Outcome) : Type 0 where
    pub both : FindsBoth h files signer journal
    pub did : outcome.journals ≡ opened_did both.found.records
        (reported both.found both.mirrored).1 ∷ (reads both.mirrored.records ∷ [])

  came_to : (outcome : Outcome) → Comes plan files outcome
      → (outcome.journals ≡ []) ⊎ WorksOnBoth outcome
  came_to outcome (absent file named none) = inl refl
  came_to outcome (too_long file long) = inl refl
  came_to outcome (exists file bytes named there) = inl refl
  came_to outcome (misread texts are read reason is) = inl refl
  came_to outcome (no_party file reason any) = inl refl
  came_to outcome (does texts are say is founds found) =
      let one = founds.0 in
      let other = founds.1.0 in
      let deed : Deed plan.journals = deed_on_first h signer journal (reported one other) in
      let same : deed ≡ say founds = same_work say
      (λ founds. deed_on_first h signer journal (reported founds.0 founds.1.0)) founds
      (works say) refl is in
      inr (record {
        both = record {
          held = found.0.bytes;
          there = found.0.there;
          found = one;
          is_cosigner = found.0.is;
          mirror_held = found.1.0.bytes;
          mirror_there = found.1.0.there;
          mirrored = other;
          is_mirror = found.1.0.is;
        };
        did = ap (λ (d : Deed plan.journals). (deed_outcome plan.journals founds d).journals)
            (sym same);
      })

  pub works_on_both : ((outcome_of plan files).journals ≡ []) ⊎ WorksOnBoth (outcome_of plan files)
  works_on_both = came_to (outcome_of plan files) (outcomes_come (party_kinds h) plan files)

-- ---- a further lower tree

-- the cosigner was found, and its next Child was added or not
pub record WorksOnOne (h : HashFunction) (files : Files) (signer : List ℕ) (outcome : Outcome)
    : Type 0 where
  pub held : List ℕ
  pub there : files signer ≡ Some held
  pub found : FoundCosigner
  pub is_cosigner : cosigner_read h held ≡ Ok found
  pub did : outcome.journals ≡ opened_did found.records (child_reported found).1 ∷ []

module _ (h : HashFunction) (files : Files) (signer : List ℕ) where
  abbrev children : Plan (party_kinds h)
  children = child_plan h signer

  child_came_to : (outcome : Outcome) → Comes children files outcome
      → (outcome.journals ≡ []) ⊎ WorksOnOne h files signer outcome
  child_came_to outcome (absent file named none) = inl refl
  child_came_to outcome (too_long file long) = inl refl
  child_came_to outcome (exists file bytes named there) = inl refl
  child_came_to outcome (misread texts are read reason is) = inl refl
  child_came_to outcome (no_party file reason any) = inl refl
  child_came_to outcome (does texts are say is founds found) =
      let deed : Deed children.journals = deed_on (child_reported founds.0) in
      let same : deed ≡ say founds = same_work say (λ founds. deed_on (child_reported founds.0))
      founds (works say) refl is in
      inr (record {
        held = found.0.bytes;
        there = found.0.there;
        found = founds.0;
        is_cosigner = found.0.is;
        did = ap (λ (d : Deed children.journals).
            (deed_outcome children.journals founds d).journals) (sym same);
      })

  pub child_works : ((outcome_of children files).journals ≡ [])
      ⊎ WorksOnOne h files signer (outcome_of children files)
  child_works = child_came_to (outcome_of children files)
      (outcomes_come (party_kinds h) children files)

-- its record is read as a Child
pub child_read : (h : HashFunction) (list : List (List ℕ)) (s : CosignerState) (end : ℕ)
    → cosigner_of h list ≡ Ok s → child_refused s false end ≡ None → IsChildRecord (next_child s)
unfolding child_refusal
child_read h list s end is_cosigner fits = go s.key.key.low refl
  where
    counts : CountsKeys s.key
    counts = (counts_up h list s is_cosigner).1

    go : (known : Option LmsType) → s.key.key.low ≡ known → IsChildRecord (next_child s)
    go None known =
        let wrong : Some OneLevel ≡ None =
        ap (λ (o : Option LmsType). child_refusal_with o s) (sym known)
        ∙ none_first (child_refusal s) _ fits in
        absurd (none-some OneLevel (sym wrong))
    go (Some low) known =
        let few = counts.few in
        let leaves = small_leaves s.key.key.top.lms counts.top in
        let most : most_children s.key.key.top.lms s.key.key.low ≤ 1024 =
        subst (λ (o : Option LmsType). most_children s.key.key.top.lms o ≤ 1024) (sym known) leaves
        in record {
          number = s.key.children;
          low = low;
          said = ap (λ (o : Option LmsType). step_in (child_text s.key.children o)) known
              ∙ step_again (Child s.key.children low) (record {
                short_word = omega (arith, few, most);
                small = subst (λ (o : Option LmsType). IfSome o IsSigningHeight) known counts.low;
              });
        }

-- ---- a record that is added, or none

-- where nothing is refused the record is added, and else none
pub added_only : {E : Type 0} (P : Option (List ℕ) → Type 0) (judged : E → Judged)
    (body line : List ℕ) (why : Option E) → (why ≡ None → P (Some body)) → P None
    → P (added_by judged body line why).1
added_only P judged body line None some none = some refl
added_only P judged body line (Some reason) some none = none

-- ---- what is done at a place

module _ (leads_to : Text → Text) (other : Text) where
  pub first_at : (name : Text) (names : List Text) (did : Journaled) (dids : List Journaled)
      → place_of leads_to name ≡ place_of leads_to other
      → done_to leads_to (done_with (name ∷ names) (did ∷ dids)) other ≡ did
  first_at name names did dids same =
      ap (λ (b : Bool). if b then did else done_to leads_to (done_with names dids) other)
      (one_place_of leads_to name other same)

  pub later_at : (name : Text) (names : List Text) (did : Journaled) (dids : List Journaled)
      → (place_of leads_to name ≡ place_of leads_to other → ⊥)
      → done_to leads_to (done_with (name ∷ names) (did ∷ dids)) other
      ≡ done_to leads_to (done_with names dids) other
  later_at name names did dids differ =
      ap (λ (b : Bool). if b then did else done_to leads_to (done_with names dids) other)
      (false_from_ne_true (is_one_place leads_to name other)
      (λ is. differ (one_place_is leads_to name other is)))

  pub none_at : (names : List Text) → done_to leads_to (done_with names []) other ≡ untouched
  none_at [] = refl
  none_at (name ∷ names) = go (is_one_place leads_to name other) (none_at names)
    where
      go : (b : Bool) → done_to leads_to (done_with names []) other ≡ untouched
          → (if b then untouched else done_to leads_to (done_with names []) other) ≡ untouched
      go true rest = refl
      go false rest = rest

-- ---- what may be done with both

module _ (h : HashFunction) where
  abbrev pub May : Journaled → Journaled → Type 0
  May = MayDo (Agrees h) (IsAskedStep h) (λ steps body. IsChildRecord body)

  pub may_leave : (m s : Journaled) → s ≡ untouched → May m s
  may_leave m s is = subst (May m) (sym is) (go m)
    where
      go : (m : Journaled) → May m untouched
      go untouched = tt
      go (reads list) = tt
      go (appended list body) = tt
      go (started body) = tt
