-- What is so of every command, whatever its plan.
use Rattle.std.proofs.Common.{◌≡◌, ◌≢◌, ◌⊎◌, inl, inr, ℕ, List, [], ◌∷◌, Option, None, Some, codes}
use Rattle.std.proofs.Common.{refl, sym, ap, subst, arith}
use Rattle.byte_formats.specs.Offsets.{IsBytes}
use Rattle.journal_core.specs.Folds.{Found}
use Rattle.journal_core.proofs.Standing.{found_stands}
use Rattle.mtc_command.specs.Answers.{Reply, IsEarly, refused, said, said_code, status_of}
use Rattle.mtc_command.specs.Answers.{stopped_code}
use Rattle.mtc_command.specs.Made.{IsOnOld, Journaled, started, untouched}
use Rattle.mtc_command.specs.Served.{OfEach, done_with}
use Rattle.mtc_command.specs.Steps.{Files, Outcome}
use Rattle.mtc_command.specs.Wanted.{Meets}
use Rattle.mtc_command.specs.declared.answer.Said.{Said}
use Rattle.mtc_command.specs.declared.answer.Said.TheVariants.{Against, Collided, Done}
use Rattle.mtc_command.specs.declared.answer.Stopped.{Stopped}
use Rattle.mtc_command.specs.declared.answer.Stopped.TheVariants.{BadForm, Beyond, Missing}
use Rattle.command_plans.specs.Comes.{Comes, absent, does, exists, misread, no_party, too_long}
use Rattle.command_plans.specs.Facts.{AreSoundly, FoundIsValid, HasPassed, HasRecords}
use Rattle.command_plans.specs.Facts.{HeardHasPassed, IsAbout, IsSoundly, MisreadIsAbout}
use Rattle.command_plans.specs.Facts.{NoCommandIsBadWords, UnopenedIsEarly}
use Rattle.command_plans.specs.Found.{AreFound, IsFound}
use Rattle.command_plans.specs.Kinds.{Kinds}
use Rattle.command_plans.specs.Names.{journal_names}
use Rattle.command_plans.specs.Outcomes.{journals_did, opened_did, outcome_of}
use Rattle.command_plans.specs.Outcomes.{wanted_of}
use Rattle.command_plans.specs.Plans.{Beside, Deeds, Finds, Journal, Judged, Plan, exceeds}
use Rattle.command_plans.specs.Plans.{forbids, makes, opens, prints, prints_formed, prints_pair}
use Rattle.command_plans.proofs.Coming.{outcomes_come}
use Rattle.command_plans.proofs.Reading.{input_named}

-- ---- the statuses

-- the statuses of work that is done or refused
abbrev IsJudged : ℕ → Type 0
IsJudged n = (n ≡ 0) ⊎ ((n ≡ 3) ⊎ ((n ≡ 10) ⊎ ((n ≡ 4) ⊎ (n ≡ 9))))

said_judged : (status : Said) → IsJudged (said_code status)
said_judged Done = inl refl
said_judged Against = inr (inl refl)
said_judged Collided = inr (inr (inl refl))

meets_judged : (judged : Judged) (reply : Reply) → Meets (wanted_of judged) reply
    → IsJudged (status_of reply)
meets_judged (prints status text) reply meets =
    subst (λ (r : Reply). IsJudged (status_of r)) (sym meets) (said_judged status)
meets_judged (prints_formed status form) (said kind text) meets = said_judged kind
meets_judged (prints_formed status form) (refused why file reason) meets = absurd meets
meets_judged (prints_pair status h encoded firsts seconds) (said kind text) meets =
    said_judged kind
meets_judged (prints_pair status h encoded firsts seconds) (refused why file reason) meets =
    absurd meets
meets_judged (forbids reason) reply meets =
    subst (λ (r : Reply). IsJudged (status_of r)) (sym meets) (inr (inr (inr (inl refl))))
meets_judged (exceeds reason) reply meets =
    subst (λ (r : Reply). IsJudged (status_of r)) (sym meets) (inr (inr (inr (inr refl))))

-- the status of a refusal
refused_code : (reply : Reply) (why : Stopped) (file : Option (List ℕ)) (reason : List ℕ)
    → reply ≡ refused why file reason → status_of reply ≡ stopped_code why
refused_code reply why file reason is = ap status_of is

module _ {k : Kinds} (plan : Plan k) (files : Files) (reply : Reply) where
  never_one : (o : Outcome) → Comes plan files o → Meets o.answer reply → status_of reply ≢ 1
  never_one o (absent file named none) meets one =
      let code = refused_code reply Missing _ _ meets in omega (arith, code, one)
  never_one o (too_long file long) meets one =
      let code = refused_code reply Beyond _ _ meets in omega (arith, code, one)
  never_one o (exists file bytes named there) meets one =
      let code = refused_code reply Missing _ _ meets in omega (arith, code, one)
  never_one o (misread read are input reason is) meets one =
      let code = refused_code reply BadForm _ _ meets in omega (arith, code, one)
  never_one o (no_party file reason not) meets one =
      let code = refused_code reply BadForm _ _ meets in omega (arith, code, one)
  never_one o (does read are say is founds found) meets one =
      let code = meets_judged (say founds).answer reply meets in omega (arith, code, one)

  about : (o : Outcome) → Comes plan files o → Meets o.answer reply → status_of reply ≡ 2
      → IsAbout k plan files reply
  about o (absent file named none) meets two =
      let code = refused_code reply Missing _ _ meets in absurd (omega (arith, code, two))
  about o (too_long file long) meets two =
      let code = refused_code reply Beyond _ _ meets in absurd (omega (arith, code, two))
  about o (exists file bytes named there) meets two =
      let code = refused_code reply Missing _ _ meets in absurd (omega (arith, code, two))
  about o (misread read are input reason is) meets two = record {
    file = input.file.name;
    reason = reason;
    is = meets;
    about = inl (input_named plan.inputs input.file input.is_input);
  }
  about o (no_party file reason not) meets two =
      record { file = file; reason = reason; is = meets; about = inr not }
  about o (does read are say is founds found) meets two =
      let code = meets_judged (say founds).answer reply meets in
      absurd (omega (arith, code, two))

pub never_words : (k : Kinds) → NoCommandIsBadWords k
never_words k plan files reply meets =
    never_one plan files reply (outcome_of plan files) (outcomes_come k plan files) meets

pub misread_about : (k : Kinds) → MisreadIsAbout k
misread_about k plan files reply meets two =
    about plan files reply (outcome_of plan files) (outcomes_come k plan files) meets two

-- ---- a journal that isn't opened

abbrev Early : Reply → List (List ℕ) → List Journaled → Type 0
Early reply names dids =
    OfEach (λ name did. did ≡ untouched → IsEarly (status_of reply)) (done_with names dids)

all_early : (reply : Reply) → IsEarly (status_of reply) → (names : List (List ℕ))
    (dids : List Journaled) → Early reply names dids
all_early reply early [] dids = tt
all_early reply early (name ∷ names) [] = (λ is. early, all_early reply early names [])
all_early reply early (name ∷ names) (did ∷ dids) =
    (λ is. early, all_early reply early names dids)

opened_touched : (list : List (List ℕ)) (more : Option (List ℕ))
    → opened_did list more ≡ untouched → ⊥
opened_touched list None is = cc
opened_touched list (Some body) is = cc

started_touched : (body : List ℕ) → started body ≡ untouched → ⊥
started_touched body is = cc

all_touched : {k : Kinds} (reply : Reply) (journals : List (Journal k)) (founds : Finds journals)
    (deeds : Deeds journals)
    → Early reply (journal_names journals) (journals_did journals founds deeds)
all_touched reply [] founds deeds = tt
all_touched reply (opens kind beside name ∷ rest) founds deeds = (
  λ is. absurd (opened_touched founds.0.records deeds.0 is),
  all_touched reply rest founds.1 deeds.1,
)
all_touched reply (makes kind name ∷ rest) founds deeds = (
  λ is. absurd (started_touched deeds.0 is),
  all_touched reply rest founds deeds.1,
)

two_early : (n : ℕ) → n ≡ 2 → IsEarly n
two_early n is = inr (inl is)

seven_early : (n : ℕ) → n ≡ 7 → IsEarly n
seven_early n is = inr (inr (inr (inl is)))

nine_early : (n : ℕ) → n ≡ 9 → IsEarly n
nine_early n is = inr (inr (inr (inr (inr is))))

module _ {k : Kinds} (plan : Plan k) (files : Files) (reply : Reply) where
  early : (o : Outcome) → Comes plan files o → Meets o.answer reply
      → Early reply (journal_names plan.journals) o.journals
  early o (absent file named none) meets =
      all_early reply (seven_early _ (refused_code reply Missing _ _ meets)) _ []
  early o (too_long file long) meets =
      all_early reply (nine_early _ (refused_code reply Beyond _ _ meets)) _ []
  early o (exists file bytes named there) meets =
      all_early reply (seven_early _ (refused_code reply Missing _ _ meets)) _ []
  early o (misread read are input reason is) meets =
      all_early reply (two_early _ (refused_code reply BadForm _ _ meets)) _ []
  early o (no_party file reason not) meets =
      all_early reply (two_early _ (refused_code reply BadForm _ _ meets)) _ []
  early o (does read are say is founds found) meets =
      all_touched reply plan.journals founds (say founds).does

pub unopened_early : (k : Kinds) → UnopenedIsEarly k
unopened_early k plan files reply meets =
    early plan files reply (outcome_of plan files) (outcomes_come k plan files) meets

-- ---- what was found

module _ (k : Kinds) (files : Files)
    (are : (name bytes : List ℕ) → files name ≡ Some bytes → IsBytes bytes) where
  holds : (kind : k.Kind) (name : List ℕ) (found : Found (k.State kind))
      → IsFound k files kind name found → HasRecords k files kind name found.records
  holds kind name found is =
      let s = found_stands (k.fold kind) is.bytes found (are name is.bytes is.there) is.is in
      record {
        bytes = is.bytes;
        there = is.there;
        stands = s.0;
        state = found.state;
        is = s.1;
      }

  soundly : (kind : k.Kind) (beside : Beside) (name : List ℕ) (found : Found (k.State kind))
      (more : Option (List ℕ)) → IsFound k files kind name found
      → IsSoundly k files (opens kind beside name) (opened_did found.records more)
  soundly kind beside name found None is = holds kind name found is
  soundly kind beside name found (Some body) is = holds kind name found is

  each_soundly : (journals : List (Journal k)) (founds : Finds journals) (deeds : Deeds journals)
      → AreFound k files journals founds
      → AreSoundly k files journals (journals_did journals founds deeds)
  each_soundly [] founds deeds found = tt
  each_soundly (opens kind beside name ∷ rest) founds deeds found = (
    soundly kind beside name founds.0 deeds.0 found.0,
    each_soundly rest founds.1 deeds.1 found.1,
  )
  each_soundly (makes kind name ∷ rest) founds deeds found =
      (found.0, each_soundly rest founds deeds.1 found.1)

  valid : (plan : Plan k) (o : Outcome) → Comes plan files o
      → (o.journals ≡ []) ⊎ AreSoundly k files plan.journals o.journals
  valid plan o (absent file named none) = inl refl
  valid plan o (too_long file long) = inl refl
  valid plan o (exists file bytes named there) = inl refl
  valid plan o (misread read are_read input reason is) = inl refl
  valid plan o (no_party file reason not) = inl refl
  valid plan o (does read are_read say is founds found) =
      inr (each_soundly plan.journals founds (say founds).does found)

pub found_valid : (k : Kinds) → FoundIsValid k
found_valid k plan files are =
    valid k files are plan (outcome_of plan files) (outcomes_come k plan files)

-- ---- a journal that is made

-- each of them was there, or has no file
abbrev pub AreNew : Files → List (List ℕ) → List Journaled → Type 0
AreNew files names dids =
    OfEach (λ name did. IsOnOld did ⊎ (files name ≡ None)) (done_with names dids)

none_new : (files : Files) (names : List (List ℕ)) → AreNew files names []
none_new files [] = tt
none_new files (name ∷ names) = (inl tt, none_new files names)

opened_old : (list : List (List ℕ)) (more : Option (List ℕ)) → IsOnOld (opened_did list more)
opened_old list None = tt
opened_old list (Some body) = tt

each_new : {k : Kinds} (files : Files) (journals : List (Journal k)) (founds : Finds journals)
    (deeds : Deeds journals) → AreFound k files journals founds
    → AreNew files (journal_names journals) (journals_did journals founds deeds)
each_new files [] founds deeds found = tt
each_new files (opens kind beside name ∷ rest) founds deeds found = (
  inl (opened_old founds.0.records deeds.0),
  each_new files rest founds.1 deeds.1 found.1,
)
each_new files (makes kind name ∷ rest) founds deeds found =
    (inr found.0, each_new files rest founds deeds.1 found.1)

plan_new : {k : Kinds} (plan : Plan k) (files : Files) (o : Outcome) → Comes plan files o
    → AreNew files (journal_names plan.journals) o.journals
plan_new plan files o (absent file named none) = none_new files _
plan_new plan files o (too_long file long) = none_new files _
plan_new plan files o (exists file bytes named there) = none_new files _
plan_new plan files o (misread read are input reason is) = none_new files _
plan_new plan files o (no_party file reason not) = none_new files _
plan_new plan files o (does read are say is founds found) =
    each_new files plan.journals founds (say founds).does found

pub made_new : (k : Kinds) (plan : Plan k) (files : Files)
    → AreNew files (journal_names plan.journals) (outcome_of plan files).journals
made_new k plan files = plan_new plan files (outcome_of plan files) (outcomes_come k plan files)

-- ---- what was passed

pub not_refused : (status : Said) (text : List ℕ) (why : Stopped) (file : Option (List ℕ))
    (reason : List ℕ) → said status text ≡ refused why file reason → ⊥
not_refused status text why file reason is = cc

module _ {k : Kinds} (plan : Plan k) (files : Files) (status : Said) (text : List ℕ) where
  passed : (o : Outcome) → Comes plan files o → outcome_of plan files ≡ o
      → Meets o.answer (said status text) → HasPassed k plan files status text
  passed o (absent file named none) is meets =
      absurd (not_refused status text Missing (Some file) (codes "Absent") meets)
  passed o (too_long file long) is meets =
      absurd (not_refused status text Beyond (Some file) (codes "TooLong") meets)
  passed o (exists file bytes named there) is meets =
      absurd (not_refused status text Missing (Some file) (codes "Exists") meets)
  passed o (misread read are input reason so) is meets =
      absurd (not_refused status text BadForm (Some input.file.name) reason meets)
  passed o (no_party file reason not) is meets =
      absurd (not_refused status text BadForm (Some file) reason meets)
  passed o (does read are say so founds found) is meets = record {
    read = read;
    are_read = are;
    say = say;
    works_so = so;
    founds = founds;
    are_found = found;
    is = is;
    meets = meets;
  }

pub heard_passed : (k : Kinds) → HeardHasPassed k
heard_passed k plan files status text meets =
    passed plan files status text (outcome_of plan files) (outcomes_come k plan files) refl meets
