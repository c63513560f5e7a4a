-- What a command finds in a journal that it opens, and where it makes one.
use Rattle.std.proofs.Common.{◌≡◌, ◌⊎◌, inl, inr, ℕ, List, [], ◌∷◌, refl, sym, subst}
use Rattle.std.proofs.Common.{Option, None, Some, Result, Ok, Err, IsOk}
use Rattle.byte_formats.specs.Offsets.{IsBytes}
use Rattle.byte_formats.specs.Types.{HashFunction}
use Rattle.journal_core.specs.Format.{Represents}
use Rattle.mtc_words.specs.declared.error.WordError.{WordError}
use Rattle.mtc_words.specs.Commands.{CommandValue}
use Rattle.mtc_command.specs.Made.{IsOnOld, Journaled, untouched, reads, appended, started}
use Rattle.mtc_command.specs.Served.{OfEach, done_with}
use Rattle.mtc_command.specs.Steps.{Files}
use Rattle.command_plans.specs.Facts.{AreSoundly, HasRecords, IsSoundly}
use Rattle.command_plans.specs.Kinds.{Kinds}
use Rattle.command_plans.specs.Names.{journal_names}
use Rattle.command_plans.specs.Outcomes.{outcome_of}
use Rattle.command_plans.specs.Plans.{Beside, Journal, Plan, makes, opens}
use Rattle.command_plans.specs.Rules.{AreOfFirst, AreOfKind}
use Rattle.command_plans.proofs.Facts.{found_valid, made_new}
use Rattle.mtc_plans.specs.Commands.{plan_of}
use Rattle.mtc_plans.specs.PartyKinds.{party_kinds}
use Rattle.mtc_top.specs.Facts.{facts}

-- the file is a journal of these records, which follow the rules
pub record IsFound (Valid : List (List ℕ) → Type 0) (file : Option (List ℕ))
    (list : List (List ℕ)) : Type 0 where
  pub bytes : List ℕ
  pub there : file ≡ Some bytes
  pub stands : Represents bytes list
  pub valid : Valid list

-- so are the records that are found
abbrev pub Finds : (List (List ℕ) → Type 0) → Option (List ℕ) → Journaled → Type 0
Finds Valid file untouched = Unit {0}
Finds Valid file (reads list) = IsFound Valid file list
Finds Valid file (appended list body) = IsFound Valid file list
Finds Valid file (started body) = Unit {0}

-- the journal of this name was there, or its name had no file
abbrev pub IsNewAt : Files → List ℕ → Journaled → Type 0
IsNewAt files name did = IsOnOld did ⊎ (files name ≡ None)

-- ---- rules that the records of each journal follow

module _ (k : Kinds) (Valid : List (List ℕ) → Type 0) where
  -- records of a party of this kind follow the rules
  abbrev pub Keeps : k.Kind → Type 0
  Keeps kind = (list : List (List ℕ)) → AreOfKind k kind list → Valid list

  -- so it is of each of these journals
  abbrev pub EachKeeps : List (Journal k) → Type 0
  EachKeeps [] = Unit {0}
  EachKeeps (opens kind beside name ∷ rest) = Keeps kind × EachKeeps rest
  EachKeeps (makes kind name ∷ rest) = Keeps kind × EachKeeps rest

  first_keeps : (journals : List (Journal k)) → EachKeeps journals → (list : List (List ℕ))
      → AreOfFirst k journals list → Valid list
  first_keeps [] each list is = absurd is
  first_keeps (opens kind beside name ∷ rest) each list is = each.0 list is
  first_keeps (makes kind name ∷ rest) each list is = each.0 list is

-- so it is of the journals that the arguments name
abbrev pub SpokenKeeps : HashFunction → (List (List ℕ) → Type 0) → Result CommandValue WordError
    → Type 0
SpokenKeeps h Valid (Ok command) = EachKeeps (party_kinds h) Valid (plan_of h command).journals
SpokenKeeps h Valid (Err why) = Unit {0}

-- and of the records that a command may add
pub spoken_keeps : (h : HashFunction) (Valid : List (List ℕ) → Type 0)
    (r : Result CommandValue WordError) → SpokenKeeps h Valid r → (list : List (List ℕ))
    → (facts h r).Valid list → Valid list
spoken_keeps h Valid (Ok command) each list is =
    first_keeps (party_kinds h) Valid (plan_of h command).journals each list is
spoken_keeps h Valid (Err why) each list is = absurd is

-- ---- what is found

module _ (k : Kinds) (files : Files) (Valid : List (List ℕ) → Type 0) where
  abbrev FindsEach : List (List ℕ) → List Journaled → Type 0
  FindsEach names dids = OfEach (λ name did. Finds Valid (files name) did) (done_with names dids)

  found_so : (kind : k.Kind) (name : List ℕ) (list : List (List ℕ)) → Keeps k Valid kind
      → HasRecords k files kind name list → IsFound Valid (files name) list
  found_so kind name list keeps has = record {
    bytes = has.bytes;
    there = has.there;
    stands = has.stands;
    valid = keeps list (subst IsOk (sym has.is) refl);
  }

  opened_finds : (kind : k.Kind) (beside : Beside) (name : List ℕ) (did : Journaled)
      → Keeps k Valid kind → IsSoundly k files (opens kind beside name) did
      → Finds Valid (files name) did
  opened_finds kind beside name untouched keeps sound = tt
  opened_finds kind beside name (reads list) keeps sound = found_so kind name list keeps sound
  opened_finds kind beside name (appended list body) keeps sound =
      found_so kind name list keeps sound
  opened_finds kind beside name (started body) keeps sound = tt

  made_finds : (kind : k.Kind) (name : List ℕ) (did : Journaled)
      → IsSoundly k files (makes kind name) did → Finds Valid (files name) did
  made_finds kind name untouched sound = tt
  made_finds kind name (reads list) sound = absurd sound
  made_finds kind name (appended list body) sound = absurd sound
  made_finds kind name (started body) sound = tt

  each_finds : (journals : List (Journal k)) (dids : List Journaled)
      → EachKeeps k Valid journals
      → AreSoundly k files journals dids → FindsEach (journal_names journals) dids
  each_finds [] dids keep sound = tt
  each_finds (opens kind beside name ∷ rest) [] keep sound = absurd sound
  each_finds (makes kind name ∷ rest) [] keep sound = absurd sound
  each_finds (opens kind beside name ∷ rest) (did ∷ dids) keep sound = (
    opened_finds kind beside name did keep.0 sound.0,
    each_finds rest dids keep.1 sound.1,
  )
  each_finds (makes kind name ∷ rest) (did ∷ dids) keep sound =
      (made_finds kind name did sound.0, each_finds rest dids keep.1 sound.1)

  none_finds : (names : List (List ℕ)) → FindsEach names []
  none_finds [] = tt
  none_finds (name ∷ names) = (tt, none_finds names)

  plan_finds : (plan : Plan k) → EachKeeps k Valid plan.journals
      → ((name bytes : List ℕ) → files name ≡ Some bytes → IsBytes bytes)
      → FindsEach (journal_names plan.journals) (outcome_of plan files).journals
  plan_finds plan keep are = elim (found_valid k plan files are) [
    | inl none ↦ subst (FindsEach (journal_names plan.journals)) (sym none)
        (none_finds (journal_names plan.journals))
    | inr sound ↦ each_finds plan.journals (outcome_of plan files).journals keep sound
  ]

pub spoken_finds : (h : HashFunction) (files : Files) (Valid : List (List ℕ) → Type 0)
    → ((name bytes : List ℕ) → files name ≡ Some bytes → IsBytes bytes)
    → (r : Result CommandValue WordError) → SpokenKeeps h Valid r
    → OfEach (λ name did. Finds Valid (files name) did)
    (done_with (facts h r).journals ((facts h r).outcome files).journals)
spoken_finds h files Valid are (Ok command) keeps =
    plan_finds (party_kinds h) files Valid (plan_of h command) keeps are
spoken_finds h files Valid are (Err why) keeps = tt

-- ---- where a journal is made

pub spoken_new : (h : HashFunction) (r : Result CommandValue WordError) (files : Files)
    → OfEach (IsNewAt files)
    (done_with (facts h r).journals ((facts h r).outcome files).journals)
spoken_new h (Ok command) files = made_new (party_kinds h) (plan_of h command) files
spoken_new h (Err why) files = tt
