-- What a state machine makes of a record.
use Rattle.std.specs.Prelude.{◌≡◌, ℕ, List, [], ◌∷◌, ◌++◌, Option, Some, None, Result, Ok, Err}
use Rattle.byte_formats.specs.Types.{Text}
use Rattle.journal_core.specs.Format.{following}
use Rattle.state_journal.specs.declared.error.Misfit.{Misfit}
use Rattle.state_journal.specs.declared.error.Misfit.TheVariants.{Unfit, Memory}
use Rattle.state_journal.specs.declared.error.NotBegun.{NotBegun}

-- a record that isn't taken breaks the rules, or it can't be taken now
abbrev pub IsMisfitOf : {S : Type 0} → Option S → Misfit → Type 0
IsMisfitOf wanted Unfit = wanted ≡ None
IsMisfitOf wanted Memory = Unit {0}

-- the record can't be taken now
abbrev pub IsOutOfMemory : {X : Type 0} → Result X Misfit → Type 0
IsOutOfMemory (Ok done) = ⊥
IsOutOfMemory (Err Unfit) = ⊥
IsOutOfMemory (Err Memory) = Unit {0}

-- What is returned where a record isn't taken: it became so, unless it could not be taken.
abbrev pub IsLeftBy : {R : Type 0} → (R → R → Type 0) → (R → R → Type 0) → R → R → Misfit → Type 0
IsLeftBy Becomes Stops was now Unfit = Becomes was now
IsLeftBy Becomes Stops was now Memory = Stops was now

module _ {M S : Type 0} where
  -- the first record begins this machine
  pub record IsBegunMachine (begins : Text → Option S) (state : M → S)
      (Keeps : M → List Text → Type 0) (body : Text) (it : M) : Type 0 where
    pub begun : begins body ≡ Some (state it)
    pub keeps : Keeps it (body ∷ [])

  -- what the first record begins, by the answer
  abbrev pub BeginsMachine : {R : Type 0} → (Text → Option S) → (M → S) → (M → List Text → Type 0)
      → Text → Result M (NotBegun R Misfit) → Type 0
  BeginsMachine begins state Keeps body (Ok it) = IsBegunMachine begins state Keeps body it
  BeginsMachine begins state Keeps body (Err e) = IsMisfitOf (begins body) e.why

  -- The record makes the new machine of the old one. If the old machine says something, in addition
  -- to its state, of records after which this one's commit byte stands, the new one says it of
  -- these and this one.
  pub record HasNextMachine (takes : S → Text → Option S) (state : M → S)
      (Keeps : M → List Text → Type 0) (place : ℕ) (body : Text) (old new : M) : Type 0 where
    pub next : takes (state old) body ≡ Some (state new)
    pub keeps : (list : List Text) → Keeps old list → place ≡ following 16 list
        → Keeps new (list ++ body ∷ [])

  -- what a later record makes, by the answer
  abbrev pub TakesRecord : (S → Text → Option S) → (M → S) → (M → List Text → Type 0) → ℕ → Text
      → M → M → Result (Unit {0}) Misfit → Type 0
  TakesRecord takes state Keeps place body old new (Ok done) =
      HasNextMachine takes state Keeps place body old new
  TakesRecord takes state Keeps place body old new (Err why) =
      IsMisfitOf (takes (state old) body) why
