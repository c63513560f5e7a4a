-- A mirror and a cosigner that one program keeps: the cosigner signs what it computed from the
-- mirror.
use Rattle.std.specs.Prelude.{◌⊎◌, Bool, List, [], ◌∷◌, ◌++◌, if◌then◌else◌}
use Rattle.byte_formats.specs.Types.{Text}
use Rattle.disk_core.specs.Disk.{NoNew}
use Rattle.file_events.specs.Events.{CrashStates, Done, HalfDone, MayRecover, Journaled, appended}
use Rattle.file_events.specs.Events.{reads, started, untouched}
use Rattle.file_events.specs.Executions.{IsExecution}
use Rattle.file_events.specs.Laws.{IsDurablePrefix}

-- An event of both journals at once: what a run did with the mirror's and with the cosigner's.
pub data MirrorEvent : Type 0 where
  elsewhere : MirrorEvent
  ran : Bool → Journaled → Journaled → MirrorEvent
  broke : Journaled → Journaled → MirrorEvent

abbrev pub mirror_event_with : Bool → Bool → Journaled → Journaled → MirrorEvent
mirror_event_with broken heard m s = if broken then broke m s else ran heard m s

-- Which items and steps agree, which steps are computed from a mirror's items, and which agree with
-- any.
module _ (agrees : List Text → List Text → Type 0)
    (Computed : List Text → List Text → Text → Type 0) (Neutral : List Text → Text → Type 0) where
  -- Whatever is recovered of the mirror agrees with whatever is recovered of the cosigner.
  abbrev pub Agree : CrashStates → CrashStates → Type 0
  Agree mirror cosigner = (items steps : List Text) → MayRecover mirror items
      → MayRecover cosigner steps → agrees items steps

  -- What a run may do with both: it adds to one of them at most, and a step to the cosigner where
  -- it is computed from what was found of the mirror, or neutral.
  abbrev pub MayDo : Journaled → Journaled → Type 0
  MayDo untouched untouched = Unit {0}
  MayDo untouched (reads steps) = Unit {0}
  MayDo untouched (appended steps body) = Neutral steps body
  MayDo untouched (started body) = Unit {0}
  MayDo (reads items) untouched = Unit {0}
  MayDo (reads items) (reads steps) = Unit {0}
  MayDo (reads items) (appended steps body) = Computed items steps body
  MayDo (reads items) (started body) = Unit {0}
  MayDo (appended items batch) untouched = Unit {0}
  MayDo (appended items batch) (reads steps) = Unit {0}
  MayDo (appended items batch) (appended steps body) = ⊥
  MayDo (appended items batch) (started body) = ⊥
  MayDo (started batch) untouched = Unit {0}
  MayDo (started batch) (reads steps) = Unit {0}
  MayDo (started batch) (appended steps body) = ⊥
  MayDo (started batch) (started body) = ⊥

  module _ (ValidMirror ValidCosigner : List Text → Type 0) where
    -- What an event leaves of both journals.
    abbrev pub MirrorHappens : MirrorEvent → CrashStates → CrashStates → CrashStates
        → CrashStates → Type 0
    MirrorHappens elsewhere mirror cosigner mirror' cosigner' =
        NoNew mirror mirror' × NoNew cosigner cosigner'
    MirrorHappens (ran heard m s) mirror cosigner mirror' cosigner' = MayDo m s
        × (Done ValidMirror m mirror mirror' × Done ValidCosigner s cosigner cosigner')
    MirrorHappens (broke m s) mirror cosigner mirror' cosigner' =
        (NoNew mirror mirror' × NoNew cosigner cosigner')
        ⊎ (MayDo m s
        × (HalfDone ValidMirror m mirror mirror' × HalfDone ValidCosigner s cosigner cosigner'))

    pub record MirrorLeads (event : MirrorEvent)
        (mirror cosigner mirror' cosigner' : CrashStates) : Type 0 where
      pub some_mirror : (c : Text) × mirror' c
      pub some_cosigner : (c : Text) × cosigner' c
      pub happens : MirrorHappens event mirror cosigner mirror' cosigner'

    -- Items and steps that agree do so with more items, with a step that is computed from the
    -- items, and with a neutral step.
    pub record KeepsAgreement : Type 0 where
      pub more : (items steps : List Text) (batch : Text) → ValidMirror (items ++ batch ∷ [])
          → agrees items steps → agrees (items ++ batch ∷ []) steps
      pub computed : (items steps : List Text) (body : Text) → Computed items steps body
          → ValidCosigner (steps ++ body ∷ []) → agrees items steps
          → agrees items (steps ++ body ∷ [])
      pub neutral : (items steps : List Text) (body : Text) → Neutral steps body
          → ValidCosigner (steps ++ body ∷ []) → agrees items steps
          → agrees items (steps ++ body ∷ [])

    module _ {W : Type 0} (mirror cosigner : W → CrashStates) where
      -- The same of worlds, of which the crash states of both files count.
      abbrev pub LeadsMirror : MirrorEvent → W → W → Type 0
      LeadsMirror event old new =
          MirrorLeads event (mirror old) (cosigner old) (mirror new) (cosigner new)

      -- They agree from then on, whatever happens to both.
      abbrev pub AlwaysAgree : Type 0
      AlwaysAgree = KeepsAgreement → (items steps : List Text) (old new : W)
          (events : List MirrorEvent) → IsDurablePrefix ValidMirror items (mirror old)
          → IsDurablePrefix ValidCosigner steps (cosigner old) → Agree (mirror old) (cosigner old)
          → IsExecution LeadsMirror old events new → Agree (mirror new) (cosigner new)
