-- Why a run that broke off is one event of all its files, and a stop in the middle of a run is a
-- kill and then a stop: two files that are each as they may be, and don't go together.
use Rattle.std.specs.Prelude.{◌≡◌, ◌≢◌, ◌⊎◌, Bool, List, [], ◌∷◌, ◌++◌}
use Rattle.byte_formats.specs.Types.{Text}
use Rattle.journal_core.specs.Format.{Represents}
use Rattle.file_events.specs.Events.{CrashStates, Happens, Leads, appended, broke, reads}
use Rattle.file_events.specs.Executions.{IsPrefix}
use Rattle.file_events.specs.Mirrors.{Agree, KeepsAgreement, MayDo}
use Rattle.file_events.specs.Tiles.{Goes, LogLeads, stored, ran as ran_log}

-- A crash leaves these bytes; or it leaves one of two such.
abbrev pub only_state : Text → CrashStates
only_state a c = c ≡ a

abbrev pub two_states : Text → Text → CrashStates
two_states a b c = (c ≡ a) ⊎ (c ≡ b)

-- Whatever records there are.
abbrev pub AnyRecords : List Text → Type 0
AnyRecords list = Unit {0}

-- ---- file by file

module _ (items steps : List Text) (batch body : Text) where
  -- A mirror that has the batch agrees with any cosigner, and one without it only with
  -- the steps from before.
  abbrev pub agrees_after : List Text → List Text → Type 0
  agrees_after list others = (others ≡ steps) ⊎ IsPrefix (items ++ batch ∷ []) list

  -- A step is computed from a mirror that has the batch, and no step is neutral.
  abbrev pub computed_after : List Text → List Text → Text → Type 0
  computed_after list others step = IsPrefix (items ++ batch ∷ []) list

  abbrev pub never_neutral : List Text → Text → Type 0
  never_neutral others step = ⊥

  -- A crash may leave the mirror with the batch or without it. A run finds it there, and adds a
  -- step that it computed from it; and a file fails. The mirror may be left as it was, and the
  -- cosigner with its step: each is as it may be, and they don't agree.
  pub record FailsOneByOne (m m' s s' : Text) : Type 0 where
    pub laws : KeepsAgreement agrees_after computed_after never_neutral AnyRecords AnyRecords
    pub agree : Agree agrees_after computed_after never_neutral (two_states m m')
        (only_state s)
    pub may : MayDo agrees_after computed_after never_neutral (reads (items ++ batch ∷ []))
        (appended steps body)
    pub mirror : Happens AnyRecords (broke (reads (items ++ batch ∷ []))) (two_states m m')
        (two_states m m')
    pub cosigner : Happens AnyRecords (broke (appended steps body)) (only_state s)
        (only_state s')
    pub apart : Agree agrees_after computed_after never_neutral (two_states m m')
        (only_state s') → ⊥

-- So it is of all bytes that represent these records.
abbrev pub OneByOneFails : Type 0
OneByOneFails = (items steps : List Text) (batch body m m' s s' : Text) → Represents m items
    → Represents m' (items ++ batch ∷ []) → Represents s steps
    → Represents s' (steps ++ body ∷ []) → FailsOneByOne items steps batch body m m' s s'

-- ---- by their own clocks

module _ (list : List Text) (body t t' : Text) where
  -- The old tiles go with the records that were there, and the new ones with all.
  abbrev pub goes_after : List Text → Text → Type 0
  goes_after records bytes = (bytes ≡ t') ⊎ ((bytes ≡ t) × (records ≡ list))

  abbrev pub never_plain : List Text → Text → Type 0
  never_plain records step = ⊥

  -- A run stores tiles, and then adds the record. Each file by its own clock may be left so: the
  -- journal with its record, and the tiles from before. They don't go together.
  pub record GoesApart (c c' : Text) : Type 0 where
    pub goes : Goes goes_after (only_state c) (only_state t)
    pub ran : (heard : Bool) → LogLeads goes_after never_plain AnyRecords
        (ran_log heard (appended list body) stored) (only_state c) (only_state t)
        (only_state c') (only_state t')
    pub at_once : Leads AnyRecords (broke (appended list body)) (only_state c) (only_state c')
    pub apart : Goes goes_after (only_state c') (only_state t) → ⊥

-- So it is of all bytes that represent these records, and of all bytes of tiles.
abbrev pub ClocksGoApart : Type 0
ClocksGoApart = (list : List Text) (body c c' t t' : Text) → Represents c list
    → Represents c' (list ++ body ∷ []) → t ≢ t' → GoesApart list body t t' c c'
