-- The step that a mirror has a cosigner take in a command, over the devices of both, and what the
-- command leaves of the files.
use Rattle.std.specs.Prelude.{◌≢◌, List, [], ◌∷◌, Option, IfSome}
use Rattle.byte_formats.specs.Types.{HashFunction, Text}
use Rattle.mtc_io.specs.Counts.{Rose}
use Rattle.disk_core.specs.declared.disk.Disk.{Ghosts}
use Rattle.journal_core.specs.Owners.{Owner}
use Rattle.tree_core.specs.declared.hashing.TreeHash.{Ghosts as Hashes}
use Rattle.cosigner_core.specs.Folds.{CosignerState}
use Rattle.cosigner_core.specs.Openings.{FoundCosigner}
use Rattle.mirror_core.specs.Folds.{mirror_with}
use Rattle.mirror_core.specs.Openings.{FoundMirror}
use Rattle.mirror_core.specs.Words.{MirrorAsksTiles, mirror_both_records, mirror_tiles_disk}
use Rattle.mirror_core.specs.Words.{mirror_view}
use Rattle.mirror_core.specs.declared.mirror.Mirror.{Mirror}
use Rattle.mtc_room.specs.declared.room.Room.{Ghosts as Rooms}
use Rattle.mtc_command.specs.Answers.{Ending, IfReply, status_of, tiles_name}
use Rattle.mtc_command.specs.Endings.{AddsBy, FailsAt}
use Rattle.mtc_command.specs.Made.{IsOpen}
use Rattle.mtc_command.specs.Served.{HasDone, OnlyReadsBeside, done_with}
use Rattle.mtc_command.specs.Steps.{Outcome}
use Rattle.mtc_command.specs.Valid.{KeepsValid, WorksValidly}
use Rattle.mtc_command.specs.Wanted.{Meets}
use Rattle.mtc_command.specs.Works.{HasClosed, HasOpened, journaled_by}
use Rattle.mtc_cosigner.specs.Works.{IsCosigner, found_cosigner}
use Rattle.mtc_mirror.specs.Works.{found_mirror}
use Rattle.mtc_tiled.specs.Headers.{SparesTiles}
use Rattle.mtc_mirror_steps.specs.ReadSecond.{OnlyReadsJournal}
use Rattle.mtc_mirror_steps.specs.SecondStands.{SecondStands}
use Rattle.mtc_mirror_steps.specs.StepOutcomes.{mirror_step_outcome}

-- ---- the devices

module _ {D : Type 0} (g : Ghosts D) where
  -- The work on the open device of a first journal, where these records were found if the model
  -- knows them, has given this outcome of theirs.
  pub record GivesOnFirst (list : Option (List Text)) (says : List Text → Outcome) (old new : D)
      (ending : Ending) : Type 0 where
    pub reply : IfReply ending (λ reply. IfSome list (λ records. Meets (says records).answer reply))
    pub adds : IfSome list (λ records. IsOpen g old records
        → AddsBy g ending (journaled_by (says records)) old new)

module _ {H D : Type 0} {hashes : Hashes H} {g : Ghosts D} where
  -- The outcome of a step by the records of the cosigner, where these were found of the mirror.
  abbrev pub step_says : (FoundCosigner → FoundMirror → Outcome) → Owner D CosignerState
      → Mirror H D D hashes g g → List Text → List Text → Outcome
  step_says says cosigner mirror mirrored list = says (found_cosigner cosigner.state list)
      (found_mirror (mirror_with (mirror_view mirror) mirrored) mirrored)

  -- A step of the cosigner of the first of these journals, which the mirror of the second one has
  -- it take: the device of the cosigner became this one, and of the mirror's devices only that of
  -- the tiles was read. It has the outcome that it has to have, as far as the model knows the
  -- records of both, and its record makes a cosigner again.
  pub record HasTakenStep (name second : Text) (says : FoundCosigner → FoundMirror → Outcome)
      (cosigner : Owner D CosignerState) (new : D) (mirror later : Mirror H D D hashes g g)
      (ending : Ending) : Type 0 where
    pub plain : IfReply ending (λ reply. status_of reply ≢ 1)
    pub fault : FailsAt (Rose (g.faults cosigner.disk) (g.faults new)) name
        (Rose (g.faults (mirror_tiles_disk mirror)) (g.faults (mirror_tiles_disk later)))
        (tiles_name second) ending
    pub asks : MirrorAsksTiles mirror later
    pub gives : IfSome (mirror_both_records mirror) (λ mirrored. GivesOnFirst g cosigner.records
        (step_says says cosigner mirror mirrored) cosigner.disk new ending)
    pub valid : IfSome (mirror_both_records mirror) (λ mirrored.
        WorksValidly g (IsCosigner hashes.hash) cosigner.records
        (step_says says cosigner mirror mirrored) cosigner.disk new)

-- ---- the files

-- What a command has done that had to give this outcome of the journal of a cosigner and of that of
-- a mirror: of all files, and what it leaves of each journal; of the mirror and its tiles nothing
-- new, and no tiles beside what is no journal. If something new is left of the cosigner, the mirror
-- represents the records that were found in it.
pub record HasServedBoth {R S D : Type 0} (h : HashFunction) (rooms : Rooms R S D) (g : Ghosts D)
    (cosigner mirror : Text) (wanted : Outcome) (old new : R) (ending : Ending) : Type 0 where
  pub done : HasDone rooms g ⊥ (cosigner ∷ mirror ∷ tiles_name mirror ∷ [])
      (cosigner ∷ mirror ∷ []) (tiles_name mirror ∷ []) wanted old new ending
  pub valid : KeepsValid rooms g (IsCosigner h) (cosigner ∷ mirror ∷ []) wanted old new
  pub mirror_stays : rooms.is_modelled old → OnlyReadsJournal rooms g mirror old new
  pub only_read : OnlyReadsBeside rooms g old new (tiles_name mirror)
  pub spares_first : SparesTiles rooms old new cosigner
  pub spares_second : SparesTiles rooms old new mirror
  pub second : rooms.is_modelled old
      → SecondStands rooms g old new (done_with (cosigner ∷ mirror ∷ []) wanted.journals)

-- The device of the cosigner's journal was opened, and became that one while the mirror was opened
-- and closed: with whatever was before that and comes after it, the command has done this.
abbrev pub ServesAround : {R S D : Type 0} → HashFunction → Rooms R S D → Ghosts D → Text → Text
    → (FoundCosigner → FoundMirror → Outcome) → R → R → D → D → Ending → Type 0
ServesAround {R} h rooms g cosigner mirror says mid kept disk left ending = (old new : R)
    → HasOpened rooms g cosigner old mid disk → HasClosed rooms g cosigner kept new left
    → HasServedBoth h rooms g cosigner mirror
    (mirror_step_outcome h cosigner mirror says (rooms.file old)) old new ending
