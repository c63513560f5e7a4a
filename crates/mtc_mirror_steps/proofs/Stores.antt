-- What a command leaves at once of each journal and of the file beside it, that only reads the
-- second one of two journals and the file of its tiles.
use Rattle.std.proofs.Common.{◌≢◌, inl, inr, List, [], ◌∷◌, codes}
use Rattle.std.proofs.lemmas.List.{append_cancel_right}
use Rattle.byte_formats.specs.Types.{HashFunction, Text}
use Rattle.disk_core.specs.declared.disk.Disk.{Ghosts}
use Rattle.mtc_room.specs.declared.room.Room.{Ghosts as Rooms}
use Rattle.mtc_command.specs.Answers.{Ending, tiles_name}
use Rattle.mtc_command.specs.Steps.{Outcome}
use Rattle.mtc_command.specs.Stored.{StoresBeside}
use Rattle.mtc_mirror_steps.specs.StepWorks.{HasServedBoth}

-- The file beside the first journal is none of the command, and of the second one and the file
-- beside it nothing new is left.
pub both_store : (goes : List Text → Text → Type 0) (Valid : List Text → Type 0) {R S D : Type 0}
    (rooms : Rooms R S D) (g : Ghosts D) (h : HashFunction) (cosigner mirror : Text)
    (wanted : Outcome) (old new : R) (ending : Ending) → cosigner ≢ mirror
    → HasServedBoth h rooms g cosigner mirror wanted old new ending
    → StoresBeside goes Valid rooms g old new (cosigner ∷ mirror ∷ [])
    (tiles_name mirror ∷ []) wanted
both_store goes Valid rooms g h cosigner mirror wanted old new ending differ served t = (
  λ named. elim named [
    | inl same ↦ absurd (differ (append_cancel_right cosigner mirror (codes ".tiles") same))
    | inr never ↦ absurd never
  ],
  (
    λ named.
        let stays = served.mirror_stays t in
        inl (record {
          journal = stays.leaves;
          contents = stays.contents;
          beside = served.only_read t;
        }),
    tt,
  ),
)
