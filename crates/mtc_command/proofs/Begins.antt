-- A new journal over any file system, from the call that makes it to the command.
use Rattle.std.proofs.Common.{◌≡◌, ◌⊎◌, inl, inr, ℕ, List, codes, Some, ◌∙◌, sym}
use Rattle.disk_core.specs.declared.disk.Disk.{Ghosts as Disks}
use Rattle.mtc_room.specs.Room.{Stays}
use Rattle.mtc_room.specs.declared.room.Room.{Ghosts as Rooms}
use Rattle.mtc_command.specs.Answers.{Ending, no_memory, replied, refused, room_failed}
use Rattle.mtc_command.specs.Endings.{IsInputStop}
use Rattle.mtc_command.specs.Works.{ModelsNew, HasBegunOn, HasNotOpened, not_new}
use Rattle.mtc_command.specs.declared.answer.Stopped.TheVariants.{Beyond, Missing}

not_exists : (name : List ℕ) (ending : Ending) → ending ≡ not_new name (codes "Exists")
    → ending ≡ not_new name (codes "NotEmpty") → ⊥
not_exists name ending exists is =
    let same : not_new name (codes "Exists") ≡ not_new name (codes "NotEmpty") = sym exists ∙ is in
    absurd cc

not_failed : (name : List ℕ) (ending : Ending) → ending ≡ room_failed name
    → ending ≡ not_new name (codes "NotEmpty") → ⊥
not_failed name ending failed is =
    let same : room_failed name ≡ not_new name (codes "NotEmpty") = sym failed ∙ is in
    absurd cc

not_absent : (file name : List ℕ) (ending : Ending)
    → ending ≡ replied (refused Missing (Some file) (codes "Absent"))
    → ending ≡ not_new name (codes "NotEmpty") → ⊥
not_absent file name ending absent is =
    let same : replied (refused Missing (Some file) (codes "Absent"))
    ≡ not_new name (codes "NotEmpty") = sym absent ∙ is in
    absurd cc

not_stopped : (file name : List ℕ) (ending : Ending) → IsInputStop file ending
    → ending ≡ not_new name (codes "NotEmpty") → ⊥
not_stopped file name ending (inl absent) is = not_absent file name ending absent is
not_stopped file name ending (inr (inl long)) is =
    let same : replied (refused Beyond (Some file) (codes "TooLong"))
    ≡ not_new name (codes "NotEmpty") = sym long ∙ is in
    absurd cc
not_stopped file name ending (inr (inr (inl failed))) is =
    let same : room_failed file ≡ not_new name (codes "NotEmpty") = sym failed ∙ is in
    absurd cc
not_stopped file name ending (inr (inr (inr memory))) is =
    let same : no_memory ≡ not_new name (codes "NotEmpty") = sym memory ∙ is in
    absurd cc

module _ {R S D : Type 0} (rooms : Rooms R S D) (g : Disks D) (name : List ℕ) where
  abbrev NameStays : R → R → Type 0
  NameStays old new =
      Stays (rooms.file old) (rooms.file new) (rooms.device old) (rooms.device new) name

  -- what making the journal says
  pub begins_of : (first text : List ℕ) (old new : R) (ending : Ending)
      → HasNotOpened rooms g name old new ending ⊎ HasBegunOn rooms g name first text new ending
      → ModelsNew rooms g name old new ending
  begins_of first text old new ending (inl not) =
      inl (
        not.stays,
        λ is. elim not.cause [
          | inl exists ↦ not_exists name ending exists.0 is
          | inr failed ↦ not_failed name ending failed.0 is
        ],
      )
  begins_of first text old new ending (inr begun) = inr (first, text, begun)

  -- after a step that leaves the name's file
  pub begins_after : (old mid new : R) (ending : Ending) → NameStays old mid
      → ModelsNew rooms g name mid new ending → ModelsNew rooms g name old new ending
  begins_after old mid new ending stays (inl not) = inl (
    record {
      bytes = not.0.bytes ∙ stays.bytes;
      disk = not.0.disk ∙ stays.disk;
    },
    not.1,
  )
  begins_after old mid new ending stays (inr begun) = inr begun

  -- where an input file stopped the command
  pub begins_stopped : (file : List ℕ) (old new : R) (ending : Ending) → NameStays old new
      → IsInputStop file ending → ModelsNew rooms g name old new ending
  begins_stopped file old new ending stays stop = inl (stays, not_stopped file name ending stop)
