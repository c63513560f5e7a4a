-- A command that reads the items of a file first.
use Rattle.std.proofs.Common.{◌≡◌, ◌≢◌, ◌≤◌, [], ◌∷◌, Option, Some, Ok, Err, length, inl, inr}
use Rattle.std.proofs.Common.{refl, sym, ap, ◌∙◌}
use Rattle.byte_formats.specs.Types.{HashFunction, Text}
use Rattle.disk_core.specs.declared.disk.Disk.{Ghosts as Disks}
use Rattle.entry_list.specs.Items.{ItemLists}
use Rattle.entry_list.specs.Reading.{items_in}
use Rattle.entry_list.specs.Reasons.{items_fault_text}
use Rattle.entry_list.specs.declared.error.ItemsError.{ItemsError}
use Rattle.entry_list.specs.declared.error.ItemsError.TheVariants.{Memory}
use Rattle.mirror_core.specs.Refusals.{pairs_of}
use Rattle.mtc_room.specs.declared.room.Room.{Ghosts as Rooms}
use Rattle.mtc_command.specs.Answers.{no_memory, refused, replied, tiles_name}
use Rattle.mtc_command.specs.Served.{ClosesAll, HasDone}
use Rattle.mtc_command.specs.Steps.{Files, answers, with_form}
use Rattle.mtc_command.specs.declared.answer.Stopped.TheVariants.{BadForm}
use Rattle.mtc_command.proofs.Inputs.{bytes_read}
use Rattle.mtc_command.proofs.Made.{OnlyNow}
use Rattle.mtc_command.proofs.Served.{stopped}
use Rattle.mtc_mirror.specs.Commands.{items_ending, mirror_take_outcome, mirrored_say}
use Rattle.mtc_mirror.specs.MirrorOutcomes.{take_says}
use Rattle.mtc_mirror.specs.Works.{mirror_outcome}

module _ (h : HashFunction) (journal file : Text) (files : Files) (bytes : Text)
    (is : files file ≡ Some bytes) (few : length bytes ≤ 8589934592) where
  abbrev tiles : Option Text
  tiles = files (tiles_name journal)

  read_so : mirror_take_outcome h journal file files
      ≡ mirrored_say h journal file (files journal) tiles bytes
  read_so = bytes_read 8589934592 file (files file) bytes
      (mirrored_say h journal file (files journal) tiles) is few

  -- and it is a list of items
  pub items_so : (file' tiles' : Option Text) (items : ItemLists) → items_in h bytes ≡ Ok items
      → file' ≡ files journal → tiles' ≡ tiles
      → mirror_outcome h journal file' tiles' (take_says (pairs_of items))
      ≡ mirror_take_outcome h journal file files
  items_so file' tiles' items read same same_tiles = sym (read_so
      ∙ ap (λ x. with_form items_fault_text file x
      (λ i. mirror_outcome h journal (files journal) tiles (take_says (pairs_of i)))) read
      ∙ ap (λ x. mirror_outcome h journal x tiles (take_says (pairs_of items))) (sym same)
      ∙ ap (λ x. mirror_outcome h journal file' x (take_says (pairs_of items))) (sym same_tiles))

  -- or it is none
  no_list : (why : ItemsError) → items_in h bytes ≡ Err why
      → mirror_take_outcome h journal file files
      ≡ answers (refused BadForm (Some file) (items_fault_text why))
  no_list why read = read_so ∙ ap (λ x. with_form items_fault_text file x
      (λ i. mirror_outcome h journal (files journal) tiles (take_says (pairs_of i)))) read

-- the command ends where the file is no list of items
module _ {R S D : Type 0} (rooms : Rooms R S D) (disks : Disks D) (h : HashFunction)
    (journal file : Text) (old new : R) (bytes : Text) (back : ClosesAll rooms old new [])
    (only_now : OnlyNow disks)
    (is : rooms.is_modelled old
    → (rooms.file old file ≡ Some bytes) × (length bytes ≤ 8589934592)) where
  no_items : (why : ItemsError) → items_in h bytes ≡ Err why
      → HasDone rooms disks ⊥ (journal ∷ tiles_name journal ∷ file ∷ []) (journal ∷ []) []
      (mirror_take_outcome h journal file (rooms.file old)) old new
      (replied (refused BadForm (Some file) (items_fault_text why)))
  no_items why read = stopped rooms disks _ _ _ _ old new back only_now _ tt (
    λ e. absurd cc,
    inr (inl refl),
    λ t. no_list h journal file (rooms.file old) bytes (is t).0 (is t).1 why read,
  )

  pub unread_items : (why : ItemsError) → (why ≢ Memory → items_in h bytes ≡ Err why)
      → HasDone rooms disks ⊥ (journal ∷ tiles_name journal ∷ file ∷ []) (journal ∷ []) []
      (mirror_take_outcome h journal file (rooms.file old)) old new (items_ending file why)
  unread_items Memory read = stopped rooms disks _ _ _ _ old new back only_now no_memory tt tt
  unread_items other read = no_items other (read (λ e. absurd cc))
