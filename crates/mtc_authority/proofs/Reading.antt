-- A command that reads a request first, and what any that reads a file does.
use Rattle.std.proofs.Common.{◌≡◌, ◌≢◌, ◌≤◌, [], ◌∷◌, Option, Some, Ok, Err, length, inl, inr}
use Rattle.std.proofs.Common.{refl, sym, ap, ◌∙◌}
use Rattle.byte_formats.specs.Types.{HashFunction, Text}
use Rattle.disk_core.specs.declared.disk.Disk.{Ghosts as Disks}
use Rattle.mtc_room.specs.declared.room.Room.{Ghosts as Rooms}
use Rattle.authority_core.specs.Files.{request_of}
use Rattle.authority_core.specs.Requests.{RequestParts}
use Rattle.authority_core.specs.declared.requests.error.RequestError.{RequestError}
use Rattle.authority_core.specs.declared.requests.error.RequestError.TheVariants.{Memory}
use Rattle.mtc_command.specs.Answers.{no_memory, refused, replied, tiles_name}
use Rattle.mtc_command.specs.Served.{ClosesAll, HasDone}
use Rattle.mtc_command.specs.Steps.{Files, answers, with_form}
use Rattle.mtc_command.specs.declared.answer.Stopped.TheVariants.{BadForm}
use Rattle.mtc_command.proofs.Inputs.{bytes_read}
use Rattle.mtc_command.proofs.Made.{OnlyNow}
use Rattle.mtc_command.proofs.Served.{stopped}
use Rattle.mtc_authority.specs.IssueCommand.{issue_outcome, request_says}
use Rattle.authority_core.specs.Reasons.{request_fault_text}
use Rattle.mtc_authority.specs.IssueOutcome.{request_ending}
use Rattle.mtc_authority.specs.Works.{log_outcome}
use Rattle.mtc_authority.specs.declared.work.Work.TheVariants.{Issue}

module _ (h : HashFunction) (journal file : Text) (files : Files) (bytes : Text)
    (is : files file ≡ Some bytes) (few : length bytes ≤ 16777216) where
  abbrev tiles : Option Text
  tiles = files (tiles_name journal)

  read_so : issue_outcome h journal file files
      ≡ request_says h journal file (files journal) tiles bytes
  read_so = bytes_read 16777216 file (files file) bytes
      (request_says h journal file (files journal) tiles) is few

  -- and it is a request
  pub asked_so : (file' tiles' : Option Text) (r : RequestParts) → request_of bytes ≡ Ok r
      → file' ≡ files journal → tiles' ≡ tiles
      → log_outcome h journal file' tiles' (Issue r) ≡ issue_outcome h journal file files
  asked_so file' tiles' r read same same_tiles = sym (read_so
      ∙ ap (λ x. with_form request_fault_text file x
      (λ q. log_outcome h journal (files journal) tiles (Issue q))) read
      ∙ ap (λ x. log_outcome h journal x tiles (Issue r)) (sym same)
      ∙ ap (λ x. log_outcome h journal file' x (Issue r)) (sym same_tiles))

  -- or it is none
  refused_so : (why : RequestError) → request_of bytes ≡ Err why
      → issue_outcome h journal file files
      ≡ answers (refused BadForm (Some file) (request_fault_text why))
  refused_so why read = read_so ∙ ap (λ x. with_form request_fault_text file x
      (λ q. log_outcome h journal (files journal) tiles (Issue q))) read

-- the command ends where the file is no request
module _ {R S D : Type 0} (rooms : Rooms R S D) (disks : Disks D) (h : HashFunction)
    (journal file : Text) (old new : R) (bytes : Text) (back : ClosesAll rooms old new [])
    (only_now : OnlyNow disks)
    (is : rooms.is_modelled old
    → (rooms.file old file ≡ Some bytes) × (length bytes ≤ 16777216)) where
  no_request : (why : RequestError) → request_of bytes ≡ Err why
      → HasDone rooms disks ⊥ (journal ∷ tiles_name journal ∷ file ∷ []) (journal ∷ [])
      (tiles_name journal ∷ [])
      (issue_outcome h journal file (rooms.file old)) old new
      (replied (refused BadForm (Some file) (request_fault_text why)))
  no_request why read = stopped rooms disks _ _ _ _ old new back only_now _ tt (
    λ e. absurd cc,
    inr (inl refl),
    λ t. refused_so h journal file (rooms.file old) bytes (is t).0 (is t).1 why read,
  )

  pub unread : (why : RequestError) → (why ≢ Memory → request_of bytes ≡ Err why)
      → HasDone rooms disks ⊥ (journal ∷ tiles_name journal ∷ file ∷ []) (journal ∷ [])
      (tiles_name journal ∷ [])
      (issue_outcome h journal file (rooms.file old)) old new (request_ending file why)
  unread Memory read = stopped rooms disks _ _ _ _ old new back only_now no_memory tt tt
  unread other read = no_request other (read (λ e. absurd cc))
