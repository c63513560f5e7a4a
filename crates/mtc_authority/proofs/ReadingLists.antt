-- A command that reads requests first, or signatures for several certificates.
use Rattle.std.proofs.Common.{◌≡◌, ◌≢◌, ◌≤◌, List, [], ◌∷◌, Option, Some, Ok, Err, length, inl, inr}
use Rattle.std.proofs.Common.{refl, sym, ap, ◌∙◌}
use Rattle.byte_formats.specs.Types.{HashFunction, Text}
use Rattle.disk_core.specs.declared.disk.Disk.{Ghosts as Disks}
use Rattle.mtc_room.specs.declared.room.Room.{Ghosts as Rooms}
use Rattle.authority_core.specs.Reasons.{request_list_fault_text}
use Rattle.authority_core.specs.RequestLists.{requests_of}
use Rattle.authority_core.specs.Requests.{RequestParts}
use Rattle.authority_core.specs.declared.requests.error.RequestListError.{RequestListError}
use Rattle.authority_core.specs.declared.requests.error.RequestListError.TheVariants.{Memory}
use Rattle.mtc_command.specs.Answers.{no_memory, refused, replied, tiles_name}
use Rattle.mtc_command.specs.Served.{ClosesAll, HasDone}
use Rattle.mtc_command.specs.Steps.{Files, answers, with_form}
use Rattle.mtc_command.specs.declared.answer.Stopped.TheVariants.{BadForm}
use Rattle.mtc_command.proofs.Inputs.{bytes_read}
use Rattle.mtc_command.proofs.Made.{OnlyNow}
use Rattle.mtc_command.proofs.Served.{stopped}
use Rattle.mtc_authority.specs.ListCommands.{issue_list_outcome, requests_say}
use Rattle.mtc_authority.specs.ListOutcomes.{request_list_ending}
use Rattle.mtc_authority.specs.Works.{log_outcome}
use Rattle.mtc_authority.specs.declared.work.Work.TheVariants.{IssueList}

module _ (h : HashFunction) (journal file : Text) (files : Files) (bytes : Text)
    (is : files file ≡ Some bytes) (few : length bytes ≤ 16777216) where
  abbrev tiles : Option Text
  tiles = files (tiles_name journal)

  read_so : issue_list_outcome h journal file files
      ≡ requests_say h journal file (files journal) tiles bytes
  read_so = bytes_read 16777216 file (files file) bytes
      (requests_say h journal file (files journal) tiles) is few

  -- and it is requests
  pub all_asked_so : (file' tiles' : Option Text) (rs : List RequestParts) → requests_of bytes ≡ Ok
      rs
      → file' ≡ files journal → tiles' ≡ tiles
      → log_outcome h journal file' tiles' (IssueList rs) ≡ issue_list_outcome h journal file files
  all_asked_so file' tiles' rs read same same_tiles = sym (read_so
      ∙ ap (λ x. with_form request_list_fault_text file x
      (λ q. log_outcome h journal (files journal) tiles (IssueList q))) read
      ∙ ap (λ x. log_outcome h journal x tiles (IssueList rs)) (sym same)
      ∙ ap (λ x. log_outcome h journal file' x (IssueList rs)) (sym same_tiles))

  -- or it is none
  list_refused_so : (why : RequestListError) → requests_of bytes ≡ Err why
      → issue_list_outcome h journal file files
      ≡ answers (refused BadForm (Some file) (request_list_fault_text why))
  list_refused_so why read = read_so ∙ ap (λ x. with_form request_list_fault_text file x
      (λ q. log_outcome h journal (files journal) tiles (IssueList q))) read

-- the command ends where the file is no list of requests
module _ {R S D : Type 0} (rooms : Rooms R S D) (disks : Disks D) (h : HashFunction)
    (journal file : Text) (old new : R) (bytes : Text) (back : ClosesAll rooms old new [])
    (only_now : OnlyNow disks)
    (is : rooms.is_modelled old
    → (rooms.file old file ≡ Some bytes) × (length bytes ≤ 16777216)) where
  no_requests : (why : RequestListError) → requests_of bytes ≡ Err why
      → HasDone rooms disks ⊥ (journal ∷ tiles_name journal ∷ file ∷ []) (journal ∷ [])
      (tiles_name journal ∷ [])
      (issue_list_outcome h journal file (rooms.file old)) old new
      (replied (refused BadForm (Some file) (request_list_fault_text why)))
  no_requests why read = stopped rooms disks _ _ _ _ old new back only_now _ tt (
    λ e. absurd cc,
    inr (inl refl),
    λ t. list_refused_so h journal file (rooms.file old) bytes (is t).0 (is t).1 why read,
  )

  pub unread_list : (why : RequestListError) → (why ≢ Memory → requests_of bytes ≡ Err why)
      → HasDone rooms disks ⊥ (journal ∷ tiles_name journal ∷ file ∷ []) (journal ∷ [])
      (tiles_name journal ∷ [])
      (issue_list_outcome h journal file (rooms.file old)) old new (request_list_ending file why)
  unread_list Memory read = stopped rooms disks _ _ _ _ old new back only_now no_memory tt tt
  unread_list other read = no_requests other (read (λ e. absurd cc))
