-- What files are opened as a log with its tiles, and what a command has to reply over it.
use Rattle.std.specs.Prelude.{◌≡◌, ◌≢◌, ℕ, Bool, true, false, List, Option, Some, IfSome}
use Rattle.std.specs.Prelude.{IsOk, Result, Ok, Err}
use Rattle.byte_formats.specs.Types.{HashFunction, Text}
use Rattle.issuance_log.specs.Reasons.{log_open_text}
use Rattle.disk_core.specs.declared.disk.Disk.{Ghosts}
use Rattle.journal_core.specs.Format.{end_offset}
use Rattle.tree_core.specs.declared.hashing.TreeHash.{Ghosts as Hashes}
use Rattle.issuance_log.specs.Folds.{LogState, log_of, view_in}
use Rattle.issuance_log.specs.Openings.{FoundLog, log_read}
use Rattle.issuance_log.specs.Shown.{shown_with}
use Rattle.issuance_log.specs.Words.{LogStays, both_records, log_broken, log_disk, log_end}
use Rattle.issuance_log.specs.Words.{log_records, log_tiles_disk, modelled_by_both, modelled_state}
use Rattle.issuance_log.specs.Words.{view_of}
use Rattle.issuance_log.specs.declared.error.LogOpenError.{LogOpenError}
use Rattle.issuance_log.specs.declared.error.LogOpenError.TheVariants.{Open}
use Rattle.issuance_log.specs.declared.error.LogOpenError.TheVariants.{Tile as NoTiles}
use Rattle.issuance_log.specs.declared.log.Log.{Log}
use Rattle.mtc_io.specs.Counts.{Rose}
use Rattle.mtc_command.specs.Answers.{Ending, Reply, replied, refused}
use Rattle.mtc_command.specs.Answers.{IfReply, status_of, tiles_name}
use Rattle.mtc_command.specs.Endings.{FailsAt}
use Rattle.mtc_command.specs.Made.{ReadsAtMost}
use Rattle.mtc_command.specs.Steps.{Outcome, answers_on, held_in, with_file, with_form}
use Rattle.mtc_command.specs.Valid.{WorksValidly}
use Rattle.mtc_command.specs.Works.{HasWorkedTiled}
use Rattle.mtc_command.specs.declared.answer.Stopped.TheVariants.{BadForm}
pub use Rattle.mtc_tiled.specs.BadTiles.{unless_missing}
use Rattle.mtc_tiled.specs.Endings.{journal_open_ending, tiles_open_ending}
use Rattle.mtc_authority.specs.BadTiles.{first_bad}
use Rattle.mtc_authority.specs.CertOutcome.{cert_reply, light_reply}
use Rattle.mtc_authority.specs.IssueOutcome.{issue_says}
use Rattle.mtc_authority.specs.LandmarkOutcomes.{landmark_says, landmarks_reply}
use Rattle.mtc_authority.specs.ListOutcomes.{certs_reply, issue_list_says, light_certs_reply}
use Rattle.mtc_authority.specs.LogOutcomes.{checkpoint_reply, entries_from_reply}
use Rattle.mtc_authority.specs.LogOutcomes.{entries_reply}
use Rattle.mtc_authority.specs.RequestOutcomes.{consist_reply, subtree_reply}
use Rattle.mtc_authority.specs.SwitchOutcome.{switch_says}
use Rattle.mtc_authority.specs.TileOutcome.{rebuilt_reply, tile_says}
use Rattle.mtc_authority.specs.declared.work.Work.{Work}
use Rattle.mtc_authority.specs.declared.work.Work.TheVariants.{Checkpoint, Entries}
use Rattle.mtc_authority.specs.declared.work.Work.TheVariants.{EntriesFrom, Issue, Consist}
use Rattle.mtc_authority.specs.declared.work.Work.TheVariants.{Subtree, Landmark, Landmarks}
use Rattle.mtc_authority.specs.declared.work.Work.TheVariants.{LightCert}
use Rattle.mtc_authority.specs.declared.work.Work.TheVariants.{Cert, Switch, Tile}
use Rattle.mtc_authority.specs.declared.work.Work.TheVariants.{Certs, IssueList, LightCerts}

-- What comes of it: the line says that the file isn't a log, or that the file of its tiles doesn't
-- have them, unless the device of one failed or memory was refused.
abbrev pub log_open_ending : Text → LogOpenError → Ending
log_open_ending file (Open why) = journal_open_ending file why
log_open_ending file (NoTiles why) = tiles_open_ending file why
log_open_ending file why = replied (refused BadForm (Some file) (log_open_text why))

-- What comes of `tile-anew`, where this is the last size of the tiles, or the refusal.
abbrev pub rebuilt_ending : Text → Result ℕ LogOpenError → Ending
rebuilt_ending journal (Ok size) = replied (rebuilt_reply size)
rebuilt_ending journal (Err why) = log_open_ending journal why

-- The work lists items of the log. It writes them while it reads them.
abbrev pub lists_items : Work → Bool
lists_items (Entries size) = true
lists_items (EntriesFrom first size) = true
lists_items other = false

-- A log was found, with its records.
abbrev pub found_log : LogState → List Text → FoundLog
found_log state list = record { records = list; state = state }

-- What a command has to reply over a log that was found.
unfoldable pub log_says : HashFunction → Work → FoundLog → Outcome
log_says h Checkpoint found = answers_on found.records (checkpoint_reply h found.state.entries)
log_says h (Entries size) found = answers_on found.records (entries_reply size found.state)
log_says h (EntriesFrom first size) found =
    answers_on found.records (entries_from_reply first size found.state)
log_says h (Issue request) found = issue_says h request found
log_says h (Consist old new) found =
    answers_on found.records (consist_reply h old new found.state)
log_says h (Subtree start end size) found =
    answers_on found.records (subtree_reply h start end size found.state)
log_says h Landmark found = landmark_says found
log_says h Landmarks found = answers_on found.records (landmarks_reply (view_in found.state))
log_says h (LightCert index) found = answers_on found.records (light_reply h index found.state)
log_says h (Cert index start end signatures) found =
    answers_on found.records (cert_reply h index start end signatures found.state)
log_says h (IssueList requests) found = issue_list_says h requests found
log_says h (LightCerts first last) found =
    answers_on found.records (light_certs_reply h first last found.state)
log_says h (Certs first last start end signatures) found =
    answers_on found.records (certs_reply h first last start end signatures found.state)
log_says h Switch found = switch_says found
log_says h Tile found = tile_says found

abbrev pub tested_says : HashFunction → Text → Work → Text → FoundLog → Outcome
tested_says h journal work tiles found =
    unless_missing journal (first_bad h found.state tiles) (log_says h work found)

-- The outcome of a command on the log of a journal with these bytes, whose file of tiles has those.
abbrev pub log_bytes_say : HashFunction → Text → Work → Text → Text → Outcome
log_bytes_say h journal work bytes tiles =
    with_form log_open_text journal (log_read h bytes) (tested_says h journal work tiles)

-- The same over the files of their names. The journal may not be there, and where the tiles aren't,
-- their file is made empty.
unfoldable pub log_outcome : HashFunction → Text → Option Text → Option Text → Work → Outcome
log_outcome h journal file tiles work =
    with_file journal file (λ bytes. log_bytes_say h journal work bytes (held_in tiles))

-- The records of a journal make a log.
abbrev pub IsLog : HashFunction → List Text → Type 0
IsLog h list = IsOk (log_of h list)

module _ {H D : Type 0} {hashes : Hashes H} {g : Ghosts D} where
  -- A log that was opened just now.
  pub record IsReadyLog (log : Log H D D hashes g g) : Type 0 where
    pub sound : log_broken log ≡ false
    pub end : IfSome (log_records log) (λ list. log_end log ≡ end_offset list)
    pub view : IfSome (modelled_state log) (λ s. view_in s ≡ view_of log)

  -- The work on the log of this journal, which has to give that outcome.
  abbrev pub HasWorkedOnLog : Text → (FoundLog → Outcome) → Log H D D hashes g g
      → Log H D D hashes g g → Ending → Type 0
  HasWorkedOnLog name says old new ending = HasWorkedTiled g name (both_records old)
      (λ list. says (found_log (shown_with (view_of old) list) list)) (log_disk old) (log_disk new)
      (log_tiles_disk old) (log_tiles_disk new) ending

  -- And by which its records make a log again.
  abbrev pub StaysLog : HashFunction → (FoundLog → Outcome) → Log H D D hashes g g
      → Log H D D hashes g g → Type 0
  StaysLog h says old new = WorksValidly g (IsLog h) (log_records old)
      (λ list. says (found_log (shown_with (view_of old) list) list)) (log_disk old) (log_disk new)

  -- The device of the tiles was only read, or had no call, unless the work stores tiles.
  abbrev pub OnlyReadsTiles : Work → Log H D D hashes g g → Log H D D hashes g g → Type 0
  OnlyReadsTiles work old new =
      work ≢ Tile → ReadsAtMost g (log_tiles_disk old) (log_tiles_disk new)

  -- The work on the log of this journal that only reads it, and has to reply so to what its devices
  -- hold, as far as the model knows it.
  pub record RepliesOnLog (name : Text) (wanted : LogState → Reply) (old new : Log H D D hashes g g)
      (ending : Ending) : Type 0 where
    pub plain : IfReply ending (λ reply. status_of reply ≢ 1)
    pub fault : FailsAt (Rose (g.faults (log_disk old)) (g.faults (log_disk new))) name
        (Rose (g.faults (log_tiles_disk old)) (g.faults (log_tiles_disk new))) (tiles_name name)
        ending
    pub reply : IfReply ending (λ reply. IfSome (modelled_by_both old) (λ s. reply ≡ wanted s))
    pub stays : LogStays old new
