-- The outcomes of the commands on a log's landmarks: `landmark` and `landmarks`.
use Rattle.std.specs.Prelude.{ℕ, ◌+◌, ◌++◌, false, List, length, codes, Option, Some, None}
use Rattle.std.specs.Fmt.{decimal}
use Rattle.byte_formats.specs.Types.{Text}
use Rattle.journal_core.specs.Format.{end_offset}
use Rattle.journal_core.specs.declared.error.AppendError.TheVariants as append_error
use Rattle.issuance_log.specs.Folds.{LogView, view_in}
use Rattle.issuance_log.specs.Openings.{FoundLog}
use Rattle.issuance_log.specs.Records.{landmark_record}
use Rattle.issuance_log.specs.Refusals.{mark_refusal}
use Rattle.issuance_log.specs.declared.error.LogError.{LogError}
use Rattle.issuance_log.specs.declared.error.LogError.TheVariants as log_error
use Rattle.landmarks.specs.Landmarks.{LandmarkList, landmarks_of}
use Rattle.landmarks.specs.Texts.{list_text}
use Rattle.mtc_command.specs.declared.answer.Said.TheVariants.{Done}
use Rattle.mtc_command.specs.declared.answer.Stopped.TheVariants.{Beyond}
use Rattle.mtc_command.specs.Answers.{Reply, Ending, replied, room_failed, no_memory, said}
use Rattle.mtc_command.specs.Answers.{refused}
use Rattle.mtc_command.specs.Steps.{Outcome, answers_on, appends}
use Rattle.issuance_log.specs.Reasons.{log_fault_text}
use Rattle.mtc_authority.specs.LogOutcomes.{not_allowed}

-- ---- landmark

-- The line of a landmark that was set: its number and its size.
abbrev pub landmark_line : ℕ → ℕ → Text
landmark_line number size =
    codes "landmark " ++ (decimal number ++ (codes " " ++ (decimal size ++ codes "\n")))

-- That of the next landmark, at the size of the log. Landmarks are numbered from 1 on.
abbrev pub next_line : LogView → Text
next_line v = landmark_line (length v.marks + 1) v.size

-- Why a log takes no landmark.
abbrev pub mark_refused : LogError → Reply
mark_refused log_error.NothingNew = not_allowed (log_fault_text log_error.NothingNew)
mark_refused why = refused Beyond None (log_fault_text why)

-- What comes of it in a command on this journal: the landmark is refused, unless the device failed
-- or memory was refused.
abbrev pub mark_ending : Text → LogError → Ending
mark_ending journal (log_error.Append append_error.Failed) = room_failed journal
mark_ending journal log_error.Memory = no_memory
mark_ending journal why = replied (mark_refused why)

-- These are the refusals of a landmark by a log that was opened just now.
abbrev pub MayRefuseMark : LogError → Type 0
MayRefuseMark log_error.NothingNew = Unit {0}
MayRefuseMark log_error.Memory = Unit {0}
MayRefuseMark (log_error.Append append_error.Failed) = Unit {0}
MayRefuseMark (log_error.Append append_error.Full) = Unit {0}
MayRefuseMark why = ⊥

-- A landmark at the size of the log is set, where it shows this and has these records, unless the
-- log refuses it.
abbrev pub marked_by : LogView → List Text → Option LogError → Outcome
marked_by v list None = appends list (landmark_record v.size) (next_line v)
marked_by v list (Some why) = answers_on list (mark_refused why)

abbrev pub marked : FoundLog → Option LogError → Outcome
marked found why = marked_by (view_in found.state) found.records why

-- What `landmark` makes of a log that was found.
abbrev pub landmark_says : FoundLog → Outcome
landmark_says found =
    marked found (mark_refusal (view_in found.state) false (end_offset found.records))

-- ---- landmarks

-- The landmarks of a log, as many of them active as it allows.
abbrev pub log_landmarks : LogView → LandmarkList
log_landmarks v = landmarks_of v.marks v.settings.max_active

-- Their list.
abbrev pub landmarks_reply : LogView → Reply
landmarks_reply v = said Done (list_text (log_landmarks v))
