-- How a command ends: with a reply or without one; and what a reply means: the status, and what
-- goes to standard output and to standard error.
use Rattle.std.specs.Prelude.{◌≡◌, ◌⊎◌, ℕ, [], ◌++◌, codes, Option, Some, option_map}
use Rattle.std.specs.Prelude.{Result, Ok, Err}
use Rattle.std.specs.Fmt.{decimal}
use Rattle.byte_formats.specs.Types.{Text}
use Rattle.hex.specs.Hex.{encode_lower}
use Rattle.mtc_command.specs.Lines.{line_of}
use Rattle.mtc_command.specs.declared.answer.Said.{Said}
use Rattle.mtc_command.specs.declared.answer.Said.TheVariants.{Done, Against, Collided}
use Rattle.mtc_command.specs.declared.answer.Stopped.{Stopped}
use Rattle.mtc_command.specs.declared.answer.Stopped.TheVariants.{BadWords, BadForm}
use Rattle.mtc_command.specs.declared.answer.Stopped.TheVariants.{NotAllowed}
use Rattle.mtc_command.specs.declared.answer.Stopped.TheVariants.{Missing, Beyond}
use Rattle.mtc_command.specs.declared.answer.Answer.{Answer}
use Rattle.mtc_command.specs.declared.answer.More.{More}
use Rattle.mtc_command.specs.declared.answer.More.TheVariants.{Nothing, Name, Number, Numbers}
use Rattle.mtc_command.specs.declared.answer.More.TheVariants.{Hashes, NameAndNumber}
use Rattle.mtc_command.specs.declared.answer.Reason.{Reason}
use Rattle.mtc_command.specs.declared.answer.Refusal.{Refusal}
use Rattle.mtc_command.specs.declared.answer.Stop.{Stop}
use Rattle.mtc_command.specs.declared.answer.Stop.TheVariants.{Refused, Room, Memory}
use Rattle.mtc_command.specs.declared.answer.Stop.TheVariants.{Tiles, BadTile}

-- What a command replies.
pub data Reply : Type 0 where
  -- It did its work or judged, and this goes to standard output.
  said : Said → Text → Reply
  -- It is refused: why, the file that the refusal is about, and the reason.
  refused : Stopped → Option Text → Text → Reply

-- How a command ends.
pub data Ending : Type 0 where
  replied : Reply → Ending
  -- The file system, or an object that it opened, failed at this file.
  room_failed : Text → Ending
  -- Memory was refused.
  no_memory : Ending

-- The status of what is said.
abbrev pub said_code : Said → ℕ
said_code Done = 0
said_code Against = 3
said_code Collided = 10

-- The status of a refusal.
abbrev pub stopped_code : Stopped → ℕ
stopped_code BadWords = 1
stopped_code BadForm = 2
stopped_code NotAllowed = 4
stopped_code Missing = 7
stopped_code Beyond = 9

-- The status.
abbrev pub status_of : Reply → ℕ
status_of (said status text) = said_code status
status_of (refused why file reason) = stopped_code why

-- What goes to standard output.
abbrev pub out_of : Reply → Text
out_of (said status text) = text
out_of (refused why file reason) = []

-- What goes to standard error, where the arguments begin with this command.
abbrev pub err_of : Text → Reply → Text
err_of command (said status text) = []
err_of command (refused why file reason) = line_of command file reason

-- The statuses of a command that may not have opened its journal.
abbrev pub IsEarly : ℕ → Type 0
IsEarly status =
    (status ≡ 1) ⊎ ((status ≡ 2) ⊎ ((status ≡ 5) ⊎ ((status ≡ 7) ⊎ ((status ≡ 8) ⊎ (status ≡ 9)))))

-- This holds of the reply, if there is one.
abbrev pub IfReply : Ending → (Reply → Type 0) → Type 0
IfReply (replied reply) P = P reply
IfReply (room_failed file) P = Unit {0}
IfReply no_memory P = Unit {0}

-- The text of a reason: its name, and what follows it.
abbrev pub more_text : More → Text
more_text Nothing = []
more_text (Name name) = codes " " ++ name.now
more_text (Number number) = codes " " ++ decimal number
more_text (NameAndNumber second number) =
    codes " " ++ (second.now ++ (codes " " ++ decimal number))
more_text (Numbers first second) = codes " " ++ (decimal first ++ (codes " " ++ decimal second))
more_text (Hashes first second) =
    codes " " ++ (encode_lower first ++ (codes " " ++ encode_lower second))

abbrev pub reason_text : Reason → Text
reason_text reason = reason.name.now ++ more_text reason.more

-- The name of the file of tiles that goes with the journal of a log.
abbrev pub tiles_name : Text → Text
tiles_name journal = journal ++ codes ".tiles"

-- The refusal of the tiles of a journal, by the level and the index of the first one that the file
-- has not.
abbrev pub bad_tile_text : ℕ → ℕ → Text
bad_tile_text level place = codes "BadTile " ++ (decimal level ++ (codes " " ++ decimal place))

abbrev pub bad_tile : Text → ℕ → ℕ → Reply
bad_tile journal level place =
    refused BadForm (Some (tiles_name journal)) (bad_tile_text level place)

-- What the program's values say.
abbrev pub refusal_reply : Refusal → Reply
refusal_reply r = refused r.why (option_map (λ file. file.now) r.file) (reason_text r.reason)

abbrev pub stop_ending : Stop → Ending
stop_ending (Refused refusal) = replied (refusal_reply refusal)
stop_ending (Room file) = room_failed file.now
stop_ending (Tiles journal) = room_failed (tiles_name journal.now)
stop_ending (BadTile journal level place) = replied (bad_tile journal.now level place)
stop_ending Memory = no_memory

abbrev pub ending_of : Result Answer Stop → Ending
ending_of (Ok answer) = replied (said answer.status answer.text)
ending_of (Err stop) = stop_ending stop
