-- The arguments of a command, and what they say: the first fault in the order of the tests, or the
-- command.
use Rattle.std.specs.Prelude.{◌≡◌, ℕ, ◌+◌, ◌==◌, Bool, true, false, List, [], ◌∷◌, length, Option}
use Rattle.std.specs.Prelude.{Some, None, Result, Ok, Err, bytes_eq, slice_index_or, is_some}
use Rattle.std.specs.Prelude.{if◌then◌else◌}
use Rattle.byte_formats.specs.Types.{Text}
use Rattle.byte_formats.specs.Readings.{◌>>=◌, blamed}
use Rattle.tls_wire.specs.Anchors.{anchor_text}
use Rattle.tls_wire.specs.Decimal.{number_of}
use Rattle.mtc_words.specs.declared.error.WordError.{WordError}
use Rattle.mtc_words.specs.declared.error.WordError.TheVariants.{NoCommand, UnknownCommand, BadWord}
use Rattle.mtc_words.specs.declared.error.WordError.TheVariants.{WrongCount, TilesName, BadNumber}
use Rattle.mtc_words.specs.declared.error.WordError.TheVariants.{BadId}
use Rattle.mtc_words.specs.declared.name.Name.{Name}
use Rattle.mtc_words.specs.declared.name.Name.TheVariants.{Member, Show, Verify, InitLog, Issue}
use Rattle.mtc_words.specs.declared.name.Name.TheVariants.{Checkpoint, Entries, EntriesFrom}
use Rattle.mtc_words.specs.declared.name.Name.TheVariants.{Consist, Subtree}
use Rattle.mtc_words.specs.declared.name.Name.TheVariants.{Keygen, InitCosigner, Advance, Cosign}
use Rattle.mtc_words.specs.declared.name.Name.TheVariants.{InitCosigner2, Child, Export, Quarrel}
use Rattle.mtc_words.specs.declared.name.Name.TheVariants.{Landmark, Landmarks, LightCert}
use Rattle.mtc_words.specs.declared.name.Name.TheVariants.{TrustLandmarks, Cert, Audit, Drill}
use Rattle.mtc_words.specs.declared.name.Name.TheVariants.{Tile, TileAnew, Switch}
use Rattle.mtc_words.specs.declared.name.Name.TheVariants.{IssueList, LightCerts, Certs}
use Rattle.mtc_words.specs.declared.name.Name.TheVariants.{MirrorInit, MirrorTake, MirrorTile}
use Rattle.mtc_words.specs.declared.name.Name.TheVariants.{MirrorEntries, MirrorAdvance}
use Rattle.mtc_words.specs.declared.name.Name.TheVariants.{MirrorCosign}
use Rattle.mtc_words.specs.declared.name.Name.TheVariants.{Root, Held, MonitorInit, Monitor}
use Rattle.mtc_words.specs.declared.name.Name.TheVariants.{Help, Version}
use Rattle.mtc_words.specs.Commands.{CommandValue, member, show, verify, init_log, issue}
use Rattle.mtc_words.specs.Commands.{checkpoint, entries, entries_from, consist, subtree, keygen}
use Rattle.mtc_words.specs.Commands.{is_height, journals_of}
use Rattle.mtc_words.specs.Commands.{is_width, is_time, is_active, is_limit, is_any}
use Rattle.mtc_words.specs.Commands.{init_cosigner, advance, cosign, landmark, landmarks}
use Rattle.mtc_words.specs.Commands.{export, light_cert, trust_landmarks, cert, audit, drill}
use Rattle.mtc_words.specs.Commands.{quarrel, tile, tile_anew, switch, root, held, monitor_init}
use Rattle.mtc_words.specs.Commands.{child, monitor, mirror_init, mirror_take, mirror_tile}
use Rattle.mtc_words.specs.Commands.{mirror_entries, mirror_advance, mirror_cosign}
use Rattle.mtc_words.specs.Commands.{issue_list, light_certs, certs}
use Rattle.mtc_words.specs.Commands.{help, version}
use Rattle.mtc_words.specs.Names.{named_command, word_count, is_tiles_name}

-- Empty, or begins with a hyphen.
abbrev pub is_bad_word : Text → Bool
is_bad_word [] = true
is_bad_word (first ∷ rest) = first == 45

-- The number of the first bad argument, where k is that of the first one.
abbrev pub bad_word : ℕ → List Text → Option ℕ
bad_word k [] = None
bad_word k (w ∷ ws) = if is_bad_word w then Some k else bad_word (k + 1) ws

-- The fault by the count, which is reported only if there is no bad argument.
abbrev pub count_fault : ℕ → ℕ → Option ℕ → Option WordError
count_fault have want (Some k) = Some (BadWord k)
count_fault have want None = if have == want then None else Some (WrongCount have want)

-- The fault of the arguments after a command that wants so many.
unfoldable pub word_fault : ℕ → List Text → Option WordError
word_fault want ws = count_fault (length ws) want (bad_word 1 ws)

-- The number of the first journal with the name of a tile file, where k is that of the first one.
abbrev pub tiles_word : ℕ → List Text → Option ℕ
tiles_word k [] = None
tiles_word k (journal ∷ rest) = if is_tiles_name journal then Some k else tiles_word (k + 1) rest

-- The second journal is the first one.
abbrev pub is_named_twice : List Text → Bool
is_named_twice [] = false
is_named_twice (only ∷ []) = false
is_named_twice (first ∷ second ∷ rest) = bytes_eq first second

-- The fault of a journal that is the first one, which is reported only if none has the name of a
-- tile file.
abbrev pub twice_fault : Bool → Option ℕ → Option WordError
twice_fault twice (Some k) = Some (TilesName k)
twice_fault twice None = if twice then Some (BadWord 1) else None

-- The fault of the journals that a command names.
abbrev pub journal_fault : List Text → Option WordError
journal_fault journals = twice_fault (is_named_twice journals) (tiles_word 1 journals)

-- No journal has the name of a tile file.
abbrev pub HaveOwnNames : List Text → Type 0
HaveOwnNames [] = Unit {0}
HaveOwnNames (journal ∷ rest) = (is_tiles_name journal ≡ false) × HaveOwnNames rest

-- The argument with this number, counted from 0.
abbrev pub word : List Text → ℕ → Text
word ws k = slice_index_or ws k []

-- A number that passes a test; else the argument of this number is a bad one.
abbrev pub ranged : ℕ → (ℕ → Bool) → Option ℕ → Result ℕ WordError
ranged index test None = Err (BadNumber index)
ranged index test (Some n) = if test n then Ok n else Err (BadNumber index)

-- The number that an argument is, where it passes a test.
abbrev pub number_word : ℕ → (ℕ → Bool) → Text → Result ℕ WordError
number_word index test w = ranged index test (number_of w)

-- The anchor id with this text; else the argument of this number is a bad one.
abbrev pub id_word : ℕ → Text → Result Text WordError
id_word index w = blamed (BadId index) (anchor_text w)

-- The command of this name with its arguments, of which there are as many as it wants.
abbrev pub command_from : Name → List Text → Result CommandValue WordError
command_from Member ws = Ok (member (word ws 0))
command_from Show ws = Ok (show (word ws 0))
command_from Verify ws = do
  unix_time ← number_word 3 is_time (word ws 2)
  Ok (verify (word ws 0) (word ws 1) unix_time)
command_from InitLog ws = do
  active ← number_word 3 is_active (word ws 2)
  limit ← number_word 4 is_limit (word ws 3)
  id ← id_word 2 (word ws 1)
  Ok (init_log (word ws 0) id active limit)
command_from Issue ws = Ok (issue (word ws 0) (word ws 1))
command_from Checkpoint ws = Ok (checkpoint (word ws 0))
command_from Entries ws = do
  size ← number_word 2 is_any (word ws 1)
  Ok (entries (word ws 0) size)
command_from EntriesFrom ws = do
  first ← number_word 2 is_any (word ws 1)
  size ← number_word 3 is_any (word ws 2)
  Ok (entries_from (word ws 0) first size)
command_from Consist ws = do
  old ← number_word 2 is_any (word ws 1)
  new ← number_word 3 is_any (word ws 2)
  Ok (consist (word ws 0) old new)
command_from Subtree ws = do
  start ← number_word 2 is_any (word ws 1)
  end ← number_word 3 is_any (word ws 2)
  size ← number_word 4 is_any (word ws 3)
  Ok (subtree (word ws 0) start end size)
command_from Keygen ws = do
  height ← number_word 1 is_height (word ws 0)
  width ← number_word 2 is_width (word ws 1)
  Ok (keygen height width (word ws 2))
command_from InitCosigner ws = do
  height ← number_word 4 is_height (word ws 3)
  width ← number_word 5 is_width (word ws 4)
  id ← id_word 2 (word ws 1)
  log ← id_word 3 (word ws 2)
  Ok (init_cosigner (word ws 0) id log height None width (word ws 5))
command_from InitCosigner2 ws = do
  top ← number_word 4 is_height (word ws 3)
  low ← number_word 5 is_height (word ws 4)
  width ← number_word 6 is_width (word ws 5)
  id ← id_word 2 (word ws 1)
  log ← id_word 3 (word ws 2)
  Ok (init_cosigner (word ws 0) id log top (Some low) width (word ws 6))
command_from Advance ws = Ok (advance (word ws 0) (word ws 1))
command_from Child ws = Ok (child (word ws 0))
command_from Cosign ws = Ok (cosign (word ws 0) (word ws 1))
command_from Export ws = Ok (export (word ws 0))
command_from Landmark ws = Ok (landmark (word ws 0))
command_from Landmarks ws = Ok (landmarks (word ws 0))
command_from LightCert ws = do
  index ← number_word 2 is_any (word ws 1)
  Ok (light_cert (word ws 0) index)
command_from TrustLandmarks ws = do
  active ← number_word 2 is_active (word ws 1)
  Ok (trust_landmarks (word ws 0) active (word ws 2))
command_from Cert ws = do
  index ← number_word 2 is_any (word ws 1)
  start ← number_word 3 is_any (word ws 2)
  end ← number_word 4 is_any (word ws 3)
  Ok (cert (word ws 0) index start end (word ws 4))
command_from Audit ws = do
  unix_time ← number_word 3 is_time (word ws 2)
  Ok (audit (word ws 0) (word ws 1) unix_time (word ws 3) (word ws 4))
command_from Quarrel ws = Ok (quarrel (word ws 0))
command_from Drill ws = do
  number ← number_word 1 is_any (word ws 0)
  Ok (drill number)
command_from Tile ws = Ok (tile (word ws 0))
command_from TileAnew ws = Ok (tile_anew (word ws 0))
command_from Switch ws = Ok (switch (word ws 0))
command_from IssueList ws = Ok (issue_list (word ws 0) (word ws 1))
command_from LightCerts ws = do
  first ← number_word 2 is_any (word ws 1)
  last ← number_word 3 is_any (word ws 2)
  Ok (light_certs (word ws 0) first last)
command_from Certs ws = do
  first ← number_word 2 is_any (word ws 1)
  last ← number_word 3 is_any (word ws 2)
  start ← number_word 4 is_any (word ws 3)
  end ← number_word 5 is_any (word ws 4)
  Ok (certs (word ws 0) first last start end (word ws 5))
command_from MirrorInit ws = do
  id ← id_word 2 (word ws 1)
  Ok (mirror_init (word ws 0) id)
command_from MirrorTake ws = Ok (mirror_take (word ws 0) (word ws 1))
command_from MirrorTile ws = Ok (mirror_tile (word ws 0))
command_from MirrorEntries ws = do
  size ← number_word 2 is_any (word ws 1)
  Ok (mirror_entries (word ws 0) size)
command_from MirrorAdvance ws = do
  size ← number_word 3 is_any (word ws 2)
  Ok (mirror_advance (word ws 0) (word ws 1) size)
command_from MirrorCosign ws = do
  start ← number_word 3 is_any (word ws 2)
  end ← number_word 4 is_any (word ws 3)
  Ok (mirror_cosign (word ws 0) (word ws 1) start end)
command_from Root ws = Ok (root (word ws 0))
command_from Held ws = Ok (held (word ws 0))
command_from MonitorInit ws = do
  id ← id_word 1 (word ws 0)
  Ok (monitor_init id)
command_from Monitor ws = Ok (monitor (word ws 0) (word ws 1) (word ws 2) (word ws 3))
command_from Help ws = Ok help
command_from Version ws = Ok version

-- The fault, or else the command.
abbrev pub unless_fault : {A : Type 0} → Option WordError → Result A WordError → Result A WordError
unless_fault (Some fault) wanted = Err fault
unless_fault None wanted = wanted

-- What the arguments after a name say. The names of journals are tested last.
abbrev pub command_named : Option Name → List Text → Result CommandValue WordError
command_named None ws = Err UnknownCommand
command_named (Some name) ws = unless_fault (word_fault (word_count name) ws)
    (command_from name ws >>= λ command.
    unless_fault (journal_fault (journals_of command)) (Ok command))

-- What arguments say.
unfoldable pub command_of : List Text → Result CommandValue WordError
command_of [] = Err NoCommand
command_of (w ∷ ws) = command_named (named_command w) ws

-- The first argument where it is a command, and else no bytes.
abbrev pub known_word : List Text → Text
known_word [] = []
known_word (w ∷ ws) = if is_some (named_command w) then w else []
