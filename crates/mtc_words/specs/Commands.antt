-- What contracts see of a command.
use Rattle.std.specs.Prelude.{◌≡◌, ℕ, ◌==◌, ◌&&◌, ◌||◌, Bool, true, nat_le, List, [], ◌∷◌, Option}
use Rattle.std.specs.Prelude.{IfSome, Result, Ok, Err}
use Rattle.byte_formats.specs.Types.{Text}
use Rattle.landmarks.specs.Limits.{most_active, most_entries}
use Rattle.mtc_words.specs.declared.command.Command.{Command}
use Rattle.mtc_words.specs.declared.command.Command.TheVariants.{Member, Show, Verify, InitLog}
use Rattle.mtc_words.specs.declared.command.Command.TheVariants.{Issue, Checkpoint, Entries}
use Rattle.mtc_words.specs.declared.command.Command.TheVariants.{EntriesFrom}
use Rattle.mtc_words.specs.declared.command.Command.TheVariants.{Consist, Subtree, Keygen}
use Rattle.mtc_words.specs.declared.command.Command.TheVariants.{InitCosigner, Advance, Cosign}
use Rattle.mtc_words.specs.declared.command.Command.TheVariants.{Child, Export, Quarrel}
use Rattle.mtc_words.specs.declared.command.Command.TheVariants.{Landmark, Landmarks, LightCert}
use Rattle.mtc_words.specs.declared.command.Command.TheVariants.{TrustLandmarks, Cert, Audit, Drill}
use Rattle.mtc_words.specs.declared.command.Command.TheVariants.{Tile, TileAnew, Switch}
use Rattle.mtc_words.specs.declared.command.Command.TheVariants.{IssueList, LightCerts, Certs}
use Rattle.mtc_words.specs.declared.command.Command.TheVariants.{MirrorInit, MirrorTake, MirrorTile}
use Rattle.mtc_words.specs.declared.command.Command.TheVariants.{MirrorEntries, MirrorAdvance}
use Rattle.mtc_words.specs.declared.command.Command.TheVariants.{MirrorCosign}
use Rattle.mtc_words.specs.declared.command.Command.TheVariants.{Root, Held, MonitorInit, Monitor}
use Rattle.mtc_words.specs.declared.command.Command.TheVariants.{Help, Version}
use Rattle.mtc_words.specs.declared.error.WordError.{WordError}

-- A command with the values of its arguments: a text is the list of its bytes, and so is an id.
pub data CommandValue : Type 0 where
  member : Text → CommandValue
  show : Text → CommandValue
  verify : Text → Text → ℕ → CommandValue
  init_log : Text → Text → ℕ → ℕ → CommandValue
  issue : Text → Text → CommandValue
  checkpoint : Text → CommandValue
  entries : Text → ℕ → CommandValue
  entries_from : Text → ℕ → ℕ → CommandValue
  consist : Text → ℕ → ℕ → CommandValue
  subtree : Text → ℕ → ℕ → ℕ → CommandValue
  keygen : ℕ → ℕ → Text → CommandValue
  init_cosigner : Text → Text → Text → ℕ → Option ℕ → ℕ → Text → CommandValue
  advance : Text → Text → CommandValue
  child : Text → CommandValue
  cosign : Text → Text → CommandValue
  export : Text → CommandValue
  landmark : Text → CommandValue
  landmarks : List ℕ → CommandValue
  light_cert : Text → ℕ → CommandValue
  trust_landmarks : List ℕ → ℕ → List ℕ → CommandValue
  cert : Text → ℕ → ℕ → ℕ → Text → CommandValue
  audit : Text → Text → ℕ → Text → Text → CommandValue
  quarrel : Text → CommandValue
  drill : ℕ → CommandValue
  tile : Text → CommandValue
  tile_anew : Text → CommandValue
  switch : Text → CommandValue
  issue_list : Text → Text → CommandValue
  light_certs : Text → ℕ → ℕ → CommandValue
  certs : Text → ℕ → ℕ → ℕ → ℕ → Text → CommandValue
  mirror_init : Text → Text → CommandValue
  mirror_take : Text → Text → CommandValue
  mirror_tile : Text → CommandValue
  mirror_entries : Text → ℕ → CommandValue
  mirror_advance : Text → Text → ℕ → CommandValue
  mirror_cosign : Text → Text → ℕ → ℕ → CommandValue
  root : Text → CommandValue
  held : Text → CommandValue
  monitor_init : Text → CommandValue
  monitor : Text → Text → Text → Text → CommandValue
  help : CommandValue
  version : CommandValue

-- The values of a command's arguments.
abbrev pub command_value : Command → CommandValue
command_value (Member file) = member file.now
command_value (Show file) = show file.now
command_value (Verify certificate store unix_time) = verify certificate.now store.now unix_time
command_value (InitLog journal id active limit) = init_log journal.now id active limit
command_value (Issue journal request) = issue journal.now request.now
command_value (Checkpoint journal) = checkpoint journal.now
command_value (Entries journal size) = entries journal.now size
command_value (EntriesFrom journal first size) = entries_from journal.now first size
command_value (Consist journal old new) = consist journal.now old new
command_value (Subtree journal start end size) = subtree journal.now start end size
command_value (Keygen height width secret) = keygen height width secret.now
command_value (InitCosigner journal id log top low width secret) =
    init_cosigner journal.now id log top low width secret.now
command_value (Advance journal request) = advance journal.now request.now
command_value (Child journal) = child journal.now
command_value (Cosign journal request) = cosign journal.now request.now
command_value (Export journal) = export journal.now
command_value (Landmark journal) = landmark journal.now
command_value (Landmarks journal) = landmarks journal.now
command_value (LightCert journal index) = light_cert journal.now index
command_value (TrustLandmarks list active items) =
    trust_landmarks list.now active items.now
command_value (Cert journal index start end signatures) =
    cert journal.now index start end signatures.now
command_value (Audit certificate store unix_time items kept) =
    audit certificate.now store.now unix_time items.now kept.now
command_value (Quarrel kept) = quarrel kept.now
command_value (Drill number) = drill number
command_value (Tile journal) = tile journal.now
command_value (TileAnew journal) = tile_anew journal.now
command_value (Switch journal) = switch journal.now
command_value (IssueList journal requests) = issue_list journal.now requests.now
command_value (LightCerts journal first last) = light_certs journal.now first last
command_value (Certs journal first last start end signatures) =
    certs journal.now first last start end signatures.now
command_value (MirrorInit journal id) = mirror_init journal.now id
command_value (MirrorTake journal items) = mirror_take journal.now items.now
command_value (MirrorTile journal) = mirror_tile journal.now
command_value (MirrorEntries journal size) = mirror_entries journal.now size
command_value (MirrorAdvance cosigner mirror size) =
    mirror_advance cosigner.now mirror.now size
command_value (MirrorCosign cosigner mirror start end) =
    mirror_cosign cosigner.now mirror.now start end
command_value (Root items) = root items.now
command_value (Held kept) = held kept.now
command_value (MonitorInit id) = monitor_init id
command_value (Monitor state watch request items) =
    monitor state.now watch.now request.now items.now
command_value Help = help
command_value Version = version

-- The answer, with the command seen by its values.
abbrev pub said : Result Command WordError → Result CommandValue WordError
said (Ok command) = Ok (command_value command)
said (Err why) = Err why

-- The heights and the widths of keys that are made.
abbrev pub is_height : ℕ → Bool
is_height n = (n == 5) || (n == 10)

abbrev pub is_width : ℕ → Bool
is_width n = (n == 1) || ((n == 2) || ((n == 4) || (n == 8)))

-- The times up to the end of the year 9999, in seconds since 1970-01-01T00:00:00Z.
abbrev pub last_unix_time : ℕ
last_unix_time = 253402300799

abbrev pub is_time : ℕ → Bool
is_time n = nat_le n last_unix_time

-- The numbers of active landmarks that a log may have, and of entries.
abbrev pub is_active : ℕ → Bool
is_active n = nat_le 1 n && nat_le n most_active

abbrev pub is_limit : ℕ → Bool
is_limit n = nat_le 2 n && nat_le n most_entries

-- Every number.
abbrev pub is_any : ℕ → Bool
is_any n = true

-- The numbers lie in the ranges of their command.
abbrev pub IsInRange : CommandValue → Type 0
IsInRange (member file) = Unit {0}
IsInRange (show file) = Unit {0}
IsInRange (verify certificate store unix_time) = is_time unix_time ≡ true
IsInRange (init_log journal id active limit) = (is_active active ≡ true) × (is_limit limit ≡ true)
IsInRange (issue journal request) = Unit {0}
IsInRange (checkpoint journal) = Unit {0}
IsInRange (entries journal size) = Unit {0}
IsInRange (entries_from journal first size) = Unit {0}
IsInRange (consist journal old new) = Unit {0}
IsInRange (subtree journal start end size) = Unit {0}
IsInRange (keygen height width secret) = (is_height height ≡ true) × (is_width width ≡ true)
IsInRange (init_cosigner journal id log top low width secret) = (is_height top ≡ true)
    × (IfSome low (λ height. is_height height ≡ true) × (is_width width ≡ true))
IsInRange (advance journal request) = Unit {0}
IsInRange (child journal) = Unit {0}
IsInRange (cosign journal request) = Unit {0}
IsInRange (export journal) = Unit {0}
IsInRange (landmark journal) = Unit {0}
IsInRange (landmarks journal) = Unit {0}
IsInRange (light_cert journal index) = Unit {0}
IsInRange (trust_landmarks list active items) = is_active active ≡ true
IsInRange (cert journal index start end signatures) = Unit {0}
IsInRange (audit certificate store unix_time items kept) = is_time unix_time ≡ true
IsInRange (quarrel kept) = Unit {0}
IsInRange (drill number) = Unit {0}
IsInRange (tile journal) = Unit {0}
IsInRange (tile_anew journal) = Unit {0}
IsInRange (switch journal) = Unit {0}
IsInRange (issue_list journal requests) = Unit {0}
IsInRange (light_certs journal first last) = Unit {0}
IsInRange (certs journal first last start end signatures) = Unit {0}
IsInRange (mirror_init journal id) = Unit {0}
IsInRange (mirror_take journal items) = Unit {0}
IsInRange (mirror_tile journal) = Unit {0}
IsInRange (mirror_entries journal size) = Unit {0}
IsInRange (mirror_advance cosigner mirror size) = Unit {0}
IsInRange (mirror_cosign cosigner mirror start end) = Unit {0}
IsInRange (root items) = Unit {0}
IsInRange (held kept) = Unit {0}
IsInRange (monitor_init id) = Unit {0}
IsInRange (monitor state watch request items) = Unit {0}
IsInRange help = Unit {0}
IsInRange version = Unit {0}

-- The journals that a command names, which are its first arguments.
abbrev pub journals_of : CommandValue → List Text
journals_of (member file) = []
journals_of (show file) = []
journals_of (verify certificate store unix_time) = []
journals_of (init_log journal id active limit) = journal ∷ []
journals_of (issue journal request) = journal ∷ []
journals_of (checkpoint journal) = journal ∷ []
journals_of (entries journal size) = journal ∷ []
journals_of (entries_from journal first size) = journal ∷ []
journals_of (consist journal old new) = journal ∷ []
journals_of (subtree journal start end size) = journal ∷ []
journals_of (keygen height width secret) = []
journals_of (init_cosigner journal id log top low width secret) = journal ∷ []
journals_of (advance journal request) = journal ∷ []
journals_of (child journal) = journal ∷ []
journals_of (cosign journal request) = journal ∷ []
journals_of (export journal) = journal ∷ []
journals_of (landmark journal) = journal ∷ []
journals_of (landmarks journal) = journal ∷ []
journals_of (light_cert journal index) = journal ∷ []
journals_of (trust_landmarks list active items) = []
journals_of (cert journal index start end signatures) = journal ∷ []
journals_of (audit certificate store unix_time items kept) = []
journals_of (quarrel kept) = []
journals_of (drill number) = []
journals_of (tile journal) = journal ∷ []
journals_of (tile_anew journal) = journal ∷ []
journals_of (switch journal) = journal ∷ []
journals_of (issue_list journal requests) = journal ∷ []
journals_of (light_certs journal first last) = journal ∷ []
journals_of (certs journal first last start end signatures) = journal ∷ []
journals_of (mirror_init journal id) = journal ∷ []
journals_of (mirror_take journal items) = journal ∷ []
journals_of (mirror_tile journal) = journal ∷ []
journals_of (mirror_entries journal size) = journal ∷ []
journals_of (mirror_advance cosigner mirror size) = cosigner ∷ mirror ∷ []
journals_of (mirror_cosign cosigner mirror start end) = cosigner ∷ mirror ∷ []
journals_of (root items) = []
journals_of (held kept) = []
journals_of (monitor_init id) = []
journals_of (monitor state watch request items) = []
journals_of help = []
journals_of version = []
