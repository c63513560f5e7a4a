-- The table of the commands: the name of each, how many arguments it wants, and whether the first
-- of them is a journal.
use Rattle.std.specs.Prelude.{ℕ, Bool, true, false, Option, Some, None, codes, bytes_eq, nat_eq}
use Rattle.std.specs.Prelude.{if◌then◌else◌}
use Rattle.std.specs.List.{ends_with}
use Rattle.byte_formats.specs.Types.{Text}
use Rattle.mtc_words.specs.declared.name.Name.{Name}
use Rattle.mtc_words.specs.declared.name.Name.TheVariants.{Member, Show, Verify, InitLog, Issue}
use Rattle.mtc_words.specs.declared.name.Name.TheVariants.{Checkpoint, Entries, EntriesFrom}
use Rattle.mtc_words.specs.declared.name.Name.TheVariants.{Consist, Subtree}
use Rattle.mtc_words.specs.declared.name.Name.TheVariants.{Keygen, InitCosigner, Advance, Cosign}
use Rattle.mtc_words.specs.declared.name.Name.TheVariants.{InitCosigner2, Child, Export, Quarrel}
use Rattle.mtc_words.specs.declared.name.Name.TheVariants.{Landmark, Landmarks, LightCert}
use Rattle.mtc_words.specs.declared.name.Name.TheVariants.{TrustLandmarks, Cert, Audit, Drill}
use Rattle.mtc_words.specs.declared.name.Name.TheVariants.{Tile, TileAnew, Switch}
use Rattle.mtc_words.specs.declared.name.Name.TheVariants.{IssueList, LightCerts, Certs}
use Rattle.mtc_words.specs.declared.name.Name.TheVariants.{MirrorInit, MirrorTake, MirrorTile}
use Rattle.mtc_words.specs.declared.name.Name.TheVariants.{MirrorEntries, MirrorAdvance}
use Rattle.mtc_words.specs.declared.name.Name.TheVariants.{MirrorCosign}
use Rattle.mtc_words.specs.declared.name.Name.TheVariants.{Root, Held, MonitorInit, Monitor}
use Rattle.mtc_words.specs.declared.name.Name.TheVariants.{Help, Version}

-- The command that an argument names which names none of those before the commands of monitors.
abbrev pub named_from_monitor : Text → Option Name
named_from_monitor word =
    if bytes_eq word (codes "root") then Some Root
    else (if bytes_eq word (codes "held") then Some Held
    else (if bytes_eq word (codes "monitor-init") then Some MonitorInit
    else (if bytes_eq word (codes "monitor") then Some Monitor
    else (if bytes_eq word (codes "help") then Some Help
    else (if bytes_eq word (codes "version") then Some Version
    else None)))))

-- The same for an argument that names none of those before the commands of mirrors.
abbrev pub named_from_mirror : Text → Option Name
named_from_mirror word =
    if bytes_eq word (codes "mirror-init") then Some MirrorInit
    else (if bytes_eq word (codes "mirror-take") then Some MirrorTake
    else (if bytes_eq word (codes "mirror-tile") then Some MirrorTile
    else (if bytes_eq word (codes "mirror-entries") then Some MirrorEntries
    else (if bytes_eq word (codes "mirror-advance") then Some MirrorAdvance
    else (if bytes_eq word (codes "mirror-cosign") then Some MirrorCosign
    else named_from_monitor word)))))

-- The same for an argument that names none of those before the commands on lists.
abbrev pub named_from_list : Text → Option Name
named_from_list word =
    if bytes_eq word (codes "issue-list") then Some IssueList
    else (if bytes_eq word (codes "light-certs") then Some LightCerts
    else (if bytes_eq word (codes "certs") then Some Certs
    else named_from_mirror word))

-- The same for an argument that names none of those before the commands of landmarks.
abbrev pub named_from_landmark : Text → Option Name
named_from_landmark word =
    if bytes_eq word (codes "landmark") then Some Landmark
    else (if bytes_eq word (codes "landmarks") then Some Landmarks
    else (if bytes_eq word (codes "light-cert") then Some LightCert
    else (if bytes_eq word (codes "trust-landmarks") then Some TrustLandmarks
    else (if bytes_eq word (codes "cert") then Some Cert
    else (if bytes_eq word (codes "audit") then Some Audit
    else (if bytes_eq word (codes "quarrel") then Some Quarrel
    else (if bytes_eq word (codes "drill") then Some Drill
    else (if bytes_eq word (codes "tile") then Some Tile
    else (if bytes_eq word (codes "tile-anew") then Some TileAnew
    else (if bytes_eq word (codes "switch") then Some Switch
    else named_from_list word))))))))))

-- The same for an argument that names none of those before the commands of a cosigner.
abbrev pub named_from_cosigner : Text → Option Name
named_from_cosigner word =
    if bytes_eq word (codes "keygen") then Some Keygen
    else (if bytes_eq word (codes "init-cosigner") then Some InitCosigner
    else (if bytes_eq word (codes "init-cosigner2") then Some InitCosigner2
    else (if bytes_eq word (codes "advance") then Some Advance
    else (if bytes_eq word (codes "child") then Some Child
    else (if bytes_eq word (codes "cosign") then Some Cosign
    else (if bytes_eq word (codes "export") then Some Export
    else named_from_landmark word))))))

-- The command that an argument names.
unfoldable pub named_command : Text → Option Name
named_command word =
    if bytes_eq word (codes "member") then Some Member
    else (if bytes_eq word (codes "show") then Some Show
    else (if bytes_eq word (codes "verify") then Some Verify
    else (if bytes_eq word (codes "init-log") then Some InitLog
    else (if bytes_eq word (codes "issue") then Some Issue
    else (if bytes_eq word (codes "checkpoint") then Some Checkpoint
    else (if bytes_eq word (codes "entries") then Some Entries
    else (if bytes_eq word (codes "entries-from") then Some EntriesFrom
    else (if bytes_eq word (codes "consist") then Some Consist
    else (if bytes_eq word (codes "subtree") then Some Subtree
    else named_from_cosigner word)))))))))

-- How many arguments follow a command.
abbrev pub word_count : Name → ℕ
word_count Member = 1
word_count Show = 1
word_count Verify = 3
word_count InitLog = 4
word_count Issue = 2
word_count Checkpoint = 1
word_count Entries = 2
word_count EntriesFrom = 3
word_count Consist = 3
word_count Subtree = 4
word_count Keygen = 3
word_count InitCosigner = 6
word_count InitCosigner2 = 7
word_count Advance = 2
word_count Child = 1
word_count Cosign = 2
word_count Export = 1
word_count Landmark = 1
word_count Landmarks = 1
word_count LightCert = 2
word_count TrustLandmarks = 3
word_count Cert = 5
word_count Audit = 5
word_count Quarrel = 1
word_count Drill = 1
word_count Tile = 1
word_count TileAnew = 1
word_count Switch = 1
word_count IssueList = 2
word_count LightCerts = 3
word_count Certs = 6
word_count MirrorInit = 2
word_count MirrorTake = 2
word_count MirrorTile = 1
word_count MirrorEntries = 2
word_count MirrorAdvance = 3
word_count MirrorCosign = 4
word_count Root = 1
word_count Held = 1
word_count MonitorInit = 1
word_count Monitor = 4
word_count Help = 0
word_count Version = 0

-- Whether the first argument after a command is a journal.
abbrev pub takes_journal : Name → Bool
takes_journal Member = false
takes_journal Show = false
takes_journal Verify = false
takes_journal InitLog = true
takes_journal Issue = true
takes_journal Checkpoint = true
takes_journal Entries = true
takes_journal EntriesFrom = true
takes_journal Consist = true
takes_journal Subtree = true
takes_journal Keygen = false
takes_journal InitCosigner = true
takes_journal InitCosigner2 = true
takes_journal Advance = true
takes_journal Child = true
takes_journal Cosign = true
takes_journal Export = true
takes_journal Landmark = true
takes_journal Landmarks = true
takes_journal LightCert = true
takes_journal TrustLandmarks = false
takes_journal Cert = true
takes_journal Audit = false
takes_journal Quarrel = false
takes_journal Drill = false
takes_journal Tile = true
takes_journal TileAnew = true
takes_journal Switch = true
takes_journal IssueList = true
takes_journal LightCerts = true
takes_journal Certs = true
takes_journal MirrorInit = true
takes_journal MirrorTake = true
takes_journal MirrorTile = true
takes_journal MirrorEntries = true
takes_journal MirrorAdvance = true
takes_journal MirrorCosign = true
takes_journal Root = false
takes_journal Held = false
takes_journal MonitorInit = false
takes_journal Monitor = false
takes_journal Help = false
takes_journal Version = false

-- Whether a name is that of a tile file.
unfoldable pub is_tiles_name : Text → Bool
is_tiles_name name = ends_with nat_eq name (codes ".tiles")
