-- What a text has a line for: which commands, and how many arguments of each it names.
use Rattle.std.specs.Prelude.{ℕ, ◌==◌, List, [], ◌∷◌, length, map, Option, None}
use Rattle.std.specs.List.{slice_split}
use Rattle.std.specs.Str.Lines.{lines}
use Rattle.byte_formats.specs.Types.{Text}
use Rattle.mtc_words.specs.Names.{named_command}
use Rattle.mtc_words.specs.declared.name.Name.{Name}
use Rattle.mtc_words.specs.declared.name.Name.TheVariants.{Member, Show, Verify, InitLog, Issue}
use Rattle.mtc_words.specs.declared.name.Name.TheVariants.{Checkpoint, Entries, EntriesFrom}
use Rattle.mtc_words.specs.declared.name.Name.TheVariants.{Consist, Subtree}
use Rattle.mtc_words.specs.declared.name.Name.TheVariants.{Keygen, InitCosigner, Advance, Cosign}
use Rattle.mtc_words.specs.declared.name.Name.TheVariants.{InitCosigner2, Child, Export, Quarrel}
use Rattle.mtc_words.specs.declared.name.Name.TheVariants.{Landmark, Landmarks, LightCert}
use Rattle.mtc_words.specs.declared.name.Name.TheVariants.{TrustLandmarks, Cert, Audit, Drill}
use Rattle.mtc_words.specs.declared.name.Name.TheVariants.{Switch, Tile, TileAnew}
use Rattle.mtc_words.specs.declared.name.Name.TheVariants.{Certs, IssueList, LightCerts}
use Rattle.mtc_words.specs.declared.name.Name.TheVariants.{MirrorInit, MirrorTake, MirrorTile}
use Rattle.mtc_words.specs.declared.name.Name.TheVariants.{MirrorEntries, MirrorAdvance}
use Rattle.mtc_words.specs.declared.name.Name.TheVariants.{MirrorCosign}
use Rattle.mtc_words.specs.declared.name.Name.TheVariants.{Root, Held, MonitorInit, Monitor}
use Rattle.mtc_words.specs.declared.name.Name.TheVariants.{Help, Version}

-- The commands, in the order of the table of docs/COMMANDS.md.
abbrev pub listed_commands : List Name
listed_commands = Member ∷ Show ∷ Verify ∷ InitLog ∷ Issue ∷ IssueList ∷ Checkpoint ∷ Entries
    ∷ EntriesFrom ∷ Consist ∷ Subtree ∷ Keygen ∷ InitCosigner ∷ InitCosigner2 ∷ Advance ∷ Child
    ∷ Cosign ∷ Export ∷ Landmark ∷ Landmarks ∷ LightCert ∷ LightCerts ∷ Switch ∷ Tile ∷ TileAnew
    ∷ TrustLandmarks ∷ Cert ∷ Certs ∷ MirrorInit ∷ MirrorTake ∷ MirrorTile ∷ MirrorEntries
    ∷ MirrorAdvance ∷ MirrorCosign ∷ Audit ∷ Quarrel ∷ Drill ∷ Root ∷ Held ∷ MonitorInit ∷ Monitor
    ∷ Help ∷ Version ∷ []

-- The first part of a text, up to a colon.
abbrev pub up_to_colon : List Text → Text
up_to_colon [] = []
up_to_colon (part ∷ parts) = part

abbrev pub before_colon : Text → Text
before_colon line = up_to_colon (slice_split (λ b. b == 58) line)

-- The command that the first of these words names, and how many words follow it.
abbrev pub listed_by : List Text → Option Name × ℕ
listed_by [] = (None, 0)
listed_by (w ∷ ws) = (named_command w, length ws)

-- The same of each line of a text, by its words before the colon, between which blanks stand.
abbrev pub listed_in : Text → List (Option Name × ℕ)
listed_in text =
    map (λ line. listed_by (slice_split (λ b. b == 32) (before_colon line))) (lines text)
