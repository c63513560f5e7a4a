use Rattle.std.proofs.Common.{◌≡◌, ℕ, Some, slice_get, refl}
use Rattle.mtc_words.specs.Names.{named_command}
use Rattle.mtc_words.specs.declared.name.Name.{Name}
use Rattle.mtc_words.specs.declared.name.Name.TheVariants.{Member, Show, Verify, InitLog, Issue}
use Rattle.mtc_words.specs.declared.name.Name.TheVariants.{Checkpoint, Entries, EntriesFrom}
use Rattle.mtc_words.specs.declared.name.Name.TheVariants.{Consist, Subtree}
use Rattle.mtc_words.specs.declared.name.Name.TheVariants.{Keygen, InitCosigner, Advance, Cosign}
use Rattle.mtc_words.specs.declared.name.Name.TheVariants.{InitCosigner2, Child, Export, Quarrel}
use Rattle.mtc_words.specs.declared.name.Name.TheVariants.{Landmark, Landmarks, LightCert}
use Rattle.mtc_words.specs.declared.name.Name.TheVariants.{TrustLandmarks, Cert, Audit, Drill}
use Rattle.mtc_words.specs.declared.name.Name.TheVariants.{Switch, Tile, TileAnew}
use Rattle.mtc_words.specs.declared.name.Name.TheVariants.{Certs, IssueList, LightCerts}
use Rattle.mtc_words.specs.declared.name.Name.TheVariants.{MirrorInit, MirrorTake, MirrorTile}
use Rattle.mtc_words.specs.declared.name.Name.TheVariants.{MirrorEntries, MirrorAdvance}
use Rattle.mtc_words.specs.declared.name.Name.TheVariants.{MirrorCosign}
use Rattle.mtc_words.specs.declared.name.Name.TheVariants.{Root, Held, MonitorInit, Monitor}
use Rattle.mtc_words.specs.declared.name.Name.TheVariants.{Help, Version}
use Rattle.mtc_help.specs.HelpOutcome.{help_text}
use Rattle.mtc_help.specs.Listing.{listed_commands}
use Rattle.mtc_help.proofs.laws.law_help_lists_the_commands.Goals as goal

-- both sides are computed
pub returns-clause-lines : goal.returns-clause-lines
unfolding help_text named_command
returns-clause-lines c = refl

pub returns-clause-all : goal.returns-clause-all
returns-clause-all c = place_of
  where
    place_of : (name : Name) → (place : ℕ) × (slice_get listed_commands place ≡ Some name)
    place_of Member = (0, refl)
    place_of Show = (1, refl)
    place_of Verify = (2, refl)
    place_of InitLog = (3, refl)
    place_of Issue = (4, refl)
    place_of IssueList = (5, refl)
    place_of Checkpoint = (6, refl)
    place_of Entries = (7, refl)
    place_of EntriesFrom = (8, refl)
    place_of Consist = (9, refl)
    place_of Subtree = (10, refl)
    place_of Keygen = (11, refl)
    place_of InitCosigner = (12, refl)
    place_of InitCosigner2 = (13, refl)
    place_of Advance = (14, refl)
    place_of Child = (15, refl)
    place_of Cosign = (16, refl)
    place_of Export = (17, refl)
    place_of Landmark = (18, refl)
    place_of Landmarks = (19, refl)
    place_of LightCert = (20, refl)
    place_of LightCerts = (21, refl)
    place_of Switch = (22, refl)
    place_of Tile = (23, refl)
    place_of TileAnew = (24, refl)
    place_of TrustLandmarks = (25, refl)
    place_of Cert = (26, refl)
    place_of Certs = (27, refl)
    place_of MirrorInit = (28, refl)
    place_of MirrorTake = (29, refl)
    place_of MirrorTile = (30, refl)
    place_of MirrorEntries = (31, refl)
    place_of MirrorAdvance = (32, refl)
    place_of MirrorCosign = (33, refl)
    place_of Audit = (34, refl)
    place_of Quarrel = (35, refl)
    place_of Drill = (36, refl)
    place_of Root = (37, refl)
    place_of Held = (38, refl)
    place_of MonitorInit = (39, refl)
    place_of Monitor = (40, refl)
    place_of Help = (41, refl)
    place_of Version = (42, refl)
