-- The kinds of journals that the program's commands work on: those of logs and of mirrors, each
-- with the file of its tiles, and those of cosigners. A log whose tiles are written again is a kind
-- of its own: what their file has is not tested.
use Rattle.std.specs.Prelude.{ℕ, List, [], ◌∷◌, Option, None, Some}
use Rattle.byte_formats.specs.Types.{HashFunction, Text}
use Rattle.journal_core.specs.Folds.{Fold}
use Rattle.cosigner_core.specs.Folds.{CosignerState, cosigner_fold}
use Rattle.state_journal.specs.declared.error.StateOpenError.{StateOpenError}
use Rattle.issuance_log.specs.Folds.{LogState, log_fold}
use Rattle.issuance_log.specs.declared.error.LogOpenError.{LogOpenError}
use Rattle.mirror_core.specs.Folds.{MirrorState, mirror_fold}
use Rattle.mirror_core.specs.Reasons.{mirror_open_text}
use Rattle.mirror_core.specs.declared.error.MirrorOpenError.{MirrorOpenError}
use Rattle.mtc_command.specs.Answers.{bad_tile_text, tiles_name}
use Rattle.mtc_authority.specs.BadTiles.{first_bad}
use Rattle.mtc_authority.specs.StoredTiles.{HasTilesOf}
use Rattle.mtc_mirror.specs.StoredTiles.{HasMirrorTilesOf}
use Rattle.mtc_mirror.specs.Works.{first_bad_in_mirror}
use Rattle.issuance_log.specs.Reasons.{log_open_text}
use Rattle.state_journal.specs.Reasons.{state_open_text}
use Rattle.command_plans.specs.Kinds.{Kinds}
use Rattle.command_plans.specs.Plans.{Journal, makes, opens}

-- A journal is a log's, of which the tiles are tested or written again, a cosigner's or a mirror's.
pub data PartyKind : Type 0 where
  log : PartyKind
  rebuilt_log : PartyKind
  cosigner : PartyKind
  mirror : PartyKind

-- What the records of such a journal make.
abbrev pub PartyState : PartyKind → Type 0
PartyState log = LogState
PartyState rebuilt_log = LogState
PartyState cosigner = CosignerState
PartyState mirror = MirrorState

-- Why they make nothing.
abbrev pub PartyFault : PartyKind → Type 0
PartyFault log = LogOpenError
PartyFault rebuilt_log = LogOpenError
PartyFault cosigner = StateOpenError
PartyFault mirror = MirrorOpenError

-- How the records of a journal make it.
abbrev pub party_fold : HashFunction → (kind : PartyKind) → Fold (PartyState kind) (PartyFault kind)
party_fold h log = log_fold h
party_fold h rebuilt_log = log_fold h
party_fold h cosigner = cosigner_fold h
party_fold h mirror = mirror_fold h

-- The text of a fault, as a command prints it.
abbrev pub party_fault_text : (kind : PartyKind) → PartyFault kind → Text
party_fault_text log = log_open_text
party_fault_text rebuilt_log = log_open_text
party_fault_text cosigner = state_open_text
party_fault_text mirror = mirror_open_text

-- A log has a file of tiles, and so has a mirror.
abbrev pub beside_party : PartyKind → Text → Option Text
beside_party log journal = Some (tiles_name journal)
beside_party rebuilt_log journal = Some (tiles_name journal)
beside_party cosigner journal = None
beside_party mirror journal = Some (tiles_name journal)

-- The reason of the first tile that it has not.
abbrev pub missing_text : Option (ℕ × ℕ) → Option Text
missing_text None = None
missing_text (Some tile) = Some (bad_tile_text tile.0 tile.1)

-- What the file beside a journal lacks, as the reason of the refusal.
abbrev pub party_lacks : HashFunction → (kind : PartyKind) → PartyState kind → Text → Option Text
party_lacks h log state tiles = missing_text (first_bad h state tiles)
party_lacks h rebuilt_log state tiles = None
party_lacks h cosigner state held = None
party_lacks h mirror state tiles = missing_text (first_bad_in_mirror h state tiles)

-- The kinds together.
abbrev pub party_kinds : HashFunction → Kinds
party_kinds h = record {
  Kind = PartyKind;
  State = PartyState;
  Fault = PartyFault;
  fold = party_fold h;
  fault_text = party_fault_text;
  beside = beside_party;
  lacks = party_lacks h;
}

-- ---- the file beside a journal

-- Which of its bytes go with which records of the journal: with those of a log, and of a mirror,
-- the tiles of its last size. A cosigner has no such file.
abbrev pub GoesWith : HashFunction → PartyKind → List Text → Text → Type 0
GoesWith h log = HasTilesOf h
GoesWith h rebuilt_log = HasTilesOf h
GoesWith h cosigner = λ list bytes. Unit {0}
GoesWith h mirror = HasMirrorTilesOf h

-- Those that go with records of the kind of the first of these journals.
abbrev pub GoesWithFirst : (h : HashFunction) → List (Journal (party_kinds h)) → List Text → Text
    → Type 0
GoesWithFirst h [] = λ list bytes. Unit {0}
GoesWithFirst h (opens kind beside name ∷ rest) = GoesWith h kind
GoesWithFirst h (makes kind name ∷ rest) = GoesWith h kind
